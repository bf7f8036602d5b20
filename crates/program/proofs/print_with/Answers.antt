-- `program::print_with` meets its contract: what the arrays take is searched and put as with the largest. Assumes
-- nothing.
use Rattle.dimacs_format.specs.Laws.RoomLaws.{reads_alike}
use Rattle.solver.specs.Laws.SolverLaws.{clauses_held, few_room, parsed_not_4}
use Rattle.program.specs.Laws.ProgramLaws.{few_variables, prints_read}
use Rattle.program.proofs.print_with.Goals as goal

pub search_sheet-requires : goal.search_sheet-requires
search_sheet-requires g c =
    let called = c.read-parsed in
    let e = rw c.in_ok-parsed.was at called.ensures.reply in
    let alike = reads_alike _ _ _ (few_room g.row.CLAUSES c.requires.0) (parsed_not_4 e) in (
      clauses_held _ _ e _ called.ensures.formula _ called.ensures.clauses,
      few_variables _ _ alike e _ called.ensures.formula,
      c.requires.1,
    )

pub returns : goal.returns
returns g c =
    let called = c.read-parsed in
    let e = rw c.in_ok-parsed.was at called.ensures.reply in
    let alike = reads_alike _ _ _ (few_room g.row.CLAUSES c.requires.0) (parsed_not_4 e) in
    prints_read _ _ alike e _ called.ensures.formula _ called.ensures.clauses _ _ _ c.search_sheet.ensures
