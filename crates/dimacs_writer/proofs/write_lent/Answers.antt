-- `dimacs_writer::write_lent` meets its contract: a law of WritingLaws for each way out. Assumes nothing.
use Rattle.std.proofs.lemmas.Result.{err_from_is_err_and}
use Rattle.point_slices.specs.Slices.{slices_lent}
use Rattle.formula.specs.Laws.Contracts.{formula_lent}
use Rattle.dimacs_writer.specs.Laws.WritingLaws.{wrote_faulty, writable_of, wrote_all}
use Rattle.dimacs_writer.proofs.write_lent.Goals as goal

pub returns-in_err-sheet_refusal : goal.returns-in_err-sheet_refusal
returns-in_err-sheet_refusal c =
    let p = err_from_is_err_and c.from_residual.result c.from_residual.ensures.1 in
    rw (p.1, p.2) (wrote_faulty _ _ _ _ c.in_err-sheet_refusal.ensures)

pub put_sheet-size-requires : goal.put_sheet-size-requires
put_sheet-size-requires c =
    let a = c.args in
    writable_of (formula_lent a.f) (slices_lent a.clauses) a.out.now c.in_ok-sheet_refusal.ensures a.f.whole

pub returns : goal.returns
returns c =
    let a = c.args in
    wrote_all (formula_lent a.f) (slices_lent a.clauses) a.out.now c.in_ok-sheet_refusal.ensures c.put_sheet-size.ensures
