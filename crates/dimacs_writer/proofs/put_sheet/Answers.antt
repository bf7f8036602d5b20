-- `dimacs_writer::put_sheet` meets its contract: the parts of the text, one behind the other. Assumes nothing.
use Rattle.point_slices.specs.Slices.{slices_lent}
use Rattle.formula.specs.Laws.Contracts.{formula_lent}
use Rattle.dimacs_writer.specs.Laws.WritingLaws.{few_variables, some-variable, images_held_lem, all-permutations}
use Rattle.dimacs_writer.specs.Laws.WritingLaws.{listed_within, problem_room, target_room, permutations_room}
use Rattle.dimacs_writer.specs.Laws.WritingLaws.{clauses_room, sheet_put}
use Rattle.dimacs_writer.proofs.put_sheet.Goals as goal

pub put_line-first-requires : goal.put_line-first-requires
put_line-first-requires c =
    let a = c.args in
    problem_room (formula_lent a.f) (slices_lent a.clauses) c.requires

pub put_target-second-requires : goal.put_target-second-requires
put_target-second-requires c =
    let a = c.args in
    target_room (formula_lent a.f) (slices_lent a.clauses) c.requires c.put_line-first.ensures

pub put_permutations-third-requires : goal.put_permutations-third-requires
put_permutations-third-requires c =
    let f = formula_lent c.args.f in
    let cs = slices_lent c.args.clauses in
    rw c.permutations.ensures
    (some-variable f cs c.requires, few_variables f cs c.requires, images_held_lem f cs c.requires, all-permutations f cs c.requires, permutations_room f cs c.requires c.put_line-first.ensures c.put_target-second.ensures)

pub put_clauses-requires : goal.put_clauses-requires
put_clauses-requires c =
    let f = formula_lent c.args.f in
    let cs = slices_lent c.args.clauses in
    let third = rw c.permutations.ensures at c.put_permutations-third.ensures in
    (few_variables f cs c.requires, listed_within f cs c.requires, clauses_room f cs c.requires c.put_line-first.ensures c.put_target-second.ensures third)

pub returns : goal.returns
returns c =
    let third = rw c.permutations.ensures at c.put_permutations-third.ensures in
    sheet_put (formula_lent c.args.f) (slices_lent c.args.clauses) c.requires c.put_line-first.ensures c.put_target-second.ensures third c.put_clauses.ensures
