-- `solver::solve_read` meets its contract: the parts handed on are the first clauses. Assumes nothing.
use Rattle.std.proofs.Common.{subst, le_trans}
use native.Mathlib.Nat.{min-le_left, min-le_right}
use Rattle.point_slices.specs.Laws.SliceLaws.{first_clauses_lem}
use Rattle.point_slices.specs.Slices.{slot_slices}
use Rattle.formula.specs.Laws.Contracts.{formula_lent}
use Rattle.claims.specs.Claim.{by_value}
use Rattle.solver.specs.Contract.{Solved}
use Rattle.solver.proofs.solve_read.Goals as goal

pub first_points-requires : goal.first_points-requires
first_points-requires c = le_trans c.requires (min-le_left _ _)

pub first_points-requires-2 : goal.first_points-requires-2
first_points-requires-2 c = le_trans c.requires (min-le_right _ _)

pub returns : goal.returns
returns c =
    let a = c.args in
    let called = c.solve_lent in
    subst (λ clauses. Solved (by_value (formula_lent a.f) clauses) (slot_slices a.points.now a.falsified.now a.depths.now) a.out.now called.result
    (slot_slices called.new.points called.new.falsified called.new.depths) called.new.out)
    (first_clauses_lem a.f.numbers.clauses a.clauses.positive.now a.clauses.negative.now _ _ c.first_points.ensures c.first_points-2.ensures) called.ensures
