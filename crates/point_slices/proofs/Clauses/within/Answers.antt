-- `Clauses::within` meets its contract: a clause stands in both slices. Assumes nothing.
use Rattle.std.proofs.Common.{sym, arith}
use Rattle.point_slices.specs.Laws.SliceLaws.{clause-at, clause_inside}
use Rattle.point_slices.specs.Slices.{points_of}
use Rattle.point_slices.proofs.Clauses.within.Goals as goal

pub offset_bounds-self-i : goal.offset_bounds-self-i
unfolding points_of
offset_bounds-self-i c = omega (arith, (clause_inside _ _ c.args.i c.requires).0, c.well_formed)

pub bounds-self-i : goal.bounds-self-i
unfolding points_of
bounds-self-i c = (clause_inside _ _ c.args.i c.requires).0

pub offset_bounds-self-i-2 : goal.offset_bounds-self-i-2
unfolding points_of
offset_bounds-self-i-2 c = omega (arith, (clause_inside _ _ c.args.i c.requires).1, c.well_formed)

pub bounds-self-i-2 : goal.bounds-self-i-2
unfolding points_of
bounds-self-i-2 c = (clause_inside _ _ c.args.i c.requires).1

pub returns : goal.returns
unfolding points_of
returns c =
    let inside = clause_inside _ _ c.args.i c.requires in
    sym (clause-at _ _ c.args.i inside.0 inside.1)
