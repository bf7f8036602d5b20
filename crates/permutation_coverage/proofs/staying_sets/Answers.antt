-- `permutation_coverage::staying_sets` meets its contract: before index i there is the set of each permutation. Assumes
-- nothing.
use Rattle.std.proofs.Common.{refl, sym, ◌∙◌, subst, le_of_eq, lt_of_lt_of_le, le_trans, arith}
use Rattle.point_slices.specs.Laws.SliceLaws.{same_count}
use Rattle.permutation_images.specs.Laws.Contracts.{Movable}
use Rattle.permutation_images.specs.Laws.LoopLaws.{listed_room, listed_movable}
use Rattle.permutation_coverage.specs.Laws.CoverageLaws.{staying_none, staying_next, staying_all}
use Rattle.permutation_coverage.proofs.staying_sets.Goals as goal

pub loop-i-init : goal.loop-i-init
loop-i-init c = (refl, staying_none, omega arith)

pub at-requires : goal.at-requires
at-requires c = listed_room _ _ _ _ c.requires.0.listed c.loop-i-test.true

pub fixed-still-requires : goal.fixed-still-requires
fixed-still-requires c = subst Movable (sym c.at.ensures) (listed_movable _ _ _ _ c.requires.0.listed c.loop-i-test.true)

pub overflow_add-total : goal.overflow_add-total
overflow_add-total c = omega arith

pub loop-i-preserved : goal.loop-i-preserved
loop-i-preserved c = (
  c.put_point.auto.points ∙ c.loop-i.invariant.0,
  staying_next c.loop-i.invariant.1 (lt_of_lt_of_le c.loop-i-test.true (le_trans c.requires.1 (le_of_eq (sym (same_count _ _ c.loop-i.invariant.0))))) _ c.at.ensures c.fixed-still.ensures _ c.put_point.ensures.0,
  omega arith,
)

pub shape_of-stay : goal.shape_of-stay
shape_of-stay c = c.loop-i.invariant.0

pub returns : goal.returns
returns c = staying_all c.loop-i.invariant.1 c.loop-i-test.false
