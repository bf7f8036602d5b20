-- `permutation_coverage::move_images` meets its contract: a law of CoverageLaws for each event of the loop. Assumes
-- nothing.
use Rattle.std.proofs.Common.{refl, sym, ◌∙◌, le_of_eq, le_trans, lt_of_lt_of_le}
use Rattle.point_slices.specs.Laws.SliceLaws.{same_count}
use Rattle.permutation_coverage.specs.Laws.CoverageLaws.{moving_begins, moving_less, moving_goes_on, moving_ends}
use Rattle.permutation_coverage.proofs.move_images.Goals as goal

pub loop-v-init : goal.loop-v-init
loop-v-init c = (refl, moving_begins c.requires.0.few _ c.requires.2 _ _ _ _ c.requires.1 c.differing-left.ensures c.next_variable-v.ensures)

pub flip_images-requires : goal.flip_images-requires
flip_images-requires c = (c.requires.0, le_trans c.requires.1.enough (le_of_eq (sym (same_count _ _ c.loop-v.invariant.0))), c.loop-v-test.true)

pub flip-left-requires : goal.flip-left-requires
flip-left-requires c = lt_of_lt_of_le c.loop-v-test.true c.requires.0.few

pub loop-v-smaller : goal.loop-v-smaller
loop-v-smaller c = moving_less c.requires.0.few _ c.requires.2 c.loop-v.invariant.1 _ c.loop-v-test.true c.flip-left.ensures

pub loop-v-preserved : goal.loop-v-preserved
loop-v-preserved c = (
  c.flip_images.auto.moved ∙ c.loop-v.invariant.0,
  moving_goes_on c.requires.0.few _ c.requires.2 c.loop-v.invariant.1 c.loop-v-test.true c.flip_images.ensures _ _ c.flip-left.ensures c.next_variable-v-in-loop-v.ensures,
)

pub shape_of-moved : goal.shape_of-moved
shape_of-moved c = c.loop-v.invariant.0

pub returns : goal.returns
returns c = moving_ends c.requires.0.few _ c.requires.2 c.loop-v.invariant.1 c.loop-v-test.false (le_trans c.requires.1.enough (le_of_eq (sym (same_count _ _ c.loop-v.invariant.0))))
