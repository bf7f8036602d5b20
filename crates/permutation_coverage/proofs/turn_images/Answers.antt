-- `permutation_coverage::turn_images` meets its contract: before index i the images are turned. Assumes nothing.
use Rattle.std.proofs.Common.{refl, ◌∙◌}
use Rattle.permutation_coverage.specs.Laws.CoverageLaws.{turning_begins, turning_changes, turning_ends}
use Rattle.permutation_coverage.proofs.turn_images.Goals as goal

pub loop-i-init : goal.loop-i-init
loop-i-init g c = (refl, λ s h. turning_begins _ _ _ _ _)

pub loop-i-preserved : goal.loop-i-preserved
loop-i-preserved g c = (
  c.put_point.auto.points ∙ c.loop-i.invariant.0,
  λ s h. turning_changes _ _ _ _ _ c.requires.listed.0 c.requires.listed.1 (c.loop-i.invariant.1 s h) c.loop-i-test.true _ _ c.put_point.ensures.0
      (rw c.point_at.ensures at (h _ _ _ c.loop-i-test.true c.turned-image.ensures)),
)

pub returns : goal.returns
returns g c = λ s h. turning_ends _ _ _ _ _ (c.loop-i.invariant.1 s h) c.loop-i-test.false
