-- `permutation_coverage::next_images` meets its contract: both ways lead to the images of y, where they are not at hand.
-- Assumes nothing.
use Rattle.std.proofs.Common.{sym, ◌∙◌, subst, eqb-true}
use Rattle.point_slices.specs.Slices.{points_of}
use Rattle.point_slices.specs.Laws.SliceLaws.{same_count}
use Rattle.permutation_coverage.specs.Laws.Coverage.{Imaged}
use Rattle.permutation_coverage.specs.Laws.CoverageLaws.{turns_imaged}
use Rattle.permutation_coverage.proofs.next_images.Goals as goal

pub returns-then-same : goal.returns-then-same
returns-then-same c =
    let a = c.args in
    let p = a.permutations in
    subst (λ z. Imaged p.variables p.count p.images.now z (points_of a.moved.now)) (eqb-true a.x a.y (sym c.same.ensures ∙ c.if-same.true)) c.requires.2

pub returns-else-apart-le-NEAR : goal.returns-else-apart-le-NEAR
returns-else-apart-le-NEAR c = turns_imaged c.requires.2 c.requires.3 c.differing.ensures (same_count _ _ c.far_images.auto.moved) c.far_images.ensures
