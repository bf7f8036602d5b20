-- `permutation_coverage::image_covered` meets its contract: whether an image is among the points is, at index i, whether
-- one under the permutations from i on is. Assumes nothing.
use Rattle.std.proofs.Common.{refl, rules}
use Rattle.permutation_coverage.specs.Laws.CoverageLaws.{flip_sends, image_askable, image_found, image_not_found}
use Rattle.permutation_coverage.specs.Laws.CoverageLaws.{none_found}
use Rattle.permutation_coverage.proofs.image_covered.Goals as goal

pub flipped_image-image-requires : goal.flipped_image-image-requires
flipped_image-image-requires c = let pre = c.requires in flip_sends pre.0.permuting _ c.loop-i-test.true _ pre.1

pub contains-requires : goal.contains-requires
contains-requires c =
    let pre = c.requires in
    let asked = image_askable pre.0 _ pre.1 _ c.loop-i-test.true _ (rw c.point_at.ensures at c.flipped_image-image.ensures) in
    search (rules, asked)

pub returns-then-contains : goal.returns-then-contains
returns-then-contains c = let pre = c.requires in image_found pre.0 _ pre.1 _ c.loop-i-test.true _ (rw c.point_at.ensures at c.flipped_image-image.ensures) c.loop-i.invariant _ c.contains.ensures c.if-contains.true

pub loop-i-preserved : goal.loop-i-preserved
loop-i-preserved c = let pre = c.requires in image_not_found pre.0 _ pre.1 _ c.loop-i-test.true _ (rw c.point_at.ensures at c.flipped_image-image.ensures) c.loop-i.invariant _ c.contains.ensures c.if-contains.false

pub returns : goal.returns
returns c = let pre = c.requires in none_found pre.0 _ pre.1 _ c.loop-i-test.false c.loop-i.invariant

pub loop-i-init : goal.loop-i-init
loop-i-init c = refl
