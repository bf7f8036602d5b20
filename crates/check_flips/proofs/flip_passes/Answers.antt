-- `check_flips::flip_passes` meets its contract: the flip itself is looked up, else its images. Assumes nothing.
use Rattle.std.proofs.Common.{sym, ◌∙◌}
use Rattle.permutation_coverage.specs.Laws.CoverageLaws.{flip_askable, flip_found, flip-not_found}
use Rattle.check_flips.proofs.FlipLaws.{follows_covers}
use Rattle.check_flips.proofs.flip_passes.Goals as goal

pub contains-requires : goal.contains-requires
contains-requires c =
    let pre = c.requires in
    let es = c.args.permutations in
    flip_askable _ _ _ es.count es.images.now _ _ pre.0.askable pre.1 _ c.flip.ensures

pub returns-then-contains : goal.returns-then-contains
returns-then-contains c =
    let pre = c.requires in
    (flip_found _ _ _ _ _ _ _ pre.0.askable pre.1 _ c.flip.ensures _ c.contains.ensures c.if-contains.true, pre.0.imaged)

pub image_covered-requires : goal.image_covered-requires
image_covered-requires c = let pre = c.requires in (follows_covers pre.0 c.next_images.ensures, pre.1)

pub returns : goal.returns
returns c =
    let pre = c.requires in (
      c.image_covered.ensures ∙ sym (flip-not_found _ _ _ _ _ _ _ pre.0.askable pre.1 _ c.flip.ensures _ c.contains.ensures c.if-contains.false),
      c.next_images.ensures,
    )
