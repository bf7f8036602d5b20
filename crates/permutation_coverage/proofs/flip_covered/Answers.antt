-- `permutation_coverage::flip_covered` meets its contract: the flip itself is looked up, else its images. Assumes nothing.
use Rattle.std.proofs.Common.{sym, ◌∙◌, lt_of_lt_of_le}
use Rattle.permutation_coverage.specs.Laws.CoverageLaws.{flip_askable, flip_found, flip-not_found}
use Rattle.permutation_coverage.proofs.flip_covered.Goals as goal

pub flip-flipped-requires : goal.flip-flipped-requires
flip-flipped-requires c = let pre = c.requires in lt_of_lt_of_le pre.1 pre.0.askable.few

pub contains-requires : goal.contains-requires
contains-requires c =
    let pre = c.requires in
    flip_askable _ _ _ c.args.permutations.count c.args.permutations.images.now _ _ pre.0.askable pre.1 _ c.flip-flipped.ensures

pub returns-then-contains : goal.returns-then-contains
returns-then-contains c =
    let pre = c.requires in
    c.if-contains.true ∙ flip_found _ _ _ _ _ _ _ pre.0.askable pre.1 _ c.flip-flipped.ensures _ c.contains.ensures c.if-contains.true

pub returns-else-contains : goal.returns-else-contains
returns-else-contains c =
    let pre = c.requires in
    c.image_covered.ensures
    ∙ sym (flip-not_found _ _ _ _ _ _ _ pre.0.askable pre.1 _ c.flip-flipped.ensures _ c.contains.ensures c.if-contains.false)
