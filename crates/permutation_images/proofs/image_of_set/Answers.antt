-- `permutation_images::image_of_set` meets its contract: what stays, and the image of what does not. Assumes nothing.
use Rattle.std.proofs.Common.{ap, ap₂, ◌∙◌, bit_or, bit_xor}
use Rattle.permutation_images.specs.Laws.SetLaws.{stays_and_leaves}
use Rattle.permutation_theory.specs.Permutations.{moved}
use Rattle.permutation_images.proofs.image_of_set.Goals as goal

pub returns : goal.returns
returns c =
    let a = c.args in
    c.union.ensures
    ∙ ap₂ bit_or c.common-staying.ensures (c.moved-arrived.ensures ∙ ap (moved a.e.now) (c.differing-leaving.ensures ∙ ap (bit_xor a.s) c.common-staying.ensures))
    ∙ stays_and_leaves c.requires.1 a.s
