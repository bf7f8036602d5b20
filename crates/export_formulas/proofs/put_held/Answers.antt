-- `export_formulas::put_held` meets its contract: without permutations the images are zeros. Assumes nothing.
use Rattle.std.proofs.Common.{sym, ap, ◌∙◌, length-take-le, replicate}
use Rattle.export_words.specs.Laws.WordLaws.{over_front}
use Rattle.formula.specs.Limits.{max_images}
use Rattle.export_formulas.proofs.put_held.Goals as goal

pub returns-then-permutations-eq0 : goal.returns-then-permutations-eq0
returns-then-permutations-eq0 c =
    let images = c.args.images.now in
    let zeros = c.fill.ensures.after (λ y e. e) ∙ ap (λ k. replicate k 0) (length-take-le max_images images c.requires.0) in
    over_front (zeros ∙ sym (c.requires.1 c.if-permutations-eq0.true)) c.told-held images

pub copy_from_slice-requires : goal.copy_from_slice-requires
copy_from_slice-requires c = length-take-le max_images c.args.images.now c.requires.0 ∙ sym c.told-held

pub returns-else-permutations-eq0 : goal.returns-else-permutations-eq0
returns-else-permutations-eq0 c = over_front c.copy_from_slice.ensures.after c.told-held c.args.images.now
