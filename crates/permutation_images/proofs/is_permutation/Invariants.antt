use Rattle.std.proofs.Common.{◌≡◌, drop}
use Rattle.permutation_theory.specs.Permutations.{is_permutation}
use Rattle.permutation_images.specs.Laws.LoopLaws.{arranged}
use Rattle.permutation_images.proofs.is_permutation.Given as goal

abbrev pub invariant-loop-image : goal.invariant-loop-image
invariant-loop-image l = is_permutation l.n (record { images = l.e }) ≡ arranged l.n l.seen (drop l.image-index l.e)
