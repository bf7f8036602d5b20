use Rattle.std.proofs.Common.{◌≡◌, drop}
use Rattle.math.specs.Bits.{flip}
use Rattle.math.specs.Lists.{any}
use Rattle.point_index.specs.Laws.Looking.{indexed_points}
use Rattle.permutation_theory.specs.Permutations.{image_in}
use Rattle.permutation_images.specs.Laws.Contracts.{permutations_of}
use Rattle.permutation_coverage.proofs.image_covered.Given as goal

abbrev pub invariant-loop-i : goal.invariant-loop-i
invariant-loop-i l =
    any (image_in (indexed_points l.index) (flip l.x l.v)) (permutations_of l.permutations)
    ≡ any (image_in (indexed_points l.index) (flip l.x l.v)) (drop l.i (permutations_of l.permutations))
