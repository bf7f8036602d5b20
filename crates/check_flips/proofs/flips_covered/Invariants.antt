use Rattle.std.proofs.Common.{◌≡◌, length}
use Rattle.point_slices.specs.Slices.{points_of}
use Rattle.math.specs.Bits.{members}
use Rattle.permutation_theory.specs.Permutations.{covered}
use Rattle.permutation_images.specs.Laws.Contracts.{permutations_of}
use Rattle.point_index.specs.Laws.Looking.{indexed_points}
use Rattle.check_flips.specs.Laws.Loops.{Flipping}
use Rattle.permutation_coverage.specs.Laws.Coverage.{Imaged}
use Rattle.check_flips.proofs.flips_covered.Given as goal

abbrev pub invariant-loop-v : goal.invariant-loop-v
invariant-loop-v l =
    (length l.moved ≡ length l.initial.moved)
    × Flipping (covered (permutations_of l.permutations) (indexed_points l.index)) l.permutations.variables l.x l.listed l.left l.v
    × Imaged l.permutations.variables l.permutations.count l.permutations.images.now l.seen (points_of l.moved)

abbrev pub decreases-loop-v : goal.decreases-loop-v
decreases-loop-v l = length (members l.permutations.variables l.left)
