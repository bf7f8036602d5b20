use Rattle.std.proofs.Common.{◌≡◌, length}
use Rattle.math.specs.Bits.{members}
use Rattle.point_slices.specs.Slices.{points_of}
use Rattle.permutation_coverage.specs.Laws.Coverage.{Moving}
use Rattle.permutation_coverage.proofs.move_images.Given as goal

abbrev pub invariant-loop-v : goal.invariant-loop-v
invariant-loop-v l = (length l.moved ≡ length l.initial.moved)
    × Moving l.permutations.variables l.permutations.count l.permutations.images.now l.y l.left l.v (points_of l.moved)

abbrev pub decreases-loop-v : goal.decreases-loop-v
decreases-loop-v l = length (members l.permutations.variables l.left)
