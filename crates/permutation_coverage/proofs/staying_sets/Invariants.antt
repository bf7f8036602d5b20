use Rattle.std.proofs.Common.{◌≡◌, ◌*◌, ◌≤◌, length}
use Rattle.point_slices.specs.Slices.{points_of}
use Rattle.permutation_coverage.specs.Laws.Coverage.{Staying}
use Rattle.permutation_coverage.proofs.staying_sets.Given as goal

abbrev pub invariant-loop-i : goal.invariant-loop-i
invariant-loop-i l = (length l.stay ≡ length l.initial.stay)
    × Staying l.permutations.variables l.i l.permutations.images.now (points_of l.stay) × (l.total ≤ l.i * 4294967295)
