use Rattle.std.proofs.Common.{◌≡◌, ℕ, length}
use Rattle.point_slices.specs.Slices.{points_of}
use Rattle.permutation_coverage.specs.Laws.Coverage.{Changes, Turning}
use Rattle.permutation_coverage.proofs.turn_images.Given as goal

abbrev pub invariant-loop-i : goal.invariant-loop-i
invariant-loop-i g l = (length l.moved ≡ length l.initial.moved)
    × ((s : ℕ) → Changes l.permutations.variables l.permutations.count l.permutations.images.now s (goal.F-post g l.turned)
    → Turning l.permutations.variables l.permutations.count l.permutations.images.now s (points_of l.initial.moved) l.i (points_of l.moved))
