use Rattle.std.proofs.Common.{◌≡◌, ◌-◌, length}
use Rattle.point_slices.specs.Laws.Contracts.{clauses_lent}
use Rattle.point_slices.specs.Slices.{points_of, slot_slices}
use Rattle.permutation_coverage.specs.Laws.Coverage.{Imaged}
use Rattle.formula.specs.Limits.{max_permutations}
use Rattle.search_expansion.specs.Laws.Memory.{SameSizes}
use Rattle.search_loop.specs.Laws.Exploring.{Exploring}
use Rattle.search_loop.proofs.explore.Given as goal

abbrev pub invariant-loop-position : goal.invariant-loop-position
invariant-loop-position l =
    Exploring l.g (clauses_lent l.clauses) (slot_slices l.initial.points l.initial.falsified l.initial.depths) l.initial.position (slot_slices l.points l.falsified l.depths) l.links l.found l.position
    × SameSizes l.initial.points l.initial.falsified l.initial.depths l.initial.links l.points l.falsified l.depths l.links × (length l.found ≡ length l.initial.found)
    × (length l.moved ≡ max_permutations) × Imaged l.g.permutations.variables l.g.permutations.count l.g.permutations.images.now l.seen (points_of l.moved)

abbrev pub decreases-loop-position : goal.decreases-loop-position
decreases-loop-position l = l.g.room - l.position.at
