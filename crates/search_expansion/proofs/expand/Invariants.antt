use Rattle.std.proofs.Common.{length}
use Rattle.math.specs.Bits.{members}
use Rattle.search_expansion.specs.Laws.Trying.{Trying}
use Rattle.point_slices.specs.Slices.{slot_slices}
use Rattle.search_expansion.specs.Laws.Memory.{SameSizes}
use Rattle.search_expansion.proofs.expand.Given as goal

abbrev pub invariant-loop-v : goal.invariant-loop-v
invariant-loop-v l =
    Trying l.g (slot_slices l.initial.points l.initial.falsified l.initial.depths) l.filled-2 l.from l.listed (slot_slices l.points l.falsified l.depths) l.links l.filled l.left l.v
    × SameSizes l.initial.points l.initial.falsified l.initial.depths l.initial.links l.points l.falsified l.depths l.links

abbrev pub decreases-loop-v : goal.decreases-loop-v
decreases-loop-v l = length (members l.g.permutations.variables l.left)
