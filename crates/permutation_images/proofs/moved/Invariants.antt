use Rattle.std.proofs.Common.{◌≤◌, length}
use Rattle.math.specs.Bits.{members}
use Rattle.permutation_images.specs.Laws.SetLaws.{Sending}
use Rattle.permutation_images.proofs.moved.Given as goal

abbrev pub invariant-loop-v : goal.invariant-loop-v
invariant-loop-v l = Sending l.e l.s l.left l.v l.r × (l.taken ≤ 8)

abbrev pub decreases-loop-v : goal.decreases-loop-v
decreases-loop-v l = length (members (length l.e) l.left)
