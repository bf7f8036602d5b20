use Rattle.permutation_images.specs.Laws.Contracts.{Fixes}
use Rattle.permutation_images.proofs.fixed.Given as goal

abbrev pub invariant-loop-i : goal.invariant-loop-i
invariant-loop-i l = Fixes l.e l.i l.r
