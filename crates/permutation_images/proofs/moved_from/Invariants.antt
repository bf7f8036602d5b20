use Rattle.std.proofs.Common.{◌≡◌, ◌/◌, ◌^◌, ◌≤◌, drop}
use Rattle.permutation_theory.specs.Permutations.{moved}
use Rattle.permutation_images.proofs.moved_from.Given as goal

abbrev pub invariant-loop-i : goal.invariant-loop-i
invariant-loop-i l = (l.first ≤ l.i) × (l.r ≡ moved (drop l.i l.e) (l.s / 2 ^ l.i))
