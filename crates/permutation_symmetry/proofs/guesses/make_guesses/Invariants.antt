use Rattle.std.proofs.Common.{◌≤◌}
use Rattle.permutation_symmetry.proofs.guesses.make_guesses.Given as goal

abbrev pub invariant-loop-i : goal.invariant-loop-i
invariant-loop-i l = l.i-end ≤ 4096
