use Rattle.std.proofs.Common.{true, ◌≡◌, ℕ, ◌≤◌, ◌<◌, get_or}
use Rattle.dimacs_words.specs.Laws.Scans.{belongs}
use Rattle.dimacs_words.proofs.run_end.Given as goal

abbrev pub invariant-loop-i : goal.invariant-loop-i
invariant-loop-i l = (k : ℕ) → l.from ≤ k → k < l.i → belongs l.class (get_or l.bytes k 0) ≡ true
