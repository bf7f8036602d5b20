use Rattle.std.proofs.Common.{◌-◌, length}
use Rattle.dimacs_words.specs.Laws.Scans.{Skipped}
use Rattle.dimacs_words.proofs.skip_blocks.Given as goal

abbrev pub invariant-loop-i : goal.invariant-loop-i
invariant-loop-i l = Skipped l.text l.from l.i

abbrev pub decreases-loop-i : goal.decreases-loop-i
decreases-loop-i l = length l.text - l.i
