use Rattle.std.proofs.Common.{◌≡◌, ◌+◌, ◌-◌, ◌≤◌, length, drop}
use Rattle.dimacs_format.specs.Reader.{from_problem}
use Rattle.dimacs_format.specs.Text.{lines}
use Rattle.dimacs_problem.proofs.find_problem.Given as goal

abbrev pub invariant-loop-start : goal.invariant-loop-start
invariant-loop-start l = (l.start ≤ length l.text) × (from_problem (lines 0 l.text) ≡ from_problem (lines l.start (drop l.start l.text)))

abbrev pub decreases-loop-start : goal.decreases-loop-start
decreases-loop-start l = length l.text + 1 - l.start
