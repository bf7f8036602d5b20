use Rattle.dimacs_words.specs.Laws.ScanLaws.{Passed}
use Rattle.dimacs_words.proofs.read_digits.Given as goal

abbrev pub invariant-loop-i : goal.invariant-loop-i
invariant-loop-i l = Passed l.text l.from l.v l.i
