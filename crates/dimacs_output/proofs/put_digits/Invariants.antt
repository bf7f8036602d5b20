use Rattle.math.specs.Lists.{below}
use Rattle.text_output.specs.Laws.Putting.{PutFirst}
use Rattle.dimacs_text.specs.Laws.TextParts.{digit_part}
use Rattle.dimacs_output.proofs.put_digits.Given as goal

abbrev pub invariant-loop-i : goal.invariant-loop-i
invariant-loop-i l = PutFirst (digit_part l.x) (below l.n) l.at l.initial.out l.i l.place l.out
