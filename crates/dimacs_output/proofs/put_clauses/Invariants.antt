use Rattle.point_slices.specs.Laws.Contracts.{clauses_lent}
use Rattle.text_output.specs.Laws.Putting.{PutFirst}
use Rattle.dimacs_text.specs.Laws.TextParts.{clause_part}
use Rattle.dimacs_output.proofs.put_clauses.Given as goal

abbrev pub invariant-loop-i : goal.invariant-loop-i
invariant-loop-i l = PutFirst (clause_part l.n) (clauses_lent l.fn.clauses) l.at l.initial.out l.i l.place l.out
