use Rattle.std.proofs.Common.{length}
use Rattle.math.specs.Bits.{members}
use Rattle.points.specs.Laws.Contracts.{clause_of}
use Rattle.dimacs_output.specs.Laws.ClausePutting.{PuttingClause}
use Rattle.dimacs_output.proofs.put_clause.Given as goal

abbrev pub invariant-loop-v : goal.invariant-loop-v
invariant-loop-v l = PuttingClause l.n (clause_of l.c) l.at l.initial.out l.left l.v l.place l.out

abbrev pub decreases-loop-v : goal.decreases-loop-v
decreases-loop-v l = length (members l.n l.left)
