use Rattle.math.specs.Laws.OverLaws.{Copying}
use Rattle.search_indexed.proofs.carry.Given as goal

abbrev pub invariant-loop-i : goal.invariant-loop-i
invariant-loop-i l = Copying l.count l.earlier l.initial.found l.i l.found
