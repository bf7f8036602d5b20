use Rattle.point_slices.specs.Slices.{points_of}
use Rattle.formula.specs.Laws.RefusalLaws.{UnionBelow}
use Rattle.formula.proofs.refusals.all_below.Given as goal

abbrev pub invariant-loop-i : goal.invariant-loop-i
invariant-loop-i l = UnionBelow l.n (points_of l.xs) l.all l.i
