use Rattle.std.proofs.Common.{◌≡◌}
use Rattle.point_slices.specs.Laws.Contracts.{clauses_lent}
use Rattle.point_slices.specs.Laws.SliceLaws.{falsified_from}
use Rattle.point_slices.proofs.Clauses.falsified_from.Given as goal

abbrev pub invariant-loop-i : goal.invariant-loop-i
invariant-loop-i l = falsified_from (clauses_lent l.self) l.x l.from ≡ falsified_from (clauses_lent l.self) l.x l.i
