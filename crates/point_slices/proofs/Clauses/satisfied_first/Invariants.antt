use Rattle.std.proofs.Common.{◌≡◌, ◌*◌}
use Rattle.point_slices.specs.Laws.Contracts.{clauses_lent}
use Rattle.point_slices.specs.Laws.SliceLaws.{falsified_from}
use Rattle.point_slices.proofs.Clauses.satisfied_first.Given as goal

abbrev pub invariant-loop-k : goal.invariant-loop-k
invariant-loop-k l = falsified_from (clauses_lent l.self) l.x 0 ≡ falsified_from (clauses_lent l.self) l.x (4 * l.k)
