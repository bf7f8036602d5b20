use Rattle.std.proofs.Common.{◌≡◌, length}
use Rattle.point_slices.specs.Laws.Contracts.{clauses_lent}
use Rattle.point_slices.specs.Slices.{points_of}
use Rattle.search_level.specs.Laws.Testing.{Scans}
use Rattle.search_level.proofs.test_slots.Given as goal

abbrev pub invariant-loop-i : goal.invariant-loop-i
invariant-loop-i l = Scans (clauses_lent l.clauses) (points_of l.points) l.fn.position.at l.i l.best l.found × (length l.found ≡ length l.initial.found)
