use Rattle.std.proofs.Common.{◌≡◌, drop}
use Rattle.math.specs.Lists.{first_failing, below}
use Rattle.math.specs.Laws.ScanLaws.{on_from}
use Rattle.point_slices.specs.Laws.Contracts.{clauses_lent}
use Rattle.points.specs.Points.{numbered}
use Rattle.point_slices.specs.Slices.{points_of}
use Rattle.certificate.specs.Rows.{number_passes}
use Rattle.check_falsified.proofs.numbers_refusal.Given as goal

abbrev pub invariant-loop-i : goal.invariant-loop-i
invariant-loop-i l =
    first_failing (number_passes (numbered (clauses_lent l.clauses)) (points_of l.points) l.falsified) (below l.count)
    ≡ on_from l.i (first_failing (number_passes (numbered (clauses_lent l.clauses)) (points_of l.points) l.falsified) (drop l.i (below l.count)))
