use Rattle.point_slices.specs.Slices.{points_of}
use Rattle.certificate.specs.Bytes.{point_width}
use Rattle.certificate_output.specs.Laws.OutputLaws.{Storing}
use Rattle.certificate_output.proofs.put_points.Given as goal

abbrev pub invariant-loop-i : goal.invariant-loop-i
invariant-loop-i l = Storing point_width l.at l.count (points_of l.points) l.initial.out l.i l.out
