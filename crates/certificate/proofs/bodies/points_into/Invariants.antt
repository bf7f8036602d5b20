use Rattle.std.proofs.Common.{◌≡◌, length}
use Rattle.point_slices.specs.Slices.{points_of, rest_of}
use Rattle.certificate.specs.Bytes.{point_width}
use Rattle.certificate.specs.Laws.BytesLaws.{Decoding}
use Rattle.certificate.proofs.bodies.points_into.Given as goal

abbrev pub invariant-loop-i : goal.invariant-loop-i
invariant-loop-i l = (length l.to ≡ length l.initial.to) × Decoding point_width l.count l.body (points_of l.initial.to) l.i (points_of l.to) × (rest_of l.to ≡ rest_of l.initial.to)
