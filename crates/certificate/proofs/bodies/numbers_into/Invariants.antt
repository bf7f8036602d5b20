use Rattle.certificate.specs.Bytes.{number_width}
use Rattle.certificate.specs.Laws.BytesLaws.{Decoding}
use Rattle.certificate.proofs.bodies.numbers_into.Given as goal

abbrev pub invariant-loop-i : goal.invariant-loop-i
invariant-loop-i l = Decoding number_width l.count l.body l.initial.to l.i l.to
