use Rattle.certificate.specs.Laws.BytesLaws.{Reading}
use Rattle.certificate.proofs.bodies.number_from.Given as goal

abbrev pub invariant-loop-byte : goal.invariant-loop-byte
invariant-loop-byte l = Reading l.bytes l.byte-iterator.iter.rest.now l.r
