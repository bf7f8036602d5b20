-- `certificate_writer::length_needed` meets its contract. Assumes nothing.
use Rattle.std.proofs.Common.{arith}
use Rattle.certificate.specs.Certificate.{certificate_length}
use Rattle.certificate_writer.proofs.length_needed.Goals as goal

pub returns : goal.returns
unfolding certificate_length
returns c = omega arith
