use Rattle.std.proofs.Common.{◌≡◌, length, take}
use Rattle.math.specs.Lists.{spliced}
use Rattle.certificate.specs.Bytes.{bytes_of}
use Rattle.certificate_output.proofs.put_number.Given as goal

abbrev pub invariant-loop-i : goal.invariant-loop-i
invariant-loop-i l = (length l.out ≡ length l.initial.out) × (l.out ≡ spliced l.at (take l.i (bytes_of l.width l.x)) l.initial.out)
