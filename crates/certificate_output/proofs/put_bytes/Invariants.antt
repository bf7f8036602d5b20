use Rattle.std.proofs.Common.{◌≡◌, length, take}
use Rattle.math.specs.Lists.{spliced}
use Rattle.certificate_output.proofs.put_bytes.Given as goal

abbrev pub invariant-loop-i : goal.invariant-loop-i
invariant-loop-i l = (length l.out ≡ length l.initial.out) × (l.out ≡ spliced l.at (take l.i l.bytes) l.initial.out)
