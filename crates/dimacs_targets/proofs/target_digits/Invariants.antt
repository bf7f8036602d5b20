use Rattle.std.proofs.Common.{◌≡◌, ◌<◌, ◌^◌, take, drop}
use Rattle.dimacs_targets.specs.Laws.TargetScans.{binary_in}
use Rattle.dimacs_targets.specs.Laws.TargetScanLaws.{binary_from}
use Rattle.dimacs_targets.proofs.target_digits.Given as goal

abbrev pub invariant-loop-i : goal.invariant-loop-i
invariant-loop-i l = (l.x < 2 ^ l.i) × (binary_in l.n l.bytes ≡ binary_from l.x l.i (drop l.i (take l.n l.bytes)))
