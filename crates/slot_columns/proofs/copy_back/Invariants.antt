-- The first j slots are copied back.
use Rattle.std.proofs.Common.{◌≡◌, ◌≤◌}
use Rattle.slot_columns.specs.Laws.Copies.{joined, front}
use Rattle.slot_columns.proofs.copy_back.Given as goal

abbrev pub invariant-loop-j : goal.invariant-loop-j
invariant-loop-j l = record {
  within : l.j ≤ l.k;
  slots : l.slots ≡ front l.j (joined l.points l.falsified l.depths) l.initial.slots;
}
