-- The first i places of each slice are copied.
use Rattle.std.proofs.Common.{◌≡◌, ◌≤◌}
use Rattle.slot_columns.specs.Slots.{points_in, falsified_in, depths_in}
use Rattle.slot_columns.specs.Laws.Copies.{front}
use Rattle.slot_columns.proofs.copy_out.Given as goal

abbrev pub invariant-loop-i : goal.invariant-loop-i
invariant-loop-i l = record {
  within : l.i ≤ l.k;
  points : l.points ≡ front l.i (points_in l.slots) l.initial.points;
  falsified : l.falsified ≡ front l.i (falsified_in l.slots) l.initial.falsified;
  depths : l.depths ≡ front l.i (depths_in l.slots) l.initial.depths;
}
