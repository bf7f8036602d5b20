-- A turn stores the next element of each part.
use Rattle.std.proofs.Common.{ap, ◌∙◌, set, zero-le, arith}
use Rattle.slot_columns.specs.declared.Slot.{Slot}
use Rattle.slot_columns.specs.Slots.{points_in, falsified_in, depths_in}
use Rattle.slot_columns.specs.Laws.Copies.{slot_or}
use Rattle.slot_columns.specs.Laws.SlotLaws.{front-none, column_next}
use Rattle.slot_columns.proofs.copy_out.Goals as goal

pub loop-i-init : goal.loop-i-init
loop-i-init c =
    record {
      within = zero-le;
      points = front-none (points_in c.args.slots.now) c.args.points.now;
      falsified = front-none (falsified_in c.args.slots.now) c.args.falsified.now;
      depths = front-none (depths_in c.args.slots.now) c.args.depths.now;
    }

pub loop-i-preserved : goal.loop-i-preserved
loop-i-preserved c =
    let s = slot_or c.args.slots.now c.loop-i.i in
    record {
      within = omega arith;
      points = ap (λ b. set b c.loop-i.i s.point) c.loop-i.invariant.points
          ∙ column_next (λ (s : Slot). s.point) c.loop-i.i c.args.k c.args.slots.now c.args.points.now
          c.loop-i-test.true c.requires.in_slots c.requires.in_points;
      falsified = ap (λ b. set b c.loop-i.i s.falsified) c.loop-i.invariant.falsified
          ∙ column_next (λ (s : Slot). s.falsified) c.loop-i.i c.args.k c.args.slots.now c.args.falsified.now
          c.loop-i-test.true c.requires.in_slots c.requires.in_falsified;
      depths = ap (λ b. set b c.loop-i.i s.depth) c.loop-i.invariant.depths
          ∙ column_next (λ (s : Slot). s.depth) c.loop-i.i c.args.k c.args.slots.now c.args.depths.now
          c.loop-i-test.true c.requires.in_slots c.requires.in_depths;
    }
