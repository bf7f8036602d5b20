-- A turn stores the next slot of the three lists joined.
use Rattle.std.proofs.Common.{ap, ◌∙◌, ◌<◌, length, get_or, set, zero-le, arith}
use Rattle.slot_columns.specs.Laws.Copies.{slot_of, joined, blank}
use Rattle.slot_columns.specs.Laws.SlotLaws.{front-none, front_next, joined_at, joined_long}
use Rattle.slot_columns.proofs.copy_back.Goals as goal

pub loop-j-init : goal.loop-j-init
loop-j-init c =
    record {
      within = zero-le;
      slots = front-none (joined c.args.points.now c.args.falsified.now c.args.depths.now) c.args.slots.now;
    }

pub loop-j-preserved : goal.loop-j-preserved
loop-j-preserved c =
    let all = joined c.args.points.now c.args.falsified.now c.args.depths.now in
    let made = slot_of (get_or c.args.points.now c.loop-j.j 0) (get_or c.args.falsified.now c.loop-j.j 0)
    (get_or c.args.depths.now c.loop-j.j 0) in
    let in_points : c.loop-j.j < length c.args.points.now = omega arith in
    let in_falsified : c.loop-j.j < length c.args.falsified.now = omega arith in
    let in_depths : c.loop-j.j < length c.args.depths.now = omega arith in
    record {
      within = omega arith;
      slots = ap (λ b. set b c.loop-j.j made) c.loop-j.invariant.slots
          ∙ front_next c.loop-j.j c.args.k all c.args.slots.now blank made c.loop-j-test.true
          (joined_long c.args.k c.args.points.now c.args.falsified.now c.args.depths.now c.requires.in_points
          c.requires.in_falsified c.requires.in_depths) c.requires.in_slots
          (joined_at c.loop-j.j c.args.points.now c.args.falsified.now c.args.depths.now in_points in_falsified
          in_depths);
    }
