-- `dimacs::read_sized` meets its contract: the limits, the room, then the lines. Assumes nothing.
use Rattle.std.proofs.Common.{◌<◌, ◌≤◌, ◌∙◌, ap₂, subst}
use Prim.Native.Nat.{min}
use Rattle.dimacs_lines.specs.Laws.ParsedLaws.{answers_refused, answers_same}
use Rattle.dimacs.specs.Laws.ReadLaws.{sizes_outside, room_short, room_enough}
use Rattle.dimacs.proofs.read_sized.Goals as goal

pub returns-then-sizes-lt1 : goal.returns-then-sizes-lt1
returns-then-sizes-lt1 c = answers_refused (sizes_outside _ _ _ _ _ c.then-sizes-lt1.either)

pub returns-then-room-total : goal.returns-then-room-total
returns-then-room-total c =
    let room = c.min-room.ensures ∙ ap₂ min c.point_count.ensures c.point_count-2.ensures in
    answers_refused
    (room_short _ _ _ _ _ c.if-sizes-lt1.false c.if-sizes-gt-MAX_VARIABLES.false c.if-sizes-gt-MAX_CLAUSES.false (subst (λ k. k < c.args.sizes.total) room c.if-room-total.true))

pub returns : goal.returns
returns c =
    let room = c.min-room.ensures ∙ ap₂ min c.point_count.ensures c.point_count-2.ensures in
    answers_same
    (room_enough _ _ _ _ _ c.if-sizes-lt1.false c.if-sizes-gt-MAX_VARIABLES.false c.if-sizes-gt-MAX_CLAUSES.false (subst (λ k. c.args.sizes.total ≤ k) room c.if-room-total.false))
    c.read_clauses.ensures
