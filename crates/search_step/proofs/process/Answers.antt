-- `search_step::process` meets its contract: a law of SteppingLaws for each of its two answers. Assumes nothing.
use Rattle.std.proofs.Common.{arith}
use Rattle.search_step.specs.Laws.SteppingLaws.{read_of, turn_numbered, read_fillable, read_below, read_room}
use Rattle.search_step.specs.Laws.SteppingLaws.{read_shallow, read_goes, read_keeps, read_stuck}
use Rattle.search_step.proofs.process.Goals as goal

pub overflow_sub-turn : goal.overflow_sub-turn
overflow_sub-turn c =
    let p = c.requires in
    omega (arith, turn_numbered _ _ p.resumable.searchable p.waits p.resumable.midway p.unmet p.number)

pub expand-requires : goal.expand-requires
expand-requires c =
    let p = c.requires in
    let s = p.resumable in
    let a = read_of p c.point_at.ensures c.at-clause.ensures c.listed-listed.ensures in
    (read_fillable _ _ s.searchable p.waits a s.midway p.linked s.lends p.imaged, p.headed, read_below _ _ s.searchable p.waits a s.midway)

pub overflow_add-bound : goal.overflow_add-bound
overflow_add-bound c =
    let p = c.requires in
    let a = read_of p c.point_at.ensures c.at-clause.ensures c.listed-listed.ensures in
    omega (arith, read_shallow _ _ p.resumable.searchable p.waits a p.resumable.midway)

pub overflow_cast-filled : goal.overflow_cast-filled
overflow_cast-filled c =
    let p = c.requires in
    let s = p.resumable in
    let a = read_of p c.point_at.ensures c.at-clause.ensures c.listed-listed.ensures in
    omega (arith, read_room _ _ s.searchable p.waits a c.in-Err.ensures.0 s.midway, s.searchable.most)

pub returns-in-Ok : goal.returns-in-Ok
returns-in-Ok c =
    let p = c.requires in
    let s = p.resumable in
    let a = read_of p c.point_at.ensures c.at-clause.ensures c.listed-listed.ensures in
    let flips = c.in-Ok.ensures in
    (read_goes _ _ s.searchable p.waits a flips.0, flips.1, read_keeps _ _ s.searchable p.waits a flips.0 s.midway)

pub returns-in-Err : goal.returns-in-Err
returns-in-Err c =
    let p = c.requires in
    let a = read_of p c.point_at.ensures c.at-clause.ensures c.listed-listed.ensures in
    (read_stuck _ _ p.resumable.searchable p.waits a c.in-Err.ensures.0, tt, tt)
