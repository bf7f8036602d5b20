-- `exports::solving::jugbowo_solve` meets its contract: with room for the answer it tells what the solver answers.
-- Assumes nothing.
use Rattle.point_slices.specs.Slices.{slot_slices}
use Rattle.exports.specs.Laws.SolvingLaws.{tells_nothing, tells_solution}
use Rattle.exports.proofs.solving.jugbowo_solve.Goals as goal

pub returns-then-reply-lt-WORDS : goal.returns-then-reply-lt-WORDS
returns-then-reply-lt-WORDS c =
    let a = c.args in
    tells_nothing a.text.now (slot_slices a.points.now a.falsified.now a.depths.now) a.out.now a.reply.now c.if-reply-lt-WORDS.true

pub solve-r-requires : goal.solve-r-requires
solve-r-requires c = tt

pub put_settled-requires : goal.put_settled-requires
put_settled-requires c = c.if-reply-lt-WORDS.false

pub shape_of-points : goal.shape_of-points
shape_of-points c = c.solve-r.auto.points

pub shape_of-falsified : goal.shape_of-falsified
shape_of-falsified c = c.solve-r.auto.falsified

pub shape_of-depths : goal.shape_of-depths
shape_of-depths c = c.solve-r.auto.depths

pub shape_of-out : goal.shape_of-out
shape_of-out c = c.solve-r.auto.out

pub shape_of-reply : goal.shape_of-reply
shape_of-reply c = c.put_settled.auto.reply

pub returns : goal.returns
returns c =
    let a = c.args in
    tells_solution a.text.now (slot_slices a.points.now a.falsified.now a.depths.now) a.out.now a.reply.now c.solve-r.result _ _ _
    c.if-reply-lt-WORDS.false c.solve-r.ensures c.put_settled.ensures
