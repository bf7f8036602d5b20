-- `exports::writing::jugbowo_write` meets its contract: with room for the answer it tells what the writer answers.
-- Assumes nothing.
use Rattle.point_slices.specs.Slices.{clause_slices, slot_slices}
use Rattle.export_words.specs.Laws.WritingLaws.{tells_nothing, tells_writing}
use Rattle.exports.proofs.writing.jugbowo_write.Goals as goal

pub returns-then-reply-lt-WORDS : goal.returns-then-reply-lt-WORDS
returns-then-reply-lt-WORDS c =
    let a = c.args in
    tells_nothing _ (clause_slices a.positive.now a.negative.now) (slot_slices a.points.now a.falsified.now a.depths.now) a.filled a.out.now a.reply.now c.if-reply-lt-WORDS.true

pub returns-then-images-lt-MAX_IMAGES : goal.returns-then-images-lt-MAX_IMAGES
returns-then-images-lt-MAX_IMAGES c =
    let a = c.args in
    tells_writing _ (clause_slices a.positive.now a.negative.now) (slot_slices a.points.now a.falsified.now a.depths.now) a.filled a.out.now a.reply.now _ c.write_lent-r.result _ _
    c.if-reply-lt-WORDS.false c.formula_view-f.ensures c.write_lent-r.ensures c.put_written.ensures

pub returns : goal.returns
returns c =
    let a = c.args in
    tells_writing _ (clause_slices a.positive.now a.negative.now) (slot_slices a.points.now a.falsified.now a.depths.now) a.filled a.out.now a.reply.now _ c.write_lent-r-2.result _ _
    c.if-reply-lt-WORDS.false c.whole_view-f.ensures c.write_lent-r-2.ensures c.put_written-2.ensures
