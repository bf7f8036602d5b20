-- `exports::sheets::jugbowo_write_sheet` meets its contract: with room for the answer it tells what the writer answers.
-- Assumes nothing.
use Rattle.point_slices.specs.Slices.{clause_slices}
use Rattle.export_words.specs.Laws.WritingLaws.{tells_none}
use Rattle.export_sheets.specs.Laws.SheetLaws.{tells_sheet}
use Rattle.exports.proofs.sheets.jugbowo_write_sheet.Goals as goal

pub returns-then-reply-lt-WORDS : goal.returns-then-reply-lt-WORDS
returns-then-reply-lt-WORDS c = tells_none _ _ c.args.out.now c.args.reply.now c.if-reply-lt-WORDS.true

pub put_written-requires : goal.put_written-requires
put_written-requires c = c.if-reply-lt-WORDS.false

pub returns : goal.returns
returns c =
    let a = c.args in
    tells_sheet _ (clause_slices a.positive.now a.negative.now) a.out.now a.reply.now c.sheet_from.result _ _ c.if-reply-lt-WORDS.false c.sheet_from.ensures c.put_written.ensures
