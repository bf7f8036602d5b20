-- `exports::printing::jugbowo_nearest` meets its contract: it tells how long the program's text is, and puts it where
-- it fits. Assumes nothing.
use Rattle.std.proofs.Common.{le_refl}
use Rattle.program_text.specs.Report.{longest_text}
use Rattle.program_text.specs.Laws.ReportLaws.{put_within}
use Rattle.exports.specs.Laws.PrintingLaws.{keeps_output, puts_text}
use Rattle.exports.proofs.printing.jugbowo_nearest.Goals as goal

pub answer-count-requires : goal.answer-count-requires
answer-count-requires c = le_refl longest_text

pub returns-then-out-count : goal.returns-then-out-count
returns-then-out-count c = keeps_output _ _ _ _ _ c.answer-count.ensures c.if-out-count.true

pub copy_bytes-requires : goal.copy_bytes-requires
copy_bytes-requires c = (c.if-out-count.false, put_within _ _ _ _ c.answer-count.ensures)

pub returns : goal.returns
returns c = puts_text _ _ _ _ _ c.answer-count.ensures c.if-out-count.false _ c.copy_bytes.ensures
