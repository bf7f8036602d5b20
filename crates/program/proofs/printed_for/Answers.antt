-- `program::printed_for` meets its contract: what was put stands at the front of the output. Assumes nothing.
use Rattle.std.proofs.Common.{rules}
use Rattle.program_text.specs.Laws.ReportLaws.{put_within, put_stands}
use Rattle.program.proofs.printed_for.Goals as goal

pub slice_bounds-result-end : goal.slice_bounds-result-end
slice_bounds-result-end c = search (rules, put_within _ _ _ _ c.answer-size.ensures)

pub returns : goal.returns
returns c = put_stands _ _ _ _ c.answer-size.ensures
