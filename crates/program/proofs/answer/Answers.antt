-- `program::answer` meets its contract: a longer input is refused unread. Assumes nothing.
use Rattle.program.specs.Laws.ProgramLaws.{prints_long, prints_sheet}
use Rattle.program.proofs.answer.Goals as goal

pub returns-then-text-gt-MAX_INPUT : goal.returns-then-text-gt-MAX_INPUT
returns-then-text-gt-MAX_INPUT c = prints_long _ c.if-text-gt-MAX_INPUT.true _ _ _ c.put_refused.ensures

pub returns : goal.returns
returns c = prints_sheet _ c.if-text-gt-MAX_INPUT.false _ _ _ c.read_sheet.ensures
