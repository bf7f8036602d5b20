-- `dimacs::read_lent` meets its contract: the size of the text, the problem line, its sizes, then the lines. Assumes
-- nothing.
use Rattle.dimacs_lines.specs.Laws.ParsedLaws.{answers_refused, answers_same}
use Rattle.dimacs.specs.Laws.ReadLaws.{answers_read, text_absent, text_malformed, text_sized}
use Rattle.dimacs_format.specs.Laws.ReaderLaws.{too_long}
use Rattle.dimacs.proofs.read_lent.Goals as goal

pub returns-then-size-gt-MAX_TEXT : goal.returns-then-size-gt-MAX_TEXT
returns-then-size-gt-MAX_TEXT c = answers_read (answers_refused (too_long c.args.text.now _ c.if-size-gt-MAX_TEXT.true))

pub returns-in_default : goal.returns-in_default
returns-in_default c = answers_read (answers_refused (text_absent c.args.text.now _ c.if-size-gt-MAX_TEXT.false c.in_default.ensures))

pub returns-in_default-read_problem : goal.returns-in_default-read_problem
returns-in_default-read_problem c =
    answers_read
    (answers_refused (text_malformed c.args.text.now _ c.if-size-gt-MAX_TEXT.false c.in-Some.line c.in-Some.ensures c.in_default-read_problem.ensures))

pub returns : goal.returns
returns c =
    answers_read
    (answers_same (text_sized c.args.text.now _ c.if-size-gt-MAX_TEXT.false c.in-Some.line c.in-Some.ensures _ c.in-Some-read_problem.ensures) c.read_sized.ensures)
