-- `dimacs_problem::is_skipped` meets its contract: a comment, or all blanks. Assumes nothing.
use Rattle.std.proofs.Common.{sym, ◌∙◌}
use Rattle.dimacs_words.specs.Laws.ScanLaws.{head_compared}
use Rattle.dimacs_problem.specs.Laws.ProblemScanLaws.{skipped_comment, skipped_blank}
use Rattle.dimacs_format.specs.Text.{ascii, is_comment}
use Rattle.dimacs_problem.proofs.is_skipped.Goals as goal

pub returns-then-starts_with : goal.returns-then-starts_with
unfolding is_comment
returns-then-starts_with c =
    c.if-starts_with.true ∙ skipped_comment c.args.line.now (sym (head_compared (ascii "c") c.args.line.now) ∙ sym c.starts_with.ensures.value ∙ c.if-starts_with.true)

pub returns-else-starts_with : goal.returns-else-starts_with
unfolding is_comment
returns-else-starts_with c =
    skipped_blank c.args.line.now (sym (head_compared (ascii "c") c.args.line.now) ∙ sym c.starts_with.ensures.value ∙ c.if-starts_with.false) c.blank_from.ensures
