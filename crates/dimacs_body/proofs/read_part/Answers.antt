-- `dimacs_body::read_part` meets its contract: a comment, a percent line, or lines of words. Assumes nothing.
use Rattle.std.proofs.Common.{sym, ◌∙◌}
use Rattle.std.proofs.lemmas.Result.{err_from_is_err_and}
use Rattle.dimacs_body.specs.Laws.LineScanLaws.{comment_there, part_comment, comment_refused, part_percent, part_words}
use Rattle.dimacs_body.specs.Laws.LineScanLaws.{words_refused}
use Rattle.dimacs_body.proofs.read_part.Goals as goal

pub read_comment-requires : goal.read_comment-requires
read_comment-requires c =
    (c.requires.0.kept, comment_there c.args.text.now c.line_end-stop.ensures ∙ sym c.opens_comment.ensures ∙ c.if-opens_comment.true)

pub returns-in_err-more : goal.returns-in_err-more
returns-in_err-more c =
    let p = err_from_is_err_and c.from_residual.result c.from_residual.ensures.1 in
    rw (p.1, p.2)
    (comment_refused c.requires.0 c.requires.1 (sym c.opens_comment.ensures ∙ c.if-opens_comment.true) c.line_end-stop.ensures c.in_err-more.ensures)

pub returns-then-opens_comment : goal.returns-then-opens_comment
returns-then-opens_comment c =
    part_comment c.requires.0 c.requires.1 (sym c.opens_comment.ensures ∙ c.if-opens_comment.true) c.line_end-stop.ensures c.in_ok-more.ensures

pub returns-then-percent_line : goal.returns-then-percent_line
returns-then-percent_line c = part_percent c.requires.0 c.requires.1 (sym c.percent_line.ensures ∙ c.if-percent_line.true)

pub clause_lines-requires : goal.clause_lines-requires
clause_lines-requires c = (
  c.requires.0.ready,
  c.requires.1,
  record {
    no_comment = sym c.opens_comment.ensures ∙ c.if-opens_comment.false;
    no_percent = sym c.percent_line.ensures ∙ c.if-percent_line.false;
  },
)

pub returns-in_err-step : goal.returns-in_err-step
returns-in_err-step c =
    let p = err_from_is_err_and c.from_residual-in_err-step.result c.from_residual-in_err-step.ensures.1 in
    rw (p.1, p.2) (words_refused c.requires.0 c.in_err-step.ensures)

pub returns : goal.returns
returns c = part_words c.requires.0 c.in_ok-step.ensures
