-- `dimacs_problem::read_problem` meets its contract: four words, one behind the other, then blanks. Assumes nothing.
use Rattle.std.proofs.Common.{◌≡◌, sym, ◌∙◌, true}
use Rattle.dimacs_words.specs.Laws.ScanLaws.{head_compared}
use Rattle.dimacs_problem.specs.Laws.ProblemScanLaws.{problem_other, problem-first, problem_second, problem_third}
use Rattle.dimacs_problem.specs.Laws.ProblemScanLaws.{problem_fourth, problem_trailed, problem_whole}
use Rattle.dimacs_format.specs.Text.{begins, problem_word}
use Rattle.dimacs_problem.proofs.read_problem.Goals as goal
use Rattle.dimacs_problem.proofs.read_problem.Goals.{Else-not-starts_with}

-- the line begins with its byte
begun : (c : Else-not-starts_with) → begins problem_word c.args.line.now ≡ true
begun c = sym (head_compared problem_word _) ∙ sym c.starts_with.ensures.value ∙ c.if-not-starts_with.false

pub returns-then-not-starts_with : goal.returns-then-not-starts_with
returns-then-not-starts_with c =
    problem_other c.args.line.now (sym (head_compared problem_word _) ∙ sym c.starts_with.ensures.value ∙ c.if-not-starts_with.true)

pub returns-in_err-head : goal.returns-in_err-head
returns-in_err-head c =
    rw c.from_residual.ensures
    (problem-first c.args.line.now (begun (goal.at.returns-in_err-head c).Else-not-starts_with) c.in_err-head.ensures)

pub returns-in_err-format : goal.returns-in_err-format
returns-in_err-format c =
    rw c.from_residual-in_err-format.ensures
    (problem_second c.args.line.now (begun (goal.at.returns-in_err-format c).Else-not-starts_with) _ c.in_ok-head.ensures c.in_err-format.ensures)

pub returns-in_err-variables : goal.returns-in_err-variables
returns-in_err-variables c =
    rw c.from_residual-in_err-variables.ensures
    (problem_third c.args.line.now (begun (goal.at.returns-in_err-variables c).Else-not-starts_with) _ c.in_ok-head.ensures _ c.in_ok-format.ensures
    c.in_err-variables.ensures)

pub returns-in_err-total : goal.returns-in_err-total
returns-in_err-total c =
    rw c.from_residual-in_err-total.ensures
    (problem_fourth c.args.line.now (begun (goal.at.returns-in_err-total c).Else-not-starts_with) _ c.in_ok-head.ensures _ c.in_ok-format.ensures _
    c.in_ok-variables.ensures c.in_err-total.ensures)

pub returns-then-not-blank_from : goal.returns-then-not-blank_from
returns-then-not-blank_from c =
    problem_trailed c.args.line.now (begun (goal.at.returns-then-not-blank_from c).Else-not-starts_with) _ c.in_ok-head.ensures _ c.in_ok-format.ensures _
    c.in_ok-variables.ensures _ c.in_ok-total.ensures (sym c.blank_from.ensures ∙ c.if-not-blank_from.true)

pub returns : goal.returns
returns c =
    problem_whole c.args.line.now (begun (goal.at.returns c).Else-not-starts_with) _ c.in_ok-head.ensures _ c.in_ok-format.ensures _
    c.in_ok-variables.ensures _ c.in_ok-total.ensures (sym c.blank_from.ensures ∙ c.if-not-blank_from.false)
