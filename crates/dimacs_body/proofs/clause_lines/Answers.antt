-- `dimacs_body::clause_lines` meets its contract: what is left of the walk over the lines is the whole walk. Assumes
-- nothing.
use Rattle.std.proofs.Common.{sym, ◌∙◌, arith, rules}
use Rattle.std.proofs.lemmas.Result.{err_from_is_err_and}
use Rattle.dimacs_body.specs.Laws.LineScanLaws.{going_begins, going_ends, going_later, going_goes_on}
use Rattle.dimacs_body.proofs.clause_lines.Goals as goal

pub loop-step-init : goal.loop-step-init
loop-step-init c = search (rules, going_begins)

pub returns-in_err-step : goal.returns-in_err-step
returns-in_err-step c =
    let p = err_from_is_err_and c.from_residual.result c.from_residual.ensures.1 in
    rw (p.1, p.2) (going_ends c.loop-step.invariant.0 c.in_err-step.ensures)

pub returns-then-text-stop : goal.returns-then-text-stop
returns-then-text-stop c = going_ends c.loop-step.invariant.0 c.in_ok-step.ensures

pub returns-then-opens_apart : goal.returns-then-opens_apart
returns-then-opens_apart c = going_ends c.loop-step.invariant.0 c.in_ok-step.ensures

pub loop-step-smaller : goal.loop-step-smaller
loop-step-smaller c = omega (arith, c.if-text-stop.false, going_later c.loop-step.invariant.0 c.in_ok-step.ensures)

pub loop-step-preserved : goal.loop-step-preserved
loop-step-preserved c = (
  going_goes_on c.loop-step.invariant.0 c.in_ok-step.ensures c.if-text-stop.false (sym c.opens_apart.ensures ∙ c.if-opens_apart.false),
  c.clause_line.auto.positive ∙ c.loop-step.invariant.1,
  c.clause_line.auto.negative ∙ c.loop-step.invariant.2,
)
