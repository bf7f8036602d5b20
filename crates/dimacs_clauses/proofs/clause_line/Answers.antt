-- `dimacs_clauses::clause_line` meets its contract: what is left of the walk over the words is the whole walk. Assumes
-- nothing.
use Rattle.std.proofs.Common.{rules, eq-eqb, ne_eqb}
use Rattle.std.proofs.lemmas.Result.{err_from_is_err_and}
use Rattle.dimacs_format.specs.Text.{ends_line}
use Rattle.dimacs_clauses.specs.Laws.ClauseScanLaws.{along_begins, along_ends, along_over, along_stops}
use Rattle.dimacs_clauses.specs.Laws.ClauseScanLaws.{along_goes_on}
use Rattle.dimacs_clauses.proofs.clause_line.Goals as goal

-- the byte there does not end the line
pub clause_word-requires : goal.clause_word-requires
unfolding ends_line
clause_word-requires c = (c.loop-cursor.invariant.0.ready, c.loop-cursor-test.true, ne_eqb _ _ c.if-text-cursor-eq10.false)

pub returns-then-text-cursor-eq10 : goal.returns-then-text-cursor-eq10
unfolding ends_line
returns-then-text-cursor-eq10 c = along_over c.loop-cursor.invariant.0 (eq-eqb _ _ c.if-text-cursor-eq10.true)

pub returns-after-loop-cursor : goal.returns-after-loop-cursor
returns-after-loop-cursor c = along_ends c.loop-cursor.invariant.0 c.loop-cursor-test.false

pub returns-in_err-step : goal.returns-in_err-step
returns-in_err-step c =
    let p = err_from_is_err_and c.from_residual.result c.from_residual.ensures.1 in
    rw (p.1, p.2) (along_stops c.loop-cursor.invariant.0 c.in_err-step.ensures)

pub loop-cursor-init : goal.loop-cursor-init
loop-cursor-init c = search (rules, along_begins)

pub loop-cursor-preserved : goal.loop-cursor-preserved
loop-cursor-preserved c = search (rules, along_goes_on)
