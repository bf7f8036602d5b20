-- `formula::refusals::clauses_refusal` meets its contract. Assumes nothing.
use Rattle.std.proofs.Common.{sym, ◌∙◌}
use Rattle.formula.specs.Refusals.{clauses_fault}
use Rattle.formula.proofs.refusals.clauses_refusal.Goals as goal

pub returns-then-fits : goal.returns-then-fits
unfolding clauses_fault
returns-then-fits c images = rw (sym c.fits.ensures ∙ c.if-fits.true)

pub returns-else-fits : goal.returns-else-fits
unfolding clauses_fault
returns-else-fits c images = rw (sym c.fits.ensures ∙ c.if-fits.false)
