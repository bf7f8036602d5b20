-- `formula::refusals::formula_refusal` meets its contract. Assumes nothing.
use Rattle.std.proofs.Common.{sym, ◌∙◌}
use Rattle.formula.specs.Refusals.{formula_fault}
use Rattle.formula.proofs.refusals.formula_refusal.Goals as goal
use Rattle.formula.proofs.refusals.formula_refusal.Goals.{else-fits-via-then-fits+else-below, else-fits-via-else-fits}

pub returns-then-below : goal.returns-then-below
unfolding formula_fault
returns-then-below c images = rw (sym c.fits.ensures ∙ c.if-fits.true, sym c.below.ensures ∙ c.if-below.true)

pub returns-else-fits : goal.returns-else-fits
unfolding formula_fault
returns-else-fits c images =
    elim c.else-fits.branch [ else-fits-via-then-fits+else-below w ↦ rw (sym c.fits.ensures ∙ w.if-fits.true, sym w.below.ensures ∙ w.if-below.false) | else-fits-via-else-fits w ↦ rw (sym c.fits.ensures ∙ w.if-fits.false) ]
