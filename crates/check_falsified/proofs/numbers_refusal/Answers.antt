-- `check_falsified::numbers_refusal` meets its contract: the number over all is, at index i, that over the indices from
-- i on. Assumes nothing.
use Rattle.std.proofs.Common.{sym, ◌∙◌}
use Rattle.math.specs.Laws.ScanLaws.{failing_begins, below_ends, below_stops, below_goes_on}
use Rattle.formula.specs.Laws.ReplyLaws.{fault_zero, fault_found}
use Rattle.certificate.specs.Rows.{numbers_fault}
use Rattle.check_falsified.proofs.numbers_refusal.Goals as goal

pub loop-i-init : goal.loop-i-init
loop-i-init c = failing_begins _ _ 0

pub returns-then-not-number_passes : goal.returns-then-not-number_passes
unfolding numbers_fault
returns-then-not-number_passes c =
    let l = c.loop-i in
    fault_found 17 _ _ (sym (l.invariant ∙ below_stops _ _ l.i c.loop-i-test.true (sym c.number_passes.ensures ∙ c.if-not-number_passes.true)))

pub loop-i-preserved : goal.loop-i-preserved
loop-i-preserved c =
    let l = c.loop-i in
    l.invariant ∙ below_goes_on _ _ l.i c.loop-i-test.true (sym c.number_passes.ensures ∙ c.if-not-number_passes.false)

pub returns : goal.returns
unfolding numbers_fault
returns c =
    let l = c.loop-i in
    fault_zero 17 _ (l.invariant ∙ below_ends _ _ l.i c.loop-i-test.false)
