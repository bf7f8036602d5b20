-- `certificate::bodies::entry_at` meets its contract: the body holds as many numbers as its width goes into its length.
-- Assumes nothing.
use Rattle.std.proofs.Common.{sym, ap, ◌∙◌}
use mathlib.Core.Option.{some}
use Rattle.certificate.specs.Laws.ReaderLaws.{number_inside, number_outside}
use Rattle.certificate.proofs.bodies.entry_at.Goals as goal

pub returns-then-i-body : goal.returns-then-i-body
returns-then-i-body c = let a = c.args in ap some c.entry.ensures.0 ∙ sym (number_inside a.width a.body.now a.i c.if-i-body.true)

pub returns-else-i-body : goal.returns-else-i-body
returns-else-i-body c = let a = c.args in sym (number_outside a.width a.body.now a.i c.if-i-body.false)
