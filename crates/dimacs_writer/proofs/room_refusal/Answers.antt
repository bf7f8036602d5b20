-- `dimacs_writer::room_refusal` meets its contract: an output that no text exceeds, a short one and a long one.
-- Assumes nothing.
use Rattle.std.proofs.Common.{sym, ap, ◌∙◌}
use Rattle.formula.specs.Laws.RefusalLaws.{too_short, long_enough}
use Rattle.formula.specs.Refusals.{room_fault}
use Rattle.point_slices.specs.Slices.{slices_lent}
use Rattle.formula.specs.Laws.Contracts.{formula_lent}
use Rattle.dimacs_writer.specs.Laws.WritingLaws.{room_longest}
use Rattle.dimacs_writer.proofs.room_refusal.Goals as goal

pub returns-then-lent-ge-LONGEST : goal.returns-then-lent-ge-LONGEST
returns-then-lent-ge-LONGEST c =
    let a = c.args in
    room_longest (formula_lent a.f) (slices_lent a.clauses) c.requires a.lent c.if-lent-ge-LONGEST.true

pub sheet_length-needed-requires : goal.sheet_length-needed-requires
sheet_length-needed-requires c = c.requires

pub returns-then-lent-needed : goal.returns-then-lent-needed
returns-then-lent-needed c =
    sym (ap (λ k. room_fault k c.args.lent) (sym c.sheet_length-needed.ensures) ∙ too_short _ c.args.lent c.if-lent-needed.true)

pub returns : goal.returns
returns c =
    sym (ap (λ k. room_fault k c.args.lent) (sym c.sheet_length-needed.ensures) ∙ long_enough _ c.args.lent c.if-lent-needed.false)
