-- What the functions of this crate promise each other. Assumes nothing.
use Rattle.std.specs.Prelude.{Result, List, ℕ}
use Rattle.point_slices.specs.Slices.{ClauseSlices}
use Rattle.formula.specs.declared.Formula.{Formula}
use Rattle.formula.specs.declared.reasons.Refusal.{Refusal}
use Rattle.certificate_writer.specs.Contract.{Wrote}
use Rattle.slot_columns.specs.declared.Slot.{Slot}
use Rattle.slot_columns.specs.Slots.{slots_in}

-- with the slots xs, of which so many are filled, out becomes out₁ and r is the answer
abbrev pub WroteSlots : Formula → ClauseSlices → List Slot → ℕ → List ℕ → Result ℕ Refusal → List ℕ → Type 0
WroteSlots f clauses xs filled out r out₁ = Wrote f clauses (slots_in xs) filled out r out₁
