-- A law of the slots that `search_slots` leaves. Assumes nothing.
use Rattle.std.specs.Prelude.{List, ◌≡◌}
use Rattle.std.proofs.Common.{sym, ◌∙◌}
use Rattle.point_slices.specs.Slices.{ClauseSlices}
use Rattle.formula.specs.declared.Formula.{Formula}
use Rattle.search.specs.declared.Found.{Found}
use Rattle.search.specs.Search.{search_slices}
use Rattle.search.specs.Contract.{Searched}
use Rattle.slot_columns.specs.declared.Slot.{Slot}
use Rattle.slot_columns.specs.Slots.{slots_in}
use Rattle.slot_columns.specs.Laws.Copies.{joined}
use Rattle.slot_columns.specs.Laws.SlotLaws.{joined_columns}

-- so the slots that `search_slots` leaves are the three lists that the search leaves, joined
pub slots-joined : (f : Formula) (clauses : ClauseSlices) (xs zs : List Slot) (r : Found)
    → Searched f clauses (slots_in xs) r (slots_in zs)
    → let left = search_slices f clauses (slots_in xs) in zs ≡ joined left.points left.falsified left.depths
slots-joined f clauses xs zs r s = sym (joined_columns zs)
    ∙ (λ i. joined (s.slots i).points (s.slots i).falsified (s.slots i).depths)
