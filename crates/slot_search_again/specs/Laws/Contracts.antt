-- What the functions of this crate promise each other. Assumes nothing.
use Rattle.std.specs.Prelude.{List, ◌≡◌}
use Rattle.point_slices.specs.Slices.{ClauseSlices}
use Rattle.formula.specs.declared.Formula.{Formula}
use Rattle.formula.specs.Limits.{capacity}
use Rattle.formula.specs.Reply.{no_fault}
use Rattle.search.specs.declared.Found.{Found}
use Rattle.search.specs.Contract.{Searched}
use Rattle.search.specs.Search.{search_fault}
use Rattle.slot_columns.specs.declared.Slot.{Slot}
use Rattle.slot_columns.specs.Slots.{slots_in}

-- refusals 10 to 13 let the formula pass, with the slots xs lent
abbrev pub Accepted : Formula → ClauseSlices → List Slot → Type 0
Accepted f clauses xs = search_fault f clauses (capacity (slots_in xs)) ≡ no_fault

-- the slots xs are searched, with the answer r, and left as zs
abbrev pub SearchedSlots : Formula → ClauseSlices → List Slot → Found → List Slot → Type 0
SearchedSlots f clauses xs r zs = Searched f clauses (slots_in xs) r (slots_in zs)
