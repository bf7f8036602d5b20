-- What the functions that read, store and copy slots cite beside the parts of the slots. Assumes nothing.
use Rattle.std.specs.Prelude.{List, [], ◌∷◌, ℕ, ◌≤◌, get_or, take}
use Rattle.math.specs.Lists.{over}
use Rattle.slot_columns.specs.declared.Slot.{Slot}

-- a slot of its three parts
abbrev pub slot_of : ℕ → ℕ → ℕ → Slot
slot_of x n d = record { point = x; falsified = n; depth = d }

-- a slot of zeros
abbrev pub blank : Slot
blank = slot_of 0 0 0

-- the slot at an index; behind the end, that of zeros
abbrev pub slot_or : List Slot → ℕ → Slot
slot_or xs i = get_or xs i blank

-- the slots of three lists, as many as the shortest has
abbrev pub joined : List ℕ → List ℕ → List ℕ → List Slot
joined [] ns ds = []
joined (x ∷ xs) [] ds = []
joined (x ∷ xs) (n ∷ ns) [] = []
joined (x ∷ xs) (n ∷ ns) (d ∷ ds) = slot_of x n d ∷ joined xs ns ds

-- the first k of xs in front of what else was there
abbrev pub front : {X : Type 0} → ℕ → List X → List X → List X
front k xs old = over (take k xs) old

-- a count that four lengths allow
pub record Within (k slots points falsified depths : ℕ) : Type 0 where
  pub in_slots : k ≤ slots
  pub in_points : k ≤ points
  pub in_falsified : k ≤ falsified
  pub in_depths : k ≤ depths
