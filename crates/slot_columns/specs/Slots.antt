-- Document 01, 'Walk': the slots as one list of structs: their three parts, as three lists and as the
-- record of lent slices. Assumes nothing.
use Rattle.std.specs.Prelude.{List, map, ℕ}
use Rattle.point_slices.specs.Slices.{SlotSlices, whole_slots}
use Rattle.slot_columns.specs.declared.Slot.{Slot}

-- W1: "Each slot holds a point, the rule that moved it and its depth"
abbrev pub points_in : List Slot → List ℕ
points_in xs = map (λ (s : Slot). s.point) xs

abbrev pub falsified_in : List Slot → List ℕ
falsified_in xs = map (λ (s : Slot). s.falsified) xs

abbrev pub depths_in : List Slot → List ℕ
depths_in xs = map (λ (s : Slot). s.depth) xs

abbrev pub slots_in : List Slot → SlotSlices
slots_in xs = whole_slots (points_in xs) (falsified_in xs) (depths_in xs)
