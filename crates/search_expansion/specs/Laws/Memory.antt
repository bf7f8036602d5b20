-- The three lent slices as the search's memory: what it holds, and what a store of a slot does to it. Assumes nothing.
use Rattle.std.specs.Prelude.{◌≡◌, List, ℕ, ◌≤◌, length, set}
use Rattle.point_slices.specs.Slices.{SlotSlices}
use Rattle.search_theory.specs.Walk.{Slot}
use Rattle.search_theory.specs.Filled.{filled_with}

-- the slots l stand at the front of the memory m, and behind them is what the memory `old` has there
pub record Holds (old : SlotSlices) (l : List Slot) (m : SlotSlices) : Type 0 where
  pub held : m ≡ filled_with l old

-- each slice has room for k slots
pub record Lends (k : ℕ) (m : SlotSlices) : Type 0 where
  pub points_room : k ≤ length m.points
  pub falsified_room : k ≤ length m.falsified
  pub depths_room : k ≤ length m.depths

-- the three slices and the links have as many words as they had
pub record SameSizes (points₀ falsified₀ depths₀ links₀ points falsified depths links : List ℕ) : Type 0 where
  pub points_size : length points ≡ length points₀
  pub falsified_size : length falsified ≡ length falsified₀
  pub depths_size : length depths ≡ length depths₀
  pub links_size : length links ≡ length links₀

-- m is m₀ with the slot of index i filled
pub record Stored (m₀ : SlotSlices) (i : ℕ) (s : Slot) (m : SlotSlices) : Type 0 where
  pub points_stored : m.points ≡ set m₀.points i s.point
  pub rest_stored : m.points_rest ≡ m₀.points_rest
  pub falsified_stored : m.falsified ≡ set m₀.falsified i s.falsified
  pub depths_stored : m.depths ≡ set m₀.depths i s.depth
