-- Places of arrays: k of them are inside where the arrays have as many. Assumes nothing.
use Rattle.std.proofs.Common.{◌≡◌, ℕ, ◌≤◌, List, length, sym, le_trans, le_of_eq}
use Rattle.slot_columns.specs.Laws.Copies.{Within}

module _ {places k : ℕ} (held : k ≤ places) where
  pub places_many : (xs : List ℕ) → length xs ≡ places → k ≤ length xs
  places_many xs e = le_trans held (le_of_eq (sym e))

  -- and of m slots
  pub places_in : (m : ℕ) (ps fs ds : List ℕ) → k ≤ m → length ps ≡ places → length fs ≡ places → length ds ≡ places
      → Within k m (length ps) (length fs) (length ds)
  places_in m ps fs ds h e₁ e₂ e₃ =
      record {
        in_slots = h;
        in_points = places_many ps e₁;
        in_falsified = places_many fs e₂;
        in_depths = places_many ds e₃;
      }
