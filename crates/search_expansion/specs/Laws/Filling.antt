-- What filling the flips of one point does to the memory: the contracts of `search_expansion::try_flip` and
-- `search_expansion::expand`. Assumes nothing.
use Rattle.std.specs.Prelude.{◌≡◌, Bool, true, false, Result, Ok, Err, List, [], ◌∷◌, ◌++◌, ℕ, suc, ◌+◌, ◌*◌, ◌≤◌, ◌<◌, length, take}
use Rattle.point_index.specs.Laws.Index.{Indexed}
use Rattle.permutation_theory.specs.Permutations.{Permutation}
use Rattle.permutation_images.specs.Laws.Contracts.{permutations_of}
use Rattle.permutation_coverage.specs.Laws.Coverage.{Coverable}
use Rattle.formula.specs.Limits.{max_slots}
use Rattle.search_expansion.specs.declared.Frame.{Frame}
use Rattle.search_expansion.specs.declared.Visit.{Visit}
use Rattle.point_slices.specs.Slices.{SlotSlices}
use Rattle.search_expansion.specs.Laws.Memory.{Holds, Lends}
use Rattle.search_theory.specs.Walk.{Slot, slot, Expansion, full, Fills}

-- the permutations that the frame lists
abbrev pub listed_in : Frame → List Permutation
listed_in g = permutations_of g.permutations

-- the slot of a point just come to: 0 for its clause
abbrev pub visited : Visit → Slot
visited v = slot v.point 0 v.depth

-- the links are an index of the points of the slots filled
abbrev pub SlotsIndexed : Frame → SlotSlices → List ℕ → ℕ → Type 0
SlotsIndexed g slots links filled =
    Indexed g.heads g.permutations.variables (take filled slots.points) links

-- what lets a flip of a point be tried, with `filled` slots filled: the links are an index of their points, with two
-- links for each head, and each slice has room for all slots
pub record Fillable (g : Frame) (slots : SlotSlices) (links moved : List ℕ) (filled : ℕ)
    (from : Visit) : Type 0 where
  pub coverable : Coverable g.heads g.permutations.variables filled slots.points links
      g.permutations.count g.permutations.images.now moved from.point
  pub room : Lends g.room slots
  pub most : g.room ≤ max_slots
  pub shallow : from.depth < max_slots
  pub linked : g.heads + 2 * g.heads ≤ length links

-- how many slots are filled after flips were tried, whether each that was to fill one found it or one found none
abbrev pub filled_in : Result ℕ ℕ → ℕ
filled_in (Ok filled) = filled
filled_in (Err filled) = filled

-- as many of the first b slots as there are have a head
abbrev pub Headed : Frame → ℕ → Type 0
Headed g b = (j : ℕ) → j < b → j < g.room → j < g.heads

-- the links are an index of the points of `filled` slots, at most one more than before
pub record Follows (g : Frame) (filled₀ : ℕ) (slots : SlotSlices) (links : List ℕ) (filled : ℕ) : Type 0 where
  pub indexed : SlotsIndexed g slots links filled
  pub one : filled ≤ suc filled₀

module _ (es : List Permutation) (capacity : ℕ) (from : Visit) where
  -- how the filling ends, with the flips vs still to come and the slots w waiting: as `Fills` says if there was room so
  -- far, else there
  abbrev pub Onward : List Slot → Bool → List ℕ → List Slot → Expansion → Type 0
  Onward known true vs w r = Fills es capacity known from.point from.depth vs w r
  Onward known false vs w r = r ≡ full w

  -- the memory m holds the slots `known` and some that wait, `filled` together, and whatever comes of the flips vs from
  -- there comes of the flips vs₀ from the waiting slots w₀
  pub record Reaches (old : SlotSlices) (known w₀ : List Slot) (vs₀ : List ℕ) (enough : Bool) (vs : List ℕ) (filled : ℕ)
      (m : SlotSlices) : Type 0 where
    pub waiting : List Slot
    pub holds : Holds old (known ++ waiting) m
    pub number : length (known ++ waiting) ≡ filled
    pub onward : (r : Expansion) → Onward known enough vs waiting r
        → Fills es capacity known from.point from.depth vs₀ w₀ r

  -- from `filled₀` slots in the memory m₀, whichever they are and whatever is behind them, and the flips vs₀ to come
  abbrev pub Advances : List ℕ → ℕ → SlotSlices → Bool → List ℕ → ℕ → SlotSlices → Type 0
  Advances vs₀ filled₀ m₀ enough vs filled m =
      (old : SlotSlices) (known w₀ : List Slot) → Holds old (known ++ w₀) m₀ → length (known ++ w₀) ≡ filled₀
      → Reaches old known w₀ vs₀ enough vs filled m

  -- the flip of one variable is tried, whichever are to come: if it was to fill a slot it found one, or it found none
  abbrev pub Tries : ℕ → ℕ → SlotSlices → Result ℕ ℕ → SlotSlices → Type 0
  Tries v filled₀ m₀ (Ok filled) m = (vs : List ℕ) → Advances (v ∷ vs) filled₀ m₀ true vs filled m
  Tries v filled₀ m₀ (Err filled) m = (vs : List ℕ) → Advances (v ∷ vs) filled₀ m₀ false vs filled m

  -- the flips vs are tried until one finds no slot to fill: each that was to fill one found it, or one found none
  abbrev pub Expands : List ℕ → ℕ → SlotSlices → Result ℕ ℕ → SlotSlices → Type 0
  Expands vs filled₀ m₀ (Ok filled) m = Advances vs filled₀ m₀ true [] filled m
  Expands vs filled₀ m₀ (Err filled) m = Advances vs filled₀ m₀ false [] filled m
