-- Laws of copies between a list of slots and three lists. Assumes nothing.
use Rattle.std.specs.Prelude.{List, [], ◌∷◌, map, ◌≡◌, refl, ℕ, zero, suc, ◌+◌, ◌-◌, ◌<◌, ◌≤◌, min, get_or, set, take, drop}
use Rattle.std.proofs.Common.{sym, ◌∙◌, lt_of_lt_of_le, not-suc-le-zero, le_of_suc-le-suc, arith, length-drop}
use Rattle.std.proofs.Math.Path.{ap}
use Rattle.std.proofs.Math.ListN.{length, length-append, get_or-map}
use Rattle.std.proofs.lemmas.List.{length-map}
use Rattle.std.proofs.Math.Seq.{length-take-le, take_at}
use Rattle.math.specs.Lists.{over}
use Rattle.math.specs.Laws.OverLaws.{over_none, over-take_next}
use Rattle.point_slices.specs.Laws.SliceLaws.{one_word, no_rest}
use Rattle.point_slices.specs.Slices.{slot_slices, whole_slots}
use Rattle.slot_columns.specs.declared.Slot.{Slot}
use Rattle.slot_columns.specs.Slots.{points_in, falsified_in, depths_in}
use Rattle.slot_columns.specs.Laws.Copies.{slot_of, slot_or, blank, joined, front}

-- local arrays hold a point a word, and so nothing behind their points
pub words-whole : (points falsified depths : List ℕ) → slot_slices points falsified depths
    ≡ whole_slots points falsified depths
words-whole points falsified depths =
    (λ i. record { points = one_word points i; points_rest = no_rest points i; falsified = falsified; depths = depths })

module _ {X : Type 0} where
  -- nothing is copied yet
  pub front-none : (xs old : List X) → old ≡ front 0 xs old
  front-none xs old = sym (over_none old)

  -- a copy keeps the length
  pub front_length : (k : ℕ) (xs old : List X) → k ≤ length xs → k ≤ length old → length (front k xs old) ≡ length old
  unfolding over
  front_length k xs old h h' =
      let e : length (take k xs) ≡ k = length-take-le k xs h in
      length-append (take k xs) (drop (length (take k xs)) old)
      ∙ ap (λ n. length (take k xs) + n) (length-drop (length (take k xs)) old)
      ∙ (let z : length (take k xs) + (length old - length (take k xs)) ≡ length old = omega (arith, e, h') in z)

  -- the copies stand in front
  pub front-take : (k : ℕ) (xs old : List X) → k ≤ length xs → take k (front k xs old) ≡ take k xs
  unfolding over
  front-take k xs old h = take_at (take k xs) (drop (length (take k xs)) old) k (length-take-le k xs h)

  -- so an index below k is inside
  pub front_inside : (i k : ℕ) (xs old : List X) → i < k → k ≤ length xs → k ≤ length old → i < length (front i xs old)
  front_inside i k xs old l h h' =
      let e : length (front i xs old)
      ≡ length old = front_length i xs old (let z : i ≤ length xs = omega (arith, l, h) in z)
      (let z : i ≤ length old = omega (arith, l, h') in z) in
      (let z : i < length (front i xs old) = omega (arith, e, l, h') in z)

  -- the next element is stored
  pub front_next : (i k : ℕ) (xs old : List X) (d a : X) → i < k → k ≤ length xs → k ≤ length old → a ≡ get_or xs i d
      → set (front i xs old) i a ≡ front (i + 1) xs old
  front_next i k xs old d a l h h' e = ap (λ b. set (front i xs old) i b) e
      ∙ over-take_next i xs old d (lt_of_lt_of_le l h) (lt_of_lt_of_le l h')

-- the same for a part of the slots
pub column_next : (part : Slot → ℕ) (i k : ℕ) (xs : List Slot) (old : List ℕ) → i < k → k ≤ length xs → k ≤ length old
    → set (front i (map part xs) old) i (part (slot_or xs i)) ≡ front (i + 1) (map part xs) old
column_next part i k xs old l h h' = front_next i k (map part xs) old (part blank) (part (slot_or xs i)) l
    (let e : length (map part xs) ≡ length xs = length-map xs part in
    (let z : k ≤ length (map part xs) = omega (arith, e, h) in z)) h' (sym (get_or-map part xs i blank))

pub column_long : (part : Slot → ℕ) (k : ℕ) (xs : List Slot) → k ≤ length xs → k ≤ length (map part xs)
column_long part k xs h = let e : length (map part xs)
    ≡ length xs = length-map xs part in (let z : k ≤ length (map part xs) = omega (arith, e, h) in z)

-- ---- three lists joined

-- the slot at an index has the three elements there
pub joined_at : (i : ℕ) (xs ns ds : List ℕ) → i < length xs → i < length ns → i < length ds
    → slot_of (get_or xs i 0) (get_or ns i 0) (get_or ds i 0) ≡ slot_or (joined xs ns ds) i
joined_at i [] ns ds l₁ l₂ l₃ = absurd (not-suc-le-zero l₁)
joined_at i (x ∷ xs) [] ds l₁ l₂ l₃ = absurd (not-suc-le-zero l₂)
joined_at i (x ∷ xs) (n ∷ ns) [] l₁ l₂ l₃ = absurd (not-suc-le-zero l₃)
joined_at zero (x ∷ xs) (n ∷ ns) (d ∷ ds) l₁ l₂ l₃ = refl
joined_at (suc i) (x ∷ xs) (n ∷ ns) (d ∷ ds) l₁ l₂ l₃ = joined_at i xs ns ds (le_of_suc-le-suc l₁) (le_of_suc-le-suc l₂)
    (le_of_suc-le-suc l₃)

pub joined_long : (k : ℕ) (xs ns ds : List ℕ) → k ≤ length xs → k ≤ length ns → k ≤ length ds
    → k ≤ length (joined xs ns ds)
joined_long zero xs ns ds h₁ h₂ h₃ = omega arith
joined_long (suc k) [] ns ds h₁ h₂ h₃ = absurd (not-suc-le-zero h₁)
joined_long (suc k) (x ∷ xs) [] ds h₁ h₂ h₃ = absurd (not-suc-le-zero h₂)
joined_long (suc k) (x ∷ xs) (n ∷ ns) [] h₁ h₂ h₃ = absurd (not-suc-le-zero h₃)
joined_long (suc k) (x ∷ xs) (n ∷ ns) (d ∷ ds) h₁ h₂ h₃ = let h : k
    ≤ length (joined xs ns ds) = joined_long k xs ns ds (le_of_suc-le-suc h₁) (le_of_suc-le-suc h₂)
    (le_of_suc-le-suc h₃) in
    (let z : suc k ≤ suc (length (joined xs ns ds)) = omega (arith, h) in z)

-- the three parts of a list of slots say the whole list
pub joined_columns : (xs : List Slot) → joined (points_in xs) (falsified_in xs) (depths_in xs) ≡ xs
joined_columns [] = refl
joined_columns (x ∷ xs) = ap (λ l. x ∷ l) (joined_columns xs)

-- the least of three equal lengths
pub min_thrice : (m : ℕ) → min m (min m m) ≡ m
min_thrice m = omega arith
