-- Lists: membership, tests over a list, counting, ranges. Definitions alone; ListLaws has what follows from them.
-- Assumes nothing.
use Rattle.std.specs.Prelude.{Option, None, Some, Bool, true, false, cond, ◌&&◌, ◌||◌, ℕ, zero, suc, ◌+◌, eqb, length, take, drop}
use mathlib.Core.List.{List, [], ◌∷◌, ◌++◌, Memᴰ}

-- the number of the first failure in a list, from whether its head passes and the number in its tail
abbrev pub failing_at : Bool → ℕ → ℕ
failing_at false k = 1
failing_at true zero = 0
failing_at true (suc k) = suc (suc k)

-- the number, from 1, of an index that was found, 0 where none was
abbrev pub place_of : Option ℕ → ℕ
place_of None = 0
place_of (Some i) = i + 1

module _ {A : Type 0} where
  infix 50 ◌∈◌
  -- x stands somewhere in the list
  abbrev pub ◌∈◌ : A → List A → Type 0
  x ∈ xs = Memᴰ x xs

  -- some element passes the test
  unfoldable pub any : (A → Bool) → List A → Bool
  any t [] = false
  any t (x ∷ xs) = t x || any t xs

  -- every element passes the test
  unfoldable pub all : (A → Bool) → List A → Bool
  all t [] = true
  all t (x ∷ xs) = t x && all t xs

  -- the elements that pass the test, in their order
  unfoldable pub select : (A → Bool) → List A → List A
  select t [] = []
  select t (x ∷ xs) = cond (t x) (x ∷ select t xs) (select t xs)

  -- how many elements pass the test
  unfoldable pub count : (A → Bool) → List A → ℕ
  count t [] = 0
  count t (x ∷ xs) = cond (t x) 1 0 + count t xs

  -- the number, from 1, of the first element that fails the test; 0 if all pass
  unfoldable pub first_failing : (A → Bool) → List A → ℕ
  first_failing t [] = 0
  first_failing t (x ∷ xs) = failing_at (t x) (first_failing t xs)

  -- new contents in front of what was there
  unfoldable pub over : List A → List A → List A
  over new old = new ++ drop (length new) old

  -- new contents in the place of as many elements, from index i on
  unfoldable pub spliced : ℕ → List A → List A → List A
  spliced i new old = take i old ++ new ++ drop (i + length new) old

  -- no element stands twice
  pub data Distinct : List A → Type 0 where
    distinct_nil : Distinct []
    distinct_cons : {x : A} {xs : List A} → (x ∈ xs → ⊥) → Distinct xs → Distinct (x ∷ xs)

-- k numbers ascending from a
unfoldable pub range : ℕ → ℕ → List ℕ
range a zero = []
range a (suc k) = a ∷ range (suc a) k

-- the numbers below n, ascending
abbrev pub below : ℕ → List ℕ
below n = range 0 n

-- whether a number stands in the list
abbrev pub has : ℕ → List ℕ → Bool
has x xs = any (eqb x) xs
