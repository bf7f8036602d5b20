-- Laws of a loop that walks a list by its index: what is left of a test over the whole list at index i is the test over
-- the list from i on. Assumes nothing.
use Rattle.std.specs.Prelude.{Bool, false, ◌&&◌, ◌||◌, List, ◌∷◌, ◌≡◌, length, get_or, take, drop}
use Rattle.std.proofs.Math.Bool.{true}
use Rattle.std.proofs.Math.Path.{refl, sym, ap}
use Rattle.std.proofs.Common.{◌∙◌, lt_of_lt_of_le, le_trans, le_of_eq, add-zero, zero-add, suc-add, add-suc, add-one, length-take, drop_of_length-le, drop-cons, get_or-take}
use Prim.Native.Nat.{ℕ, zero, suc, ◌+◌, ◌≤◌, ◌<◌}
use Rattle.std.proofs.Math.Nat.{min-le_left}
use Rattle.math.specs.Laws.ListLaws.{length-range, get_d_range}
use Rattle.math.specs.Lists.{any, all, first_failing, failing_at, below}

-- the number of the first failure in a list, from its number k in the part from i on
unfoldable pub on_from : ℕ → ℕ → ℕ
on_from i zero = 0
on_from i (suc k) = suc (i + k)

module _ {A : Type 0} (t : A → Bool) (xs : List A) (d : A) where
  -- the list from i on is the element at i, and the list from i + 1 on
  next : (i : ℕ) → i < length xs → drop i xs ≡ get_or xs i d ∷ drop (i + 1) xs
  next i h = drop-cons xs i d h ∙ ap (λ j. get_or xs i d ∷ drop j xs) (sym (add-one i))

  pub any_ends : (i : ℕ) → length xs ≤ i → any t (drop i xs) ≡ false
  unfolding any
  any_ends i h = ap (any t) (drop_of_length-le xs h)

  pub any_stops : (i : ℕ) → i < length xs → t (get_or xs i d) ≡ true → any t (drop i xs) ≡ true
  unfolding any
  any_stops i h e = ap (any t) (next i h) ∙ ap (λ b. b || any t (drop (i + 1) xs)) e

  pub any_goes_on : (i : ℕ) → i < length xs → t (get_or xs i d) ≡ false → any t (drop i xs) ≡ any t (drop (i + 1) xs)
  unfolding any
  any_goes_on i h e = ap (any t) (next i h) ∙ ap (λ b. b || any t (drop (i + 1) xs)) e

  pub all_ends : (i : ℕ) → length xs ≤ i → all t (drop i xs) ≡ true
  unfolding all
  all_ends i h = ap (all t) (drop_of_length-le xs h)

  pub all_stops : (i : ℕ) → i < length xs → t (get_or xs i d) ≡ false → all t (drop i xs) ≡ false
  unfolding all
  all_stops i h e = ap (all t) (next i h) ∙ ap (λ b. b && all t (drop (i + 1) xs)) e

  pub all_goes_on : (i : ℕ) → i < length xs → t (get_or xs i d) ≡ true → all t (drop i xs) ≡ all t (drop (i + 1) xs)
  unfolding all
  all_goes_on i h e = ap (all t) (next i h) ∙ ap (λ b. b && all t (drop (i + 1) xs)) e

  -- whatever the test says of the next
  pub all_next : (i : ℕ) → i < length xs → all t (drop i xs) ≡ t (get_or xs i d) && all t (drop (i + 1) xs)
  unfolding all
  all_next i h = ap (all t) (next i h)

  pub failing_begins : first_failing t xs ≡ on_from 0 (first_failing t (drop 0 xs))
  unfolding on_from
  failing_begins = by (first_failing t xs)
    where
      by : (k : ℕ) → k ≡ on_from 0 k
      by zero = refl
      by (suc k) = ap suc (sym (zero-add k))

  pub failing_ends : (i : ℕ) → length xs ≤ i → on_from i (first_failing t (drop i xs)) ≡ 0
  unfolding on_from first_failing
  failing_ends i h = ap (λ l. on_from i (first_failing t l)) (drop_of_length-le xs h)

  pub failing_stops : (i : ℕ) → i < length xs → t (get_or xs i d) ≡ false → on_from i (first_failing t (drop i xs)) ≡ i + 1
  unfolding on_from first_failing
  failing_stops i h e =
      ap (λ l. on_from i (first_failing t l)) (next i h)
      ∙ ap (λ b. on_from i (failing_at b (first_failing t (drop (i + 1) xs)))) e
      ∙ ap suc (add-zero i) ∙ sym (add-one i)

  pub failing_goes_on : (i : ℕ) → i < length xs → t (get_or xs i d) ≡ true
      → on_from i (first_failing t (drop i xs)) ≡ on_from (i + 1) (first_failing t (drop (i + 1) xs))
  unfolding on_from first_failing
  failing_goes_on i h e =
      ap (λ l. on_from i (first_failing t l)) (next i h)
      ∙ ap (λ b. on_from i (failing_at b (first_failing t (drop (i + 1) xs)))) e
      ∙ by (first_failing t (drop (i + 1) xs))
    where
      by : (k : ℕ) → on_from i (failing_at true k) ≡ on_from (i + 1) k
      by zero = refl
      by (suc k) = ap suc (add-suc i k ∙ sym (suc-add i k) ∙ ap (λ j. j + k) (sym (add-one i)))

-- ---- a test of every index below k

module _ (t : ℕ → Bool) (k : ℕ) where
  -- the index at i is i
  tested_at : (i : ℕ) → i < k → t (get_or (below k) i 0) ≡ t i
  tested_at i h = ap t (get_d_range 0 k i 0 h ∙ zero-add i)

  inside : (i : ℕ) → i < k → i < length (below k)
  inside i h = lt_of_lt_of_le h (le_of_eq (sym (length-range 0 k)))

  pub below_ends : (i : ℕ) → k ≤ i → on_from i (first_failing t (drop i (below k))) ≡ 0
  below_ends i h = failing_ends t (below k) 0 i (le_trans (le_of_eq (length-range 0 k)) h)

  pub below_stops : (i : ℕ) → i < k → t i ≡ false → on_from i (first_failing t (drop i (below k))) ≡ i + 1
  below_stops i h e = failing_stops t (below k) 0 i (inside i h) (tested_at i h ∙ e)

  pub below_goes_on : (i : ℕ) → i < k → t i ≡ true
      → on_from i (first_failing t (drop i (below k))) ≡ on_from (i + 1) (first_failing t (drop (i + 1) (below k)))
  below_goes_on i h e = failing_goes_on t (below k) 0 i (inside i h) (tested_at i h ∙ e)

-- an element of the first k of a list is that of the list
pub get_d_prefix : {A : Type 0} (l : List A) (k i : ℕ) (d : A) → i < length (take k l) → get_or (take k l) i d ≡ get_or l i d
get_d_prefix l k i d h = get_or-take k l i d (lt_of_lt_of_le h
    (le_trans (le_of_eq (length-take k l)) (min-le_left k (length l))))
