-- Laws of lists by index and by parts: the first element that fails a test, repetition, what holds of each element, and
-- a part of joined lists. Assumes nothing.
use Rattle.std.specs.Prelude.{Bool, true, false, ℕ, zero, suc, ◌+◌, ◌≤◌, ◌<◌, eqb, length, get_or, take, replicate}
use Rattle.std.proofs.Math.Bool.{cond}
use mathlib.Core.List.Memᴰ
use mathlib.Core.List.{List, [], ◌∷◌, ◌++◌, map, append_assoc, append-nil}
use Rattle.std.proofs.Common.{⊎_elim, ap₂, ◌∙◌, subst, suc-le-suc, zero-le, not-suc-le-zero, le_of_suc-le-suc, zero-add, eq-eqb, ne_eqb}
use Rattle.std.proofs.Math.Option.{some, none}
use Rattle.std.proofs.Math.Path.{◌≡◌, refl, sym, ap}
use Rattle.std.proofs.Math.Decide.{ℕ_discrete}
use native.Mathlib.Omega.{arith}
use Rattle.std.proofs.Math.ListN.{get_elem?, drop, length-append, length-drop}
use Rattle.std.proofs.Math.Seq.{take_at, drop_at}
use Rattle.math.specs.Laws.ListLaws.{here, get_d_in, in_get_d, count_pos, count_none, range_out, range_in, map_out}
use Rattle.math.specs.Lists.{◌∈◌, count, failing_at, first_failing, Distinct, distinct_nil, distinct_cons, range}
use Rattle.math.specs.Lists.{below, over}

-- the first failure's number is 0 only where the head passes and the tail has none
failing_zero : (b : Bool) (k : ℕ) → failing_at b k ≡ 0 → (b ≡ true) × (k ≡ 0)
failing_zero true zero h = (refl, refl)
failing_zero true (suc k) h = absurd (not-suc-le-zero (subst (λ (j : ℕ). 1 ≤ j) h (suc-le-suc zero-le)))
failing_zero false k h = absurd (not-suc-le-zero (subst (λ (j : ℕ). 1 ≤ j) h (suc-le-suc zero-le)))

module _ {A : Type 0} where
  -- a count of one element leaves none for the tail where the head passes, and all where something in the tail does
  two : (t : A → Bool) (z : A) (zs : List A) → count t (z ∷ zs) ≡ 1 → t z ≡ true → 1 ≤ count t zs → ⊥
  unfolding count
  two t z zs h tz pos =
      let one : ◌≡◌ {A = ℕ} (cond (t z) 1 0) 1 = ap (λ (b : Bool). cond {A = ℕ} b 1 0) tz in omega arith

  rest : (t : A → Bool) (z : A) (zs : List A) → count t (z ∷ zs) ≡ 1 → 1 ≤ count t zs → count t zs ≡ 1
  unfolding count
  rest t z zs h pos = omega arith

  -- ---- a part of joined lists

  -- what stands behind i elements, j long, is the list in the middle
  pub part_middle : (a b c : List A) (i j : ℕ) → length a ≡ i → length b ≡ j → take j (drop i (a ++ b ++ c)) ≡ b
  part_middle a b c i j p q =
      ap (λ l. take j (drop i l)) (append_assoc a b c) ∙ ap (take j) (drop_at a (b ++ c) i p) ∙ take_at b c j q

  pub part_last : (a b : List A) (i j : ℕ) → length a ≡ i → length b ≡ j → take j (drop i (a ++ b)) ≡ b
  part_last a b i j p q = ap (λ l. take j (drop i l)) (sym (append-nil (a ++ b))) ∙ part_middle a b [] i j p q

  -- ---- the element of an index, or none

  pub index_some : (xs : List A) (i : ℕ) (d : A) → i < length xs → get_elem? xs i ≡ some (get_or xs i d)
  index_some [] i d h = absurd (not-suc-le-zero h)
  index_some (x ∷ xs) zero d h = refl
  index_some (x ∷ xs) (suc i) d h = index_some xs i d (le_of_suc-le-suc h)

  pub index_none : (xs : List A) (i : ℕ) → length xs ≤ i → get_elem? xs i ≡ none
  index_none [] i h = refl
  index_none (x ∷ xs) zero h = absurd (not-suc-le-zero h)
  index_none (x ∷ xs) (suc i) h = index_none xs i (le_of_suc-le-suc h)

  -- ---- new contents in front of what was there

  -- the first of equal elements
  pub take-replicate : (k size : ℕ) (a : A) → k ≤ size → take k (replicate size a) ≡ replicate k a
  take-replicate zero size a le = refl
  take-replicate (suc k) zero a le = absurd (not-suc-le-zero le)
  take-replicate (suc k) (suc size) a le = ap (λ (l : List A). a ∷ l) (take-replicate k size a (le_of_suc-le-suc le))

  pub over-front : (k : ℕ) (new old : List A) → length new ≡ k → take k (over new old) ≡ new
  unfolding over
  over-front k new old e = take_at new (drop (length new) old) k e

  pub over-rest : (k : ℕ) (new old : List A) → length new ≡ k → drop k (over new old) ≡ drop k old
  unfolding over
  over-rest k new old e = drop_at new (drop (length new) old) k e ∙ ap (λ j. drop j old) e

  pub over-length : (new old : List A) → length new ≤ length old → length (over new old) ≡ length old
  unfolding over
  over-length new old le = omega (arith, length-append new (drop (length new) old), length-drop (length new) old)

  -- ---- what holds of each element of a list

  pub each_nil : (P : A → Type 0) → (x : A) → x ∈ [] → P x
  each_nil P x m = absurd (Memᴰ.not-nil m)

  pub each_cons : (P : A → Type 0) {y : A} {ys : List A} → P y → ((x : A) → x ∈ ys → P x) → (x : A) → x ∈ (y ∷ ys) → P x
  each_cons P p f x (Memᴰ.head e) = subst P (sym e) p
  each_cons P p f x (Memᴰ.tail m) = f x m

  pub each_append : (P : A → Type 0) (xs : List A) {ys : List A} → ((x : A) → x ∈ xs → P x)
      → ((x : A) → x ∈ ys → P x) → (x : A) → x ∈ (xs ++ ys) → P x
  each_append P xs f g x m = ⊎_elim (f x) (g x) (Memᴰ.append_cases xs m)

  pub each_map : (P : A → Type 0) {B : Type 0} (f : B → A) (ys : List B) → ((y : B) → y ∈ ys → P (f y)) → (x : A)
      → x ∈ map f ys → P x
  each_map P f ys h x m = let w = map_out f ys m in subst P (sym w.2) (h w.0 w.1)

  -- ---- the first that fails a test

  -- where none fails, each passes; and back
  pub none_failing : (t : A → Bool) (xs : List A) → first_failing t xs ≡ 0 → (x : A) → x ∈ xs → t x ≡ true
  unfolding first_failing
  none_failing t [] h = each_nil (λ x. t x ≡ true)
  none_failing t (y ∷ ys) h =
      let w = failing_zero (t y) (first_failing t ys) h in each_cons (λ x. t x ≡ true) w.0 (none_failing t ys w.1)

  pub all_passing : (t : A → Bool) (xs : List A) → ((x : A) → x ∈ xs → t x ≡ true) → first_failing t xs ≡ 0
  unfolding first_failing
  all_passing t [] h = refl
  all_passing t (y ∷ ys) h = rw (h y (here y ys), all_passing t ys (λ x m. h x (Memᴰ.tail m)))

  -- ---- a count of one

  -- where a test counts one element, two that pass are the same
  pub count-one_same : (t : A → Bool) {x y : A} {xs : List A} → count t xs ≡ 1 → x ∈ xs → y ∈ xs → t x ≡ true
      → t y ≡ true → x ≡ y
  unfolding count
  count-one_same t h (Memᴰ.head p) (Memᴰ.head q) tx ty = p ∙ sym q
  count-one_same t h (Memᴰ.head {x = z} {xs = zs} p) (Memᴰ.tail m) tx ty = absurd
      (two t z zs h (ap t (sym p) ∙ tx) (count_pos t m ty))
  count-one_same t h (Memᴰ.tail {x = z} {xs = zs} m) (Memᴰ.head q) tx ty = absurd
      (two t z zs h (ap t (sym q) ∙ ty) (count_pos t m tx))
  count-one_same t h (Memᴰ.tail {x = z} {xs = zs} m) (Memᴰ.tail k) tx ty = count-one_same t
      (rest t z zs h (count_pos t m tx)) m k tx ty

  -- ---- a list without repetition: no element equals an earlier one

  pub distinct_by_index : (d : A) (xs : List A) → ((i : ℕ) → i < length xs → get_or xs i d ∈ take i xs → ⊥) → Distinct xs
  distinct_by_index d [] h = distinct_nil
  distinct_by_index d (x ∷ xs) h =
      distinct_cons (λ m. let w = in_get_d d m in h (suc w.0) (suc-le-suc w.1) (Memᴰ.head w.2))
      (distinct_by_index d xs (λ i lt m. h (suc i) (suc-le-suc lt) (Memᴰ.tail m)))

  pub distinct_earlier : (d : A) {xs : List A} → Distinct xs → (i : ℕ) → i < length xs → get_or xs i d ∈ take i xs → ⊥
  distinct_earlier d distinct_nil i lt m = not-suc-le-zero lt
  distinct_earlier d (distinct_cons new rest) zero lt m = Memᴰ.not-nil m
  distinct_earlier d (distinct_cons {x = x} {xs = xs} new rest) (suc i) lt (Memᴰ.head e) =
      new (subst (λ y. y ∈ xs) e (get_d_in xs i d (le_of_suc-le-suc lt)))
  distinct_earlier d (distinct_cons new rest) (suc i) lt (Memᴰ.tail m) = distinct_earlier d rest i
      (le_of_suc-le-suc lt) m

-- ---- a number in a range

-- a number stands once in a range that holds it
pub count_eqb_range : (v a k : ℕ) → a ≤ v → v < a + k → count (eqb v) (range a k) ≡ 1
unfolding count range
count_eqb_range v a zero lo hi = absurd (none a v lo hi)
  where
    none : (a v : ℕ) → a ≤ v → v < a + 0 → ⊥
    none a v lo hi = omega arith
count_eqb_range v a (suc k) lo hi = by (ℕ_discrete v a) (count_eqb_range v (suc a) k)
  where
    by : Dec (v ≡ a) → (suc a ≤ v → v < suc a + k → count (eqb v) (range (suc a) k) ≡ 1)
        → cond (eqb v a) 1 0 + count (eqb v) (range (suc a) k) ≡ 1
    by (yes e) ih =
        let one : ◌≡◌ {A = ℕ} (cond (eqb v a) 1 0) 1 = ap (λ (b : Bool). cond {A = ℕ} b 1 0) (eq-eqb v a e) in
        let nothing : count (eqb v) (range (suc a) k)
        ≡ 0 = count_none (eqb v) (range (suc a) k) (λ x m. let w = range_out (suc a) k x m in ne_eqb v x
        (λ q. let z : ⊥ = omega arith in z)) in
        omega arith
    by (no ne) ih =
        let zero_here : ◌≡◌ {A = ℕ} (cond (eqb v a) 1 0) 0 = ap (λ (b : Bool). cond {A = ℕ} b 1 0) (ne_eqb v a ne) in
        let there : count (eqb v) (range (suc a) k) ≡ 1 = ih (omega arith) (omega arith) in
        omega arith

-- ---- a test of every index below k

pub none_failing_below : (t : ℕ → Bool) (k : ℕ) → first_failing t (below k) ≡ 0 → (i : ℕ) → i < k → t i ≡ true
none_failing_below t k h i lt = none_failing t (below k) h i (range_in 0 k i zero-le (rw zero-add lt))

pub all_passing_below : (t : ℕ → Bool) (k : ℕ) → ((i : ℕ) → i < k → t i ≡ true) → first_failing t (below k) ≡ 0
all_passing_below t k h = all_passing t (below k) (λ i m. h i (rw zero-add at (range_out 0 k i m).1))

-- tests that agree on every index below k fail first at the same
pub same_failing_below : (t u : ℕ → Bool) (k : ℕ) → ((i : ℕ) → i < k → t i ≡ u i)
    → first_failing t (below k) ≡ first_failing u (below k)
unfolding first_failing
same_failing_below t u k h = same (below k) (λ i m. h i (rw zero-add at (range_out 0 k i m).1))
  where
    same : (xs : List ℕ) → ((i : ℕ) → i ∈ xs → t i ≡ u i) → first_failing t xs ≡ first_failing u xs
    same [] g = refl
    same (x ∷ xs) g = ap₂ failing_at (g x (here x xs)) (same xs (λ i m. g i (Memᴰ.tail m)))
