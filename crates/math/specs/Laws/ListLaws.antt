-- Laws of lists: what a test over a list says of its elements, counting, and that a list without repetition fits into
-- no shorter one. Assumes nothing.
use Rattle.std.specs.Prelude.{Bool, ◌&&◌, ◌||◌, ◌⊎◌, ◌≡◌, get_or, eqb}
use Rattle.std.proofs.Math.Bool.{true, false, cond}
use Rattle.std.proofs.Common.{true≢false, inl, inr, ◌∙◌, subst, le_of_suc-le-suc, not-suc-le-zero, zero-add, add-zero, suc-add, add-suc, add_assoc, le_trans, eqb-true, eq-eqb, ne_eqb}
use Rattle.std.proofs.lemmas.Bool.{false≢true}
use mathlib.Core.List.Memᴰ
use mathlib.Core.List.{List, [], ◌∷◌, ◌++◌, map}
use Rattle.std.proofs.Math.Logic.{⊎_elim}
use Rattle.std.proofs.Math.Path.{refl, sym, ap, ap₂}
use Prim.Native.Nat.{ℕ, zero, suc, ◌+◌, ◌≤◌, ◌<◌, zero-le, suc-le-suc}
use Rattle.std.proofs.Math.Decide.{ℕ_discrete}
use Rattle.std.proofs.Math.Nat.{not-suc-le_self}
use native.Mathlib.Omega.{arith}
use Rattle.std.proofs.Math.ListN.{length}
use Rattle.math.specs.Lists.{◌∈◌, any, all, select, count, Distinct, distinct_nil, distinct_cons, range, has}

-- ---- tests: a Bool is true or false

pub true-or-false : (b : Bool) → (b ≡ true) ⊎ (b ≡ false)
true-or-false true = inl refl
true-or-false false = inr refl

pub not-true-false : (b : Bool) → (b ≡ true → ⊥) → b ≡ false
not-true-false true h = absurd (h refl)
not-true-false false h = refl

pub and_split : (a b : Bool) → a && b ≡ true → (a ≡ true) × (b ≡ true)
and_split true b h = (refl, h)
and_split false b h = absurd (false≢true h)

pub and_join : (a b : Bool) → a ≡ true → b ≡ true → a && b ≡ true
and_join a b p q = rw (p, q)

pub or_split : (a b : Bool) → a || b ≡ true → (a ≡ true) ⊎ (b ≡ true)
or_split true b h = inl refl
or_split false b h = inr h

pub or_left : (a b : Bool) → a ≡ true → a || b ≡ true
or_left a b p = rw p

pub or_right : (a b : Bool) → b ≡ true → a || b ≡ true
or_right true b p = refl
or_right false b p = p

pub or-none : (a b : Bool) → a ≡ false → b ≡ false → a || b ≡ false
or-none a b p q = rw (p, q)

-- two tests are equal if each passes where the other does
pub same_tests : (a b : Bool) → (a ≡ true → b ≡ true) → (b ≡ true → a ≡ true) → a ≡ b
same_tests true b f g = sym (f refl)
same_tests false true f g = g refl
same_tests false false f g = refl

module _ {A : Type 0} where
  pub here : (x : A) (xs : List A) → x ∈ (x ∷ xs)
  here x xs = Memᴰ.head refl

  -- a list with an element has a length
  pub some-length : {x : A} {xs : List A} → x ∈ xs → 1 ≤ length xs
  some-length (Memᴰ.head e) = omega arith
  some-length (Memᴰ.tail m) = omega arith

  -- ---- any, all

  pub any_found : (t : A → Bool) (xs : List A) → any t xs ≡ true → (x : A) × (x ∈ xs) × (t x ≡ true)
  unfolding any
  any_found t [] h = absurd (false≢true h)
  any_found t (x ∷ xs) h = ⊎_elim (λ p. (x, here x xs, p)) (λ p. deeper (any_found t xs p))
      (or_split (t x) (any t xs) h)
    where
      deeper : (y : A) × (y ∈ xs) × (t y ≡ true) → (y : A) × (y ∈ (x ∷ xs)) × (t y ≡ true)
      deeper w = (w.0, Memᴰ.tail w.1, w.2)

  pub any_of : (t : A → Bool) {x : A} {xs : List A} → x ∈ xs → t x ≡ true → any t xs ≡ true
  unfolding any
  any_of t (Memᴰ.head {x = y} {xs = ys} e) h = or_left (t y) (any t ys) (ap t (sym e) ∙ h)
  any_of t (Memᴰ.tail {x = y} {xs = ys} m) h = or_right (t y) (any t ys) (any_of t m h)

  pub any_none : (t : A → Bool) (xs : List A) → ((x : A) → x ∈ xs → t x ≡ false) → any t xs ≡ false
  any_none t xs h = not-true-false (any t xs) (λ e. let w = any_found t xs e in true≢false
      (sym w.2 ∙ h w.0 w.1))

  pub all-at : (t : A → Bool) {x : A} {xs : List A} → all t xs ≡ true → x ∈ xs → t x ≡ true
  unfolding all
  all-at t h (Memᴰ.head {x = y} {xs = ys} e) = ap t e ∙ (and_split (t y) (all t ys) h).0
  all-at t h (Memᴰ.tail {x = y} {xs = ys} m) = all-at t (and_split (t y) (all t ys) h).1 m

  pub all_of : (t : A → Bool) (xs : List A) → ((x : A) → x ∈ xs → t x ≡ true) → all t xs ≡ true
  unfolding all
  all_of t [] h = refl
  all_of t (x ∷ xs) h = and_join (t x) (all t xs) (h x (here x xs)) (all_of t xs (λ y m. h y (Memᴰ.tail m)))

  -- a test that fails somewhere fails over the list
  pub not-all : (t : A → Bool) {x : A} {xs : List A} → x ∈ xs → t x ≡ false → all t xs ≡ false
  not-all t {x} {xs} m h = not-true-false (all t xs) (λ e. true≢false (sym (all-at t e m) ∙ h))

  -- where a list does not pass, an element fails
  pub all_failed : (t : A → Bool) (xs : List A) → all t xs ≡ false → (x : A) × (x ∈ xs) × (t x ≡ false)
  unfolding all
  all_failed t [] h = absurd (true≢false h)
  all_failed t (x ∷ xs) h = by (t x) refl (all_failed t xs)
    where
      by : (b : Bool) → t x ≡ b → (all t xs ≡ false → (y : A) × (y ∈ xs) × (t y ≡ false))
          → (y : A) × (y ∈ (x ∷ xs)) × (t y ≡ false)
      by true e ih = let w = ih (sym (ap (λ b. b && all t xs) e) ∙ h) in (w.0, Memᴰ.tail w.1, w.2)
      by false e ih = (x, here x xs, e)

  -- ---- select

  pub select_in : (t : A → Bool) {x : A} {xs : List A} → x ∈ xs → t x ≡ true → x ∈ select t xs
  unfolding select
  select_in t {x} (Memᴰ.head {x = y} {xs = ys} e) h = rw (ap t (sym e) ∙ h) (Memᴰ.head e)
  select_in t {x} (Memᴰ.tail {x = y} {xs = ys} m) h = by (t y) (select_in t m h)
    where
      by : (b : Bool) → x ∈ select t ys → x ∈ cond b (y ∷ select t ys) (select t ys)
      by true ih = Memᴰ.tail ih
      by false ih = ih

  pub select_out : (t : A → Bool) {x : A} (xs : List A) → x ∈ select t xs → (x ∈ xs) × (t x ≡ true)
  unfolding select
  select_out t [] m = absurd (Memᴰ.not-nil m)
  select_out t {x} (y ∷ ys) m = by (t y) refl (select_out t ys) m
    where
      by : (b : Bool) → t y ≡ b → (x ∈ select t ys → (x ∈ ys) × (t x ≡ true))
          → x ∈ cond b (y ∷ select t ys) (select t ys) → (x ∈ (y ∷ ys)) × (t x ≡ true)
      by true e ih (Memᴰ.head p) = (Memᴰ.head p, ap t p ∙ e)
      by true e ih (Memᴰ.tail m) = let w = ih m in (Memᴰ.tail w.0, w.1)
      by false e ih m = let w = ih m in (Memᴰ.tail w.0, w.1)

  -- tests that agree on a list select the same of it
  pub select_ext : (t u : A → Bool) (xs : List A) → ((x : A) → x ∈ xs → t x ≡ u x) → select t xs ≡ select u xs
  unfolding select
  select_ext t u [] h = refl
  select_ext t u (x ∷ xs) h =
      ap₂ (λ b l. cond b (x ∷ l) l) (h x (here x xs)) (select_ext t u xs (λ y m. h y (Memᴰ.tail m)))

  -- ---- count

  pub count_ext : (t u : A → Bool) (xs : List A) → ((x : A) → x ∈ xs → t x ≡ u x) → count t xs ≡ count u xs
  unfolding count
  count_ext t u [] h = refl
  count_ext t u (x ∷ xs) h = ap₂ (λ b k. cond b 1 0 + k) (h x (here x xs))
      (count_ext t u xs (λ y m. h y (Memᴰ.tail m)))

  pub count-append : (t : A → Bool) (xs ys : List A) → count t (xs ++ ys) ≡ count t xs + count t ys
  unfolding count
  count-append t [] ys = sym (zero-add (count t ys))
  count-append t (x ∷ xs) ys = ap (λ k. cond (t x) 1 0 + k) (count-append t xs ys)
      ∙ sym (add_assoc (cond (t x) 1 0) (count t xs) (count t ys))

  pub count-le : (t : A → Bool) (xs : List A) → count t xs ≤ length xs
  unfolding count
  count-le t [] = zero-le
  count-le t (x ∷ xs) = by (t x) (count-le t xs)
    where
      by : (b : Bool) → count t xs ≤ length xs → cond b 1 0 + count t xs ≤ suc (length xs)
      by true ih = omega arith
      by false ih = omega arith

  pub count_none : (t : A → Bool) (xs : List A) → ((x : A) → x ∈ xs → t x ≡ false) → count t xs ≡ 0
  unfolding count
  count_none t [] h = refl
  count_none t (x ∷ xs) h = ap₂ (λ b k. cond b 1 0 + k) (h x (here x xs))
      (count_none t xs (λ y m. h y (Memᴰ.tail m)))

  pub count_pos : (t : A → Bool) {x : A} {xs : List A} → x ∈ xs → t x ≡ true → 1 ≤ count t xs
  unfolding count
  count_pos t (Memᴰ.head {x = y} {xs = ys} e) h = rw (ap t (sym e) ∙ h) (omega arith)
  count_pos t (Memᴰ.tail {x = y} {xs = ys} m) h = let ih : 1 ≤ count t ys = count_pos t m h in omega arith

  pub length-select : (t : A → Bool) (xs : List A) → length (select t xs) ≡ count t xs
  unfolding select count
  length-select t [] = refl
  length-select t (x ∷ xs) = by (t x) (length-select t xs)
    where
      by : (b : Bool) → length (select t xs) ≡ count t xs
          → length (cond b (x ∷ select t xs) (select t xs)) ≡ cond b 1 0 + count t xs
      by true ih = omega arith
      by false ih = omega arith

  -- ---- a list without repetition that lies within another is no longer; if it is as long, the two hold the same

  -- the list without the one element that stands where the membership says
  without : {x : A} {xs : List A} → x ∈ xs → List A
  without (Memᴰ.head {xs = ys} e) = ys
  without (Memᴰ.tail {x = y} m) = y ∷ without m

  without_length : {x : A} {xs : List A} (m : x ∈ xs) → length xs ≡ suc (length (without m))
  unfolding without
  without_length (Memᴰ.head e) = refl
  without_length (Memᴰ.tail m) = ap suc (without_length m)

  without_keeps : {x y : A} {xs : List A} (m : x ∈ xs) → y ∈ xs → (y ≡ x → ⊥) → y ∈ without m
  unfolding without
  without_keeps (Memᴰ.head e) (Memᴰ.head p) ne = absurd (ne (p ∙ sym e))
  without_keeps (Memᴰ.head e) (Memᴰ.tail k) ne = k
  without_keeps (Memᴰ.tail m) (Memᴰ.head p) ne = Memᴰ.head p
  without_keeps (Memᴰ.tail m) (Memᴰ.tail k) ne = Memᴰ.tail (without_keeps m k ne)

  pub distinct_length : {xs : List A} → Distinct xs → (ys : List A) → ((x : A) → x ∈ xs → x ∈ ys)
      → length xs ≤ length ys
  distinct_length distinct_nil ys h = zero-le
  distinct_length (distinct_cons {x = x} {xs = xs} new d) ys h =
      let m : x ∈ ys = h x (here x xs) in
      let le : length xs ≤ length (without m) =
      distinct_length d (without m) (λ y k. without_keeps m (h y (Memᴰ.tail k))
      (λ e. new (subst (λ z. z ∈ xs) e k))) in
      subst (λ l. suc (length xs) ≤ l) (sym (without_length m)) (suc-le-suc le)

  pub distinct_onto : ((x : A) (l : List A) → Dec (x ∈ l)) → {xs : List A} → Distinct xs → (ys : List A)
      → ((x : A) → x ∈ xs → x ∈ ys) → length ys ≤ length xs → (y : A) → y ∈ ys → y ∈ xs
  distinct_onto dec {xs} d ys h le y m = by (dec y xs)
    where
      within : (x : A) → x ∈ (y ∷ xs) → x ∈ ys
      within x (Memᴰ.head e) = subst (λ z. z ∈ ys) (sym e) m
      within x (Memᴰ.tail k) = h x k

      by : Dec (y ∈ xs) → y ∈ xs
      by (yes k) = k
      by (no k) = absurd (not-suc-le_self (length xs) (le_trans (distinct_length (distinct_cons k d) ys within) le))

  -- equality that can be decided decides membership
  pub dec_member : Discrete A → (x : A) (l : List A) → Dec (x ∈ l)
  dec_member dec x [] = no Memᴰ.not-nil
  dec_member dec x (y ∷ ys) = by (dec x y) (dec_member dec x ys)
    where
      by : Dec (x ≡ y) → Dec (x ∈ ys) → Dec (x ∈ (y ∷ ys))
      by (yes e) r = yes (Memᴰ.head e)
      by (no e) (yes m) = yes (Memᴰ.tail m)
      by (no e) (no m) = no (λ k. ⊎_elim e m (Memᴰ.cases_cons k))

  -- ---- membership by index

  pub get_d_in : (xs : List A) (i : ℕ) (d : A) → i < length xs → get_or xs i d ∈ xs
  get_d_in [] i d h = absurd (not-suc-le-zero h)
  get_d_in (x ∷ xs) zero d h = here x xs
  get_d_in (x ∷ xs) (suc i) d h = Memᴰ.tail (get_d_in xs i d (le_of_suc-le-suc h))

  pub in_get_d : {x : A} {xs : List A} (d : A) → x ∈ xs → (i : ℕ) × (i < length xs) × (get_or xs i d ≡ x)
  in_get_d d (Memᴰ.head e) = (0, suc-le-suc zero-le, sym e)
  in_get_d d (Memᴰ.tail m) = let w = in_get_d d m in (suc w.0, suc-le-suc w.1, w.2)

-- ---- maps

module _ {A B : Type 0} (f : A → B) where
  pub map_in : {x : A} {xs : List A} → x ∈ xs → f x ∈ map f xs
  map_in (Memᴰ.head e) = Memᴰ.head (ap f e)
  map_in (Memᴰ.tail m) = Memᴰ.tail (map_in m)

  pub map_out : {y : B} (xs : List A) → y ∈ map f xs → (x : A) × (x ∈ xs) × (y ≡ f x)
  map_out [] m = absurd (Memᴰ.not-nil m)
  map_out (x ∷ xs) (Memᴰ.head e) = (x, here x xs, e)
  map_out (x ∷ xs) (Memᴰ.tail m) = let w = map_out xs m in (w.0, Memᴰ.tail w.1, w.2)

  pub count_map : (t : B → Bool) (xs : List A) → count t (map f xs) ≡ count (λ x. t (f x)) xs
  unfolding count
  count_map t [] = refl
  count_map t (x ∷ xs) = ap (λ k. cond (t (f x)) 1 0 + k) (count_map t xs)

  -- a map that sends no two elements of the list to one leaves it without repetition
  pub distinct_map : {xs : List A} → Distinct xs → ((x y : A) → x ∈ xs → y ∈ xs → f x ≡ f y → x ≡ y)
      → Distinct (map f xs)
  distinct_map distinct_nil inj = distinct_nil
  distinct_map (distinct_cons {x = x} {xs = xs} new d) inj =
      distinct_cons (λ m. let w = map_out xs m in new (subst (λ z. z ∈ xs)
      (sym (inj x w.0 (here x xs) (Memᴰ.tail w.1) w.2)) w.1))
      (distinct_map d (λ y z my mz. inj y z (Memᴰ.tail my) (Memᴰ.tail mz)))

-- ---- ranges

pub length-range : (a k : ℕ) → length (range a k) ≡ k
unfolding range
length-range a zero = refl
length-range a (suc k) = ap suc (length-range (suc a) k)

pub range_in : (a k x : ℕ) → a ≤ x → x < a + k → x ∈ range a k
unfolding range
range_in a zero x lo hi = absurd (z a x lo hi)
  where
    z : (a x : ℕ) → a ≤ x → x < a + 0 → ⊥
    z a x lo hi = omega arith
range_in a (suc k) x lo hi = by (ℕ_discrete x a) (range_in (suc a) k x)
  where
    by : Dec (x ≡ a) → (suc a ≤ x → x < suc a + k → x ∈ range (suc a) k) → x ∈ (a ∷ range (suc a) k)
    by (yes e) ih = Memᴰ.head e
    by (no ne) ih = Memᴰ.tail (ih (omega arith) (omega arith))

pub range_out : (a k x : ℕ) → x ∈ range a k → (a ≤ x) × (x < a + k)
unfolding range
range_out a zero x m = absurd (Memᴰ.not-nil m)
range_out a (suc k) x (Memᴰ.head e) = (omega arith, omega arith)
range_out a (suc k) x (Memᴰ.tail m) = let w = range_out (suc a) k x m in (omega arith, omega arith)

pub distinct_range : (a k : ℕ) → Distinct (range a k)
unfolding range
distinct_range a zero = distinct_nil
distinct_range a (suc k) = distinct_cons (λ m. let w = range_out (suc a) k a m in omega arith)
    (distinct_range (suc a) k)

-- the number at an index
pub get_d_range : (a k i d : ℕ) → i < k → get_or (range a k) i d ≡ a + i
unfolding range
get_d_range a zero i d h = absurd (not-suc-le-zero h)
get_d_range a (suc k) zero d h = sym (add-zero a)
get_d_range a (suc k) (suc i) d h = get_d_range (suc a) k i d (le_of_suc-le-suc h) ∙ suc-add a i ∙ sym (add-suc a i)

-- the numbers from a + 1 on are one more than those from a on
pub range-suc : (a k : ℕ) → range (suc a) k ≡ map suc (range a k)
unfolding range
range-suc a zero = refl
range-suc a (suc k) = ap (λ l. suc a ∷ l) (range-suc (suc a) k)

-- ---- numbers in lists

pub has_in : (x : ℕ) (xs : List ℕ) → has x xs ≡ true → x ∈ xs
has_in x xs h = let w = any_found (eqb x) xs h in subst (λ y. y ∈ xs) (sym (eqb-true x w.0 w.2)) w.1

pub in_has : (x : ℕ) {xs : List ℕ} → x ∈ xs → has x xs ≡ true
in_has x m = any_of (eqb x) m (eq-eqb x x refl)

pub dec_in : (x : ℕ) (xs : List ℕ) → Dec (x ∈ xs)
dec_in = dec_member ℕ_discrete

-- ---- how often a number stands in a list

pub count_found : (t : ℕ → Bool) (xs : List ℕ) → 1 ≤ count t xs → (x : ℕ) × (x ∈ xs) × (t x ≡ true)
count_found t xs h =
    any_found t xs (⊎_elim (λ e. e) (λ e. absurd (z (count_none t xs (λ x m. none e m)))) (true-or-false (any t xs)))
  where
    none : any t xs ≡ false → {x : ℕ} → x ∈ xs → t x ≡ false
    none e {x} m = not-true-false (t x) (λ p. true≢false (sym (any_of t m p) ∙ e))

    z : count t xs ≡ 0 → ⊥
    z e = omega arith

pub distinct_count : {xs : List ℕ} → Distinct xs → (v : ℕ) → count (eqb v) xs ≤ 1
unfolding count
distinct_count distinct_nil v = zero-le
distinct_count (distinct_cons {x = x} {xs = xs} new d) v = by (ℕ_discrete v x) (distinct_count d v)
  where
    by : Dec (v ≡ x) → count (eqb v) xs ≤ 1 → cond (eqb v x) 1 0 + count (eqb v) xs ≤ 1
    by (yes e) le =
        let z : count (eqb v) xs ≡ 0 = count_none (eqb v) xs
        (λ y m. ne_eqb v y (λ p. new (subst (λ w. w ∈ xs) (sym p ∙ e) m))) in
        rw (eq-eqb v x e) (omega arith)
    by (no ne) le = rw (ne_eqb v x ne) (omega arith)

pub count_distinct : (xs : List ℕ) → ((v : ℕ) → v ∈ xs → count (eqb v) xs ≤ 1) → Distinct xs
unfolding count
count_distinct [] h = distinct_nil
count_distinct (x ∷ xs) h =
    distinct_cons (λ m. twice m (h x (here x xs))) (count_distinct xs (λ v m. rest v (h v (Memᴰ.tail m))))
  where
    twice : x ∈ xs → cond (eqb x x) 1 0 + count (eqb x) xs ≤ 1 → ⊥
    twice m le =
        let one : 1 ≤ count (eqb x) xs = count_pos (eqb x) m (eq-eqb x x refl) in
        let two : 1 + count (eqb x) xs ≤ 1 = subst (λ b. cond b 1 0 + count (eqb x) xs ≤ 1) (eq-eqb x x refl) le in
        omega arith

    rest : (v : ℕ) → cond (eqb v x) 1 0 + count (eqb v) xs ≤ 1 → count (eqb v) xs ≤ 1
    rest v le = omega arith
