-- Laws of counting: tests compared over a list, lists without repetition that hold the same, and that an injective map
-- of a finite list into itself is onto; and of what a distance counts: the numbers below n, and two values that differ.
-- Assumes nothing.
use Rattle.std.specs.Prelude.{Bool, ◌⊎◌, ◌≡◌, refl, length, get_or}
use Rattle.std.proofs.Math.Bool.{true, false, cond, xor, false≢true}
use Rattle.std.proofs.Common.{true≢false, inl, inr, ⊎_elim, sym, ap, ◌∙◌, subst, zero-add, le_antisymm, le_of_eq, le_of_suc-le-suc, not-suc-le-zero}
use mathlib.Core.List.Memᴰ
use mathlib.Core.List.{List, [], ◌∷◌, map}
use Prim.Native.Nat.{ℕ, zero, suc, ◌+◌, ◌^◌, ◌≤◌, ◌<◌, zero-le}
use Rattle.std.proofs.Math.Decide.{dec_lt}
use native.Mathlib.Omega.{arith}
use Rattle.std.proofs.lemmas.List.{length-map}
use Rattle.math.specs.Laws.BitLaws.{bit_above}
use Rattle.math.specs.Bits.{bit}
use Rattle.math.specs.Laws.ListLaws.{not-true-false, select_in, select_out, length-select, count_ext, count_pos}
use Rattle.math.specs.Laws.ListLaws.{count_map, distinct_length, distinct_onto, distinct_map, dec_member, get_d_in}
use Rattle.math.specs.Laws.ListLaws.{map_out, range_in, range_out}
use Rattle.math.specs.Lists.{◌∈◌, select, count, Distinct, distinct_nil, distinct_cons, below}

-- ---- two values that differ

pub xor_comm : (a b : Bool) → xor a b ≡ xor b a
unfolding xor
xor_comm true true = refl
xor_comm true false = refl
xor_comm false true = refl
xor_comm false false = refl

pub xor_self : (a : Bool) → xor a a ≡ false
unfolding xor
xor_self true = refl
xor_self false = refl

-- a value changed twice is as it was
pub xor_again : (a b : Bool) → xor a (xor a b) ≡ b
unfolding xor
xor_again true true = refl
xor_again true false = refl
xor_again false true = refl
xor_again false false = refl

pub xor_same : (a b : Bool) → xor a b ≡ false → a ≡ b
unfolding xor
xor_same true true h = refl
xor_same true false h = absurd (true≢false h)
xor_same false true h = absurd (true≢false h)
xor_same false false h = refl

-- of two values that differ, a third differs from one
pub xor-between : (a b c : Bool) → xor a c ≡ true → (xor a b ≡ true) ⊎ (xor b c ≡ true)
unfolding xor
xor-between true true c h = inr h
xor-between true false c h = inl refl
xor-between false true c h = inl refl
xor-between false false c h = inr h

-- changing one of two values that differ makes them equal
pub xor_changed : (a b : Bool) → xor a b ≡ true → xor (xor a true) b ≡ false
unfolding xor
xor_changed true true h = absurd (false≢true h)
xor_changed true false h = refl
xor_changed false true h = refl
xor_changed false false h = absurd (false≢true h)

-- ---- the numbers below n

pub below_in : (n v : ℕ) → v < n → v ∈ below n
below_in n v h = range_in 0 n v zero-le (rw zero-add h)

pub below_out : (n v : ℕ) → v ∈ below n → v < n
below_out n v m = rw zero-add at (range_out 0 n v m).1

-- a digit of a number below 2 ^ n that is 1 stands below n
pub bit_below : (n x v : ℕ) → x < 2 ^ n → bit x v ≡ true → v < n
bit_below n x v h t = by (dec_lt v n)
  where
    by : Dec (v < n) → v < n
    by (yes lt) = lt
    by (no ge) = absurd (true≢false (sym t ∙ bit_above n x v h (omega arith)))

module _ {A : Type 0} where
  -- ---- tests compared over a list

  -- what is not counted passes nowhere
  pub count-zero : (t : A → Bool) {x : A} {xs : List A} → count t xs ≡ 0 → x ∈ xs → t x ≡ false
  count-zero t {x} {xs} h m = not-true-false (t x) (λ e. let one : 1
      ≤ count t xs = count_pos t m e in let z : ⊥ = omega arith in z)

  -- if one of two tests passes wherever a third does, they count as much together
  pub count_either : (t u v : A → Bool) (xs : List A) → ((x : A) → t x ≡ true → (u x ≡ true) ⊎ (v x ≡ true))
      → count t xs ≤ count u xs + count v xs
  unfolding count
  count_either t u v [] h = zero-le
  count_either t u v (x ∷ xs) h = by (t x) (u x) (v x) (h x) (count_either t u v xs h)
    where
      by : (a b c : Bool) → (a ≡ true → (b ≡ true) ⊎ (c ≡ true)) → count t xs ≤ count u xs + count v xs
          → cond a 1 0 + count t xs ≤ cond b 1 0 + count u xs + (cond c 1 0 + count v xs)
      by false b c e ih = omega arith
      by true true c e ih = omega arith
      by true false true e ih = omega arith
      by true false false e ih = absurd (⊎_elim false≢true false≢true (e refl))

  -- of two tests that differ in one element of a list without repetition, the one that passes there counts one more
  pub count-one-more : (t u : A → Bool) {v : A} {xs : List A} → Distinct xs → v ∈ xs → t v ≡ true → u v ≡ false
      → ((x : A) → (x ≡ v → ⊥) → t x ≡ u x) → count t xs ≡ suc (count u xs)
  unfolding count
  count-one-more t u {v = v} distinct_nil m on off same = elim m [ ]
  count-one-more t u {v} (distinct_cons {x = x} {xs = xs} new d) (Memᴰ.head e) on off same =
      here_more (t x) (u x) (ap t (sym e) ∙ on) (ap u (sym e) ∙ off)
      (count_ext t u xs (λ y m. same y (λ p. new (subst (λ z. z ∈ xs) (p ∙ e) m))))
    where
      here_more : (a b : Bool) → a ≡ true → b ≡ false → count t xs ≡ count u xs
          → cond a 1 0 + count t xs ≡ suc (cond b 1 0 + count u xs)
      here_more true false p q r = omega arith
      here_more true true p q r = absurd (true≢false q)
      here_more false b p q r = absurd (false≢true p)
  count-one-more t u {v} (distinct_cons {x = x} {xs = xs} new d) (Memᴰ.tail m) on off same =
      there_more (t x) (u x) (same x (λ p. new (subst (λ z. z ∈ xs) (sym p) m))) (count-one-more t u d m on off same)
    where
      there_more : (a b : Bool) → a ≡ b → count t xs ≡ suc (count u xs)
          → cond a 1 0 + count t xs ≡ suc (cond b 1 0 + count u xs)
      there_more a b p r = rw p (omega arith)

  -- ---- lists without repetition that hold the same

  pub distinct_select : (t : A → Bool) {xs : List A} → Distinct xs → Distinct (select t xs)
  unfolding select
  distinct_select t distinct_nil = distinct_nil
  distinct_select t (distinct_cons {x = x} {xs = xs} new d) = by (t x) (distinct_select t d)
    where
      by : (b : Bool) → Distinct (select t xs) → Distinct (cond b (x ∷ select t xs) (select t xs))
      by true ih = distinct_cons (λ m. new (select_out t xs m).0) ih
      by false ih = ih

  -- a list without repetition that lies within another counts no more
  pub count_within : (t : A → Bool) {xs : List A} → Distinct xs → (ys : List A) → ((x : A) → x ∈ xs → x ∈ ys)
      → count t xs ≤ count t ys
  count_within t {xs} d ys h =
      let le : length (select t xs) ≤ length (select t ys) =
      distinct_length (distinct_select t d) (select t ys)
      (λ x m. let w = select_out t xs m in select_in t (h x w.0) w.1) in
      let a : length (select t xs) ≡ count t xs = length-select t xs in
      let b : length (select t ys) ≡ count t ys = length-select t ys in
      omega arith

  -- elements of a list without repetition that are equal stand at one index
  pub distinct_index : (d : A) {xs : List A} → Distinct xs → (i j : ℕ) → i < length xs → j < length xs
      → get_or xs i d ≡ get_or xs j d → i ≡ j
  distinct_index d distinct_nil i j hi hj e = absurd (not-suc-le-zero hi)
  distinct_index d (distinct_cons new r) zero zero hi hj e = refl
  distinct_index d (distinct_cons {x = x} {xs = xs} new r) zero (suc j) hi hj e = absurd
      (new (subst (λ z. z ∈ xs) (sym e) (get_d_in xs j d (le_of_suc-le-suc hj))))
  distinct_index d (distinct_cons {x = x} {xs = xs} new r) (suc i) zero hi hj e = absurd
      (new (subst (λ z. z ∈ xs) e (get_d_in xs i d (le_of_suc-le-suc hi))))
  distinct_index d (distinct_cons new r) (suc i) (suc j) hi hj e = ap suc
      (distinct_index d r i j (le_of_suc-le-suc hi) (le_of_suc-le-suc hj) e)

  -- ---- an injective map of a finite list into itself is onto

  -- a list without repetition that holds the same as xs
  record Once (xs : List A) : Type 0 where
    elements : List A
    distinct : Distinct elements
    within : (x : A) → x ∈ elements → x ∈ xs
    whole : (x : A) → x ∈ xs → x ∈ elements

  once : Discrete A → (xs : List A) → Once xs
  once dec [] = record { elements = []; distinct = distinct_nil; within = λ x m. m; whole = λ x m. m }
  once dec (x ∷ xs) = let r = once dec xs in by r (dec_member dec x r.elements)
    where
      by : (r : Once xs) → Dec (x ∈ r.elements) → Once (x ∷ xs)
      by r (yes m) =
          record {
            elements = r.elements;
            distinct = r.distinct;
            within = λ y k. Memᴰ.tail (r.within y k);
            whole = λ y k. ⊎_elim (λ e. subst (λ z. z ∈ r.elements) (sym e) m) (r.whole y) (Memᴰ.cases_cons k);
          }
      by r (no new) =
          record {
            elements = x ∷ r.elements;
            distinct = distinct_cons new r.distinct;
            within = λ y k. ⊎_elim (λ e. Memᴰ.head e) (λ l. Memᴰ.tail (r.within y l))
                (Memᴰ.cases_cons k);
            whole = λ y k. ⊎_elim (λ e. Memᴰ.head e) (λ l. Memᴰ.tail (r.whole y l)) (Memᴰ.cases_cons k);
          }

  -- the list may hold repetitions
  pub injective_onto : Discrete A → (f : A → A) (xs : List A) → ((x : A) → x ∈ xs → f x ∈ xs)
      → ((x y : A) → x ∈ xs → y ∈ xs → f x ≡ f y → x ≡ y) → (y : A) → y ∈ xs → (x : A) × (x ∈ xs) × (f x ≡ y)
  injective_onto dec f xs into injective y m =
      let r = once dec xs in
      let images : y ∈ map f r.elements =
      distinct_onto (dec_member dec) (distinct_map f r.distinct
      (λ a b ma mb. injective a b (r.within a ma) (r.within b mb))) r.elements
      (λ z k. let w = map_out f r.elements k in subst (λ u. u ∈ r.elements) (sym w.2)
      (r.whole (f w.0) (into w.0 (r.within w.0 w.1))))
      (le_of_eq (sym (length-map r.elements f))) y (r.whole y m) in
      let w = map_out f r.elements images in
      (w.0, r.within w.0 w.1, sym w.2)

module _ {A B : Type 0} where
  -- a map between two lists without repetition that is injective and meets every element carries a count over
  pub count_carried : (f : A → B) (t : B → Bool) {xs : List A} {ys : List B} → Distinct xs → Distinct ys
      → ((x : A) → x ∈ xs → f x ∈ ys) → ((x y : A) → x ∈ xs → y ∈ xs → f x ≡ f y → x ≡ y)
      → ((y : B) → y ∈ ys → y ∈ map f xs) → count (λ x. t (f x)) xs ≡ count t ys
  count_carried f t {xs} {ys} dx dy into injective onto =
      sym (count_map f t xs)
      ∙ le_antisymm
      (count_within t (distinct_map f dx injective) ys (λ y m. let w = map_out f xs m in subst (λ z. z ∈ ys)
      (sym w.2) (into w.0 w.1)))
      (count_within t dy (map f xs) onto)
