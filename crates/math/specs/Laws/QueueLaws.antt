-- Laws of a list that grows at its end and whose elements are changed one by one, oldest first: what an element put
-- behind it keeps, and what is kept where one element takes another's place; and of the front of a list. Assumes
-- nothing.
use mathlib.Core.List.Memᴰ
use Rattle.std.specs.Prelude.{List, [], ◌∷◌, ◌++◌, map, ◌≡◌, ℕ, zero, suc, ◌+◌, ◌≤◌, ◌<◌, length, get_or, take, drop}
use Rattle.std.proofs.Common.{append_assoc, ⊎_elim, sym, ap, ◌∙◌, subst₂, zero-le, suc-le-suc, not-suc-le-zero, le_of_suc-le-suc, zero-add, suc-add, le_trans, le_of_eq, add-one, arith, length-append, get_or-append-add, take-take}
use Rattle.std.proofs.Math.ListN.{get_or-append, get_or-map}
use Rattle.std.proofs.Math.Seq.{take-nil}
use Rattle.math.specs.Laws.ListLaws.{here, in_get_d, distinct_length, length-range, range_in}
use Rattle.math.specs.Lists.{◌∈◌, Distinct, distinct_nil, distinct_cons, below}
use Rattle.math.specs.Laws.PartLaws.{each_nil, each_cons}
use Rattle.math.specs.Laws.SplitLaws.{map-append}

module _ {A : Type 0} where
  -- ---- what holds of each element

  pub each_append : (P : A → Type 0) (xs : List A) {ys : List A} → ((x : A) → x ∈ xs → P x) → ((x : A) → x ∈ ys → P x)
      → (x : A) → x ∈ (xs ++ ys) → P x
  each_append P xs f g x m = ⊎_elim (f x) (g x) (Memᴰ.append_cases xs m)

  pub each_snoc : (P : A → Type 0) (xs : List A) {y : A} → ((x : A) → x ∈ xs → P x) → P y → (x : A) → x ∈ (xs ++ y ∷ [])
      → P x
  each_snoc P xs f p = each_append P xs f (each_cons P p (each_nil P))

  -- the last element stands in the list
  pub last_in : (xs : List A) (y : A) → y ∈ (xs ++ y ∷ [])
  last_in xs y = Memᴰ.append_right xs (here y [])

  pub length_snoc : (xs : List A) (y : A) → length (xs ++ y ∷ []) ≡ suc (length xs)
  length_snoc xs y = length-append xs (y ∷ []) ∙ add-one (length xs)

  -- ---- an element put behind the list

  pub distinct_snoc : {xs : List A} {y : A} → Distinct xs → (y ∈ xs → ⊥) → Distinct (xs ++ y ∷ [])
  distinct_snoc distinct_nil new = distinct_cons Memᴰ.not-nil distinct_nil
  distinct_snoc {y = y} (distinct_cons {x = x} {xs = xs} fresh d) new =
      distinct_cons (λ m. ⊎_elim fresh (λ k. new (back k)) (Memᴰ.append_cases xs m))
      (distinct_snoc d (λ m. new (Memᴰ.tail m)))
    where
      back : x ∈ (y ∷ []) → y ∈ (x ∷ xs)
      back (Memᴰ.head e) = Memᴰ.head (sym e)
      back (Memᴰ.tail m) = absurd (Memᴰ.not-nil m)

  -- what holds of each element with its index
  pub index_snoc : (P : ℕ → A → Type 0) (d : A) (xs : List A) (y : A) → ((i : ℕ) → i < length xs → P i (get_or xs i d))
      → P (length xs) y
      → (i : ℕ) → i < length (xs ++ y ∷ []) → P i (get_or (xs ++ y ∷ []) i d)
  index_snoc P d [] y f p zero lt = p
  index_snoc P d [] y f p (suc i) lt = absurd (not-suc-le-zero (le_of_suc-le-suc lt))
  index_snoc P d (x ∷ xs) y f p zero lt = f 0 (suc-le-suc zero-le)
  index_snoc P d (x ∷ xs) y f p (suc i) lt = index_snoc (λ j. P (suc j)) d xs y (λ j le. f (suc j) (suc-le-suc le)) p i
      (le_of_suc-le-suc lt)

  -- what holds of any two elements, the earlier first
  pub pairs_snoc : (R : A → A → Type 0) (d : A) (xs : List A) (y : A)
      → ((i j : ℕ) → i ≤ j → j < length xs → R (get_or xs i d) (get_or xs j d))
      → ((x : A) → x ∈ xs → R x y) → R y y → (i j : ℕ) → i ≤ j → j < length (xs ++ y ∷ [])
      → R (get_or (xs ++ y ∷ []) i d) (get_or (xs ++ y ∷ []) j d)
  pairs_snoc R d [] y f g r zero zero le lt = r
  pairs_snoc R d [] y f g r i (suc j) le lt = absurd (not-suc-le-zero (le_of_suc-le-suc lt))
  pairs_snoc R d [] y f g r (suc i) zero le lt = absurd (not-suc-le-zero le)
  pairs_snoc R d (x ∷ xs) y f g r zero zero le lt = f 0 0 zero-le (suc-le-suc zero-le)
  pairs_snoc R d (x ∷ xs) y f g r zero (suc j) le lt =
      index_snoc (λ k z. R x z) d xs y (λ k h. f 0 (suc k) zero-le (suc-le-suc h)) (g x (here x xs)) j
      (le_of_suc-le-suc lt)
  pairs_snoc R d (x ∷ xs) y f g r (suc i) zero le lt = absurd (not-suc-le-zero le)
  pairs_snoc R d (x ∷ xs) y f g r (suc i) (suc j) le lt =
      pairs_snoc R d xs y (λ a b h k. f (suc a) (suc b) (suc-le-suc h) (suc-le-suc k)) (λ z m. g z (Memᴰ.tail m)) r
      i j (le_of_suc-le-suc le) (le_of_suc-le-suc lt)

  -- an element of the front list is earlier than one of the list behind it
  pub before-after : (R : A → A → Type 0) (d : A) (xs ys : List A)
      → ((i j : ℕ) → i ≤ j → j < length (xs ++ ys) → R (get_or (xs ++ ys) i d) (get_or (xs ++ ys) j d))
      → (x y : A) → x ∈ xs → y ∈ ys → R x y
  before-after R d xs ys f x y mx my =
      let i = in_get_d d mx in
      let j = in_get_d d my in
      subst₂ R (get_or-append xs ys d i.0 i.1 ∙ i.2) (get_or-append-add xs ys j.0 d ∙ j.2)
      (f i.0 (length xs + j.0) (le i.0 j.0 i.1) (short j.0 j.1))
    where
      le : (i j : ℕ) → i < length xs → i ≤ length xs + j
      le i j h = omega arith

      short : (j : ℕ) → j < length ys → length xs + j < length (xs ++ ys)
      short j h = let e : length (xs ++ ys) ≡ length xs + length ys = length-append xs ys in omega arith

  -- ---- an element x in the place of y, counted to the front list

  pub each_moved : (P : A → Type 0) (p w : List A) (x y : A) → (P y → P x) → ((z : A) → z ∈ (p ++ y ∷ w) → P z)
      → (z : A) → z ∈ ((p ++ x ∷ []) ++ w) → P z
  each_moved P p w x y g f =
      each_append P (p ++ x ∷ [])
      (each_snoc P p (λ z m. f z (Memᴰ.append_left (y ∷ w) m)) (g (f y (Memᴰ.append_right p (here y w)))))
      (λ z m. f z (Memᴰ.append_right p (Memᴰ.tail m)))

  pub length_moved : (p w : List A) (x y : A) → length ((p ++ x ∷ []) ++ w) ≡ length (p ++ y ∷ w)
  length_moved p w x y = ap length (append_assoc p (x ∷ []) w) ∙ length-append p (x ∷ w) ∙ sym (length-append p (y ∷ w))

  -- ---- the front of a list and what stands behind it

  pub drop-take : (n m : ℕ) (l : List A) → drop n (take (n + m) l) ≡ take m (drop n l)
  drop-take zero m l = ap (λ j. take j l) (zero-add m)
  drop-take (suc n) m [] = ap (drop (suc n)) (take-nil (suc n + m)) ∙ sym (take-nil m)
  drop-take (suc n) m (x ∷ l) = ap (λ j. drop (suc n) (take j (x ∷ l))) (suc-add n m) ∙ drop-take n m l

  -- lists with the same n + m elements in front have the same n in front, and the same m behind those
  pub same_front : (n m : ℕ) (a b : List A) → take (n + m) a ≡ take (n + m) b
      → (take n a ≡ take n b) × (take m (drop n a) ≡ take m (drop n b))
  same_front n m a b e = (
    sym (take-take n (n + m) a (omega arith)) ∙ ap (take n) e ∙ take-take n (n + m) b (omega arith),
    sym (drop-take n m a) ∙ ap (drop n) e ∙ drop-take n m b,
  )

module _ {A B : Type 0} (f : A → B) where
  pub map-moved : (p w : List A) (x y : A) → f x ≡ f y → map f ((p ++ x ∷ []) ++ w) ≡ map f (p ++ y ∷ w)
  map-moved p w x y e =
      ap (map f) (append_assoc p (x ∷ []) w) ∙ map-append f p (x ∷ w) ∙ ap (λ b. map f p ++ b ∷ map f w) e
      ∙ sym (map-append f p (y ∷ w))

  pub get_d_moved : (p w : List A) (x y d : A) → f x ≡ f y → (i : ℕ)
      → f (get_or ((p ++ x ∷ []) ++ w) i d) ≡ f (get_or (p ++ y ∷ w) i d)
  get_d_moved p w x y d e i =
      sym (get_or-map f ((p ++ x ∷ []) ++ w) i d) ∙ ap (λ l. get_or l i (f d)) (map-moved p w x y e)
      ∙ get_or-map f (p ++ y ∷ w) i d

-- different numbers below k are at most k
pub distinct_below : {xs : List ℕ} → Distinct xs → (k : ℕ) → ((x : ℕ) → x ∈ xs → x < k) → length xs ≤ k
distinct_below {xs} d k small =
    le_trans (distinct_length d (below k) (λ x m. range_in 0 k x zero-le (rw zero-add (small x m))))
    (le_of_eq (length-range 0 k))
