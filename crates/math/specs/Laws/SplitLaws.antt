-- Laws of lists taken apart and put together: selecting along a list, the list that a map came from, lists joined end
-- to end. Assumes nothing.
use Rattle.std.specs.Prelude.{Bool, ◌≡◌, length, get_or}
use Rattle.std.proofs.Math.Bool.{true, false, cond}
use mathlib.Core.List.Memᴰ
use mathlib.Core.List.{List, [], ◌∷◌, ◌++◌, map, flat_map, append_assoc, append-nil, nil≢cons}
use Rattle.std.proofs.Math.Logic.{⊎_elim}
use Rattle.std.proofs.Math.Path.{refl, sym, ap, ap₂}
use Rattle.std.proofs.Common.{◌∙◌, subst, zero-mul, not-suc-le-zero, le_of_suc-le-suc}
use Prim.Native.Nat.{ℕ, zero, suc, ◌+◌, ◌*◌, ◌≤◌, ◌<◌}
use Rattle.std.proofs.Math.Nat.{suc-mul, add_comm}
use native.Mathlib.Omega.{arith}
use Rattle.std.proofs.Math.ListN.{length-append}
use Rattle.math.specs.Laws.ListLaws.{here}
use Rattle.math.specs.Lists.{◌∈◌, select}

module _ {A : Type 0} where
  pub select-cons : (t : A → Bool) {x : A} (xs : List A) → t x ≡ true → select t (x ∷ xs) ≡ x ∷ select t xs
  unfolding select
  select-cons t xs e = rw e

  pub select_skip : (t : A → Bool) {x : A} (xs : List A) → t x ≡ false → select t (x ∷ xs) ≡ select t xs
  unfolding select
  select_skip t xs e = rw e

  pub select-append : (t : A → Bool) (xs ys : List A) → select t (xs ++ ys) ≡ select t xs ++ select t ys
  unfolding select
  select-append t [] ys = refl
  select-append t (x ∷ xs) ys = by (t x) (select-append t xs ys)
    where
      by : (b : Bool) → select t (xs ++ ys) ≡ select t xs ++ select t ys
          → cond b (x ∷ select t (xs ++ ys)) (select t (xs ++ ys))
          ≡ cond b (x ∷ select t xs) (select t xs) ++ select t ys
      by true ih = ap (λ l. x ∷ l) ih
      by false ih = ih

module _ {A B : Type 0} (f : A → B) where
  -- a map that yields nothing had nothing
  pub map-nil : (xs : List A) → map f xs ≡ [] → xs ≡ []
  map-nil [] e = refl
  map-nil (x ∷ xs) e = absurd (nil≢cons (sym e))

  -- a map that yields a first element had a first one
  pub map-cons : (xs : List A) {y : B} {ys : List B} → map f xs ≡ y ∷ ys
      → (x : A) × (rest : List A) × (xs ≡ x ∷ rest) × (f x ≡ y) × (map f rest ≡ ys)
  map-cons [] e = absurd (nil≢cons e)
  map-cons (x ∷ xs) e = (x, xs, refl, cc, cc)

  pub map-append : (xs ys : List A) → map f (xs ++ ys) ≡ map f xs ++ map f ys
  map-append [] ys = refl
  map-append (x ∷ xs) ys = ap (λ l. f x ∷ l) (map-append xs ys)

  -- two maps that agree on a list
  pub map_ext : (g : A → B) (xs : List A) → ((x : A) → x ∈ xs → f x ≡ g x) → map f xs ≡ map g xs
  map_ext g [] h = refl
  map_ext g (x ∷ xs) h = ap₂ ◌∷◌ (h x (here x xs)) (map_ext g xs (λ y m. h y (Memᴰ.tail m)))

  -- a map by index
  pub map_at : (xs : List A) (i : ℕ) (d : A) (e : B) → i < length xs → get_or (map f xs) i e ≡ f (get_or xs i d)
  map_at [] i d e lt = absurd (not-suc-le-zero lt)
  map_at (x ∷ xs) zero d e lt = refl
  map_at (x ∷ xs) (suc i) d e lt = map_at xs i d e (le_of_suc-le-suc lt)

  -- lists of one element each, joined
  pub flat_map_single : (xs : List A) → flat_map (λ x. f x ∷ []) xs ≡ map f xs
  unfolding flat_map
  flat_map_single [] = refl
  flat_map_single (x ∷ xs) = ap (λ l. f x ∷ l) (flat_map_single xs)

module _ {A B : Type 0} (f : A → List B) where
  pub flat_map_append : (xs ys : List A) → flat_map f (xs ++ ys) ≡ flat_map f xs ++ flat_map f ys
  unfolding flat_map
  flat_map_append [] ys = refl
  flat_map_append (x ∷ xs) ys = ap (λ l. f x ++ l) (flat_map_append xs ys)
      ∙ sym (append_assoc (f x) (flat_map f xs) (flat_map f ys))

  -- one more at the end
  pub flat_map_snoc : (xs : List A) (x : A) → flat_map f (xs ++ x ∷ []) ≡ flat_map f xs ++ f x
  unfolding flat_map
  flat_map_snoc xs x = flat_map_append xs (x ∷ []) ∙ ap (λ l. flat_map f xs ++ l) (append-nil (f x))

  -- lists of one length, joined
  pub length_flat_map : (k : ℕ) (xs : List A) → ((x : A) → x ∈ xs → length (f x) ≡ k)
      → length (flat_map f xs) ≡ length xs * k
  unfolding flat_map
  length_flat_map k [] h = sym (zero-mul k)
  length_flat_map k (x ∷ xs) h =
      length-append (f x) (flat_map f xs)
      ∙ ap₂ ◌+◌ (h x (here x xs)) (length_flat_map k xs (λ y m. h y (Memᴰ.tail m)))
      ∙ add_comm k (length xs * k) ∙ sym (suc-mul (length xs) k)

  -- lists of at most k elements, joined
  pub length_flat_map_le : (k : ℕ) (xs : List A) → ((x : A) → x ∈ xs → length (f x) ≤ k)
      → length (flat_map f xs) ≤ length xs * k
  unfolding flat_map
  length_flat_map_le k [] h = omega arith
  length_flat_map_le k (x ∷ xs) h =
      omega (
        arith,
        length-append (f x) (flat_map f xs),
        h x (here x xs),
        length_flat_map_le k xs (λ y m. h y (Memᴰ.tail m)),
        suc-mul (length xs) k,
      )

  -- what stands in one of the lists, and the list in which something stands
  pub flat_map_in : {x : A} {xs : List A} {y : B} → x ∈ xs → y ∈ f x → y ∈ flat_map f xs
  unfolding flat_map
  flat_map_in {y = y} (Memᴰ.head {xs = xs} e) m = Memᴰ.append_left (flat_map f xs) (subst (λ z. y ∈ f z) e m)
  flat_map_in (Memᴰ.tail {x = z} k) m = Memᴰ.append_right (f z) (flat_map_in k m)

  pub flat_map_out : (xs : List A) {y : B} → y ∈ flat_map f xs → (x : A) × (x ∈ xs) × (y ∈ f x)
  unfolding flat_map
  flat_map_out [] m = absurd (Memᴰ.not-nil m)
  flat_map_out (x ∷ xs) m = ⊎_elim (λ k. (x, here x xs, k))
      (λ k. let w = flat_map_out xs k in (w.0, Memᴰ.tail w.1, w.2)) (Memᴰ.append_cases (f x) m)

module _ {A B C : Type 0} (f : B → List C) where
  pub flat_map_map : (g : A → B) (xs : List A) → flat_map f (map g xs) ≡ flat_map (λ x. f (g x)) xs
  unfolding flat_map
  flat_map_map g [] = refl
  flat_map_map g (x ∷ xs) = ap (λ l. f (g x) ++ l) (flat_map_map g xs)

  pub flat_map_flat_map : (g : A → List B) (xs : List A)
      → flat_map f (flat_map g xs) ≡ flat_map (λ x. flat_map f (g x)) xs
  unfolding flat_map
  flat_map_flat_map g [] = refl
  flat_map_flat_map g (x ∷ xs) = flat_map_append f (g x) (flat_map g xs)
      ∙ ap (λ l. flat_map f (g x) ++ l) (flat_map_flat_map g xs)
