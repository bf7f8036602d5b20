-- Laws of new contents in the place of old ones: one element, and one part behind the other. Assumes nothing.
use mathlib.Core.List.{List, [], ◌∷◌, ◌++◌, append_assoc, append-nil}
use Rattle.std.specs.Prelude.{◌≡◌, ℕ, ◌+◌, ◌≤◌, ◌<◌, get_or, set}
use Rattle.std.proofs.Math.Path.{sym, ap, ap₂}
use Rattle.std.proofs.Common.{◌∙◌, add-zero, add_assoc, zero-add, le_of_eq, le_of_lt, lt_of_lt_of_le, add-one, take_at, take-suc}
use native.Mathlib.Omega.{arith}
use Rattle.std.proofs.Math.ListN.{length, take, drop, length-append, length-drop, take-append-drop}
use Rattle.std.proofs.Math.Seq.{length-take-le, drop-drop, drop-append-add, set_split, append_snoc}
use Rattle.math.specs.Lists.{over, spliced}

module _ {A : Type 0} where
  -- nothing spliced in: what was there
  pub spliced-none : (i : ℕ) (old : List A) → spliced i [] old ≡ old
  unfolding spliced
  spliced-none i old =
      ap (λ (j : ℕ). take i old ++ [] ++ drop j old) (add-zero i) ∙ ap (λ l. l ++ drop i old) (append-nil (take i old))
      ∙ take-append-drop i old

  -- in front it is contents over what was there
  pub spliced-front : (new old : List A) → spliced 0 new old ≡ over new old
  unfolding spliced over
  spliced-front new old = ap (λ (j : ℕ). new ++ drop j old) (zero-add (length new))

  pub length-spliced : (i : ℕ) (new old : List A) → i + length new ≤ length old
      → length (spliced i new old) ≡ length old
  unfolding spliced
  length-spliced i new old h =
      omega (
        arith,
        length-append (take i old ++ new) (drop (i + length new) old),
        length-append (take i old) new,
        length-take-le i old (let z : i ≤ length old = omega arith in z),
        length-drop (i + length new) old,
      )

  -- storing one element
  pub spliced-one : (i : ℕ) (a : A) (old : List A) → i < length old → set old i a ≡ spliced i (a ∷ []) old
  unfolding spliced
  spliced-one i a old h =
      set_split old i a h ∙ ap (λ (j : ℕ). take i old ++ a ∷ drop j old) (sym (add-one i))
      ∙ sym (append_snoc (take i old) a (drop (i + 1) old))

  -- one part, and the next behind it
  pub spliced_next : (i : ℕ) (a b old : List A) → i ≤ length old
      → spliced (i + length a) b (spliced i a old) ≡ spliced i (a ++ b) old
  unfolding spliced
  spliced_next i a b old h =
      let front : List A = take i old ++ a in
      let long : length front ≡ i + length a = length-append (take i old) a
      ∙ ap (λ (j : ℕ). j + length a) (length-take-le i old h) in
      ap₂ (λ (l r : List A). l ++ b ++ r) (take_at front (drop (i + length a) old) (i + length a) long)
      (ap (λ (j : ℕ). drop (j + length b) (front ++ drop (i + length a) old)) (sym long)
      ∙ drop-append-add front (drop (i + length a) old) (length b)
      ∙ drop-drop (length b) (i + length a) old)
      ∙ ap₂ (λ (l : List A) (j : ℕ). l ++ drop j old) (append_assoc (take i old) a b)
      (add_assoc i (length a) (length b) ∙ ap (λ (j : ℕ). i + j) (sym (length-append a b)))

  -- the element behind what is spliced in becomes the last of it
  pub spliced_snoc : (i : ℕ) (new old : List A) (a : A) → i + length new < length old
      → set (spliced i new old) (i + length new) a ≡ spliced i (new ++ a ∷ []) old
  spliced_snoc i new old a h =
      spliced-one (i + length new) a (spliced i new old)
      (lt_of_lt_of_le h (le_of_eq (sym (length-spliced i new old (le_of_lt h)))))
      ∙ spliced_next i new (a ∷ []) old (omega arith)

  -- copying another list element by element: after j come j + 1
  pub spliced-take_next : (i j : ℕ) (xs old : List A) (d : A) → j < length xs → i + j < length old
      → set (spliced i (take j xs) old) (i + j) (get_or xs j d) ≡ spliced i (take (j + 1) xs) old
  spliced-take_next i j xs old d more room =
      let long : length (take j xs) ≡ j = length-take-le j xs (le_of_lt more) in
      ap (λ (k : ℕ). set (spliced i (take j xs) old) (i + k) (get_or xs j d)) (sym long)
      ∙ spliced_snoc i (take j xs) old (get_or xs j d) (omega arith)
      ∙ ap (λ l. spliced i l old) (sym (take-suc xs j d more) ∙ ap (λ (k : ℕ). take k xs) (sym (add-one j)))
