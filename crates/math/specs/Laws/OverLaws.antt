-- Laws of new contents in front of what was there, while they grow at their end or one element of them changes, and of
-- the loop that copies a list there. Assumes nothing.
use Rattle.std.specs.Prelude.{List, [], ◌∷◌, ◌++◌, ◌≡◌, length, take}
use Rattle.std.proofs.Common.{append_assoc, ap₂, ◌∙◌, le_of_lt, lt_of_lt_of_le, le_antisymm, arith, length-append, length-set, length-take-le, take-suc}
use Rattle.std.proofs.Math.Path.{refl, sym, ap}
use Prim.Native.Nat.{ℕ, suc, ◌+◌, ◌≤◌, ◌<◌, zero-le}
use Rattle.std.proofs.Math.ListN.{get_or, set, drop}
use Rattle.std.proofs.Math.Seq.{drop-cons, set_at, get_or_at}
use Rattle.math.specs.Lists.{over}
use Rattle.math.specs.Laws.QueueLaws.{length_snoc}

module _ {A : Type 0} where
  -- nothing in front: what was there
  pub over_none : (old : List A) → over [] old ≡ old
  unfolding over
  over_none old = refl

  -- the element behind the new contents becomes the last of them
  pub over_snoc : (k : ℕ) (new old : List A) (a : A) → length new ≡ k → k < length old
      → set (over new old) k a ≡ over (new ++ a ∷ []) old
  unfolding over
  over_snoc k new old a e lt =
      ap (λ l. set (new ++ l) k a) (ap (λ i. drop i old) e ∙ drop-cons old k a lt)
      ∙ set_at new (get_or old k a) (drop (suc k) old) a k e
      ∙ sym (append_assoc new (a ∷ []) (drop (suc k) old))
      ∙ ap (λ i. (new ++ a ∷ []) ++ drop i old) (sym (length_snoc new a ∙ ap suc e))

  -- an element of the new contents takes another's place
  pub over_change : (k : ℕ) (front back old : List A) (a b : A) → length front ≡ k
      → set (over (front ++ a ∷ back) old) k b ≡ over (front ++ b ∷ back) old
  unfolding over
  over_change k front back old a b e =
      ap (λ l. set l k b) (append_assoc front (a ∷ back) (drop (length (front ++ a ∷ back)) old))
      ∙ set_at front a (back ++ drop (length (front ++ a ∷ back)) old) b k e
      ∙ sym (append_assoc front (b ∷ back) (drop (length (front ++ a ∷ back)) old))
      ∙ ap (λ i. (front ++ b ∷ back) ++ drop i old) (length-append front (a ∷ back)
      ∙ sym (length-append front (b ∷ back)))

  -- and is read at its index
  pub over-at : (k : ℕ) (front back old : List A) (a d : A) → length front ≡ k
      → get_or (over (front ++ a ∷ back) old) k d ≡ a
  unfolding over
  over-at k front back old a d e =
      ap (λ l. get_or l k d) (append_assoc front (a ∷ back) (drop (length (front ++ a ∷ back)) old))
      ∙ get_or_at front a (back ++ drop (length (front ++ a ∷ back)) old) d k e

  -- copying another list element by element: after i come i + 1
  pub over-take_next : (i : ℕ) (xs old : List A) (d : A) → i < length xs → i < length old
      → set (over (take i xs) old) i (get_or xs i d) ≡ over (take (i + 1) xs) old
  over-take_next i xs old d more room =
      over_snoc i (take i xs) old (get_or xs i d) (length-take-le i xs (le_of_lt more)) room
      ∙ ap (λ l. over l old) (sym (take-suc xs i d more)
      ∙ ap (λ (j : ℕ). take j xs) (let z : suc i ≡ i + 1 = omega arith in z))

-- the loop that copies the first `count` numbers of a list to the front of another: the first i are there
pub record Copying (count : ℕ) (xs old : List ℕ) (i : ℕ) (to : List ℕ) : Type 0 where
  pub enough : count ≤ length xs
  pub room : count ≤ length old
  pub within : i ≤ count
  pub long : length to ≡ length old
  pub copied : to ≡ over (take i xs) old

module _ {count : ℕ} {xs old : List ℕ} where
  -- before the first turn nothing is copied
  pub copying_begins : count ≤ length xs → count ≤ length old → Copying count xs old 0 old
  copying_begins e r = record { enough = e; room = r; within = zero-le; long = refl; copied = sym (over_none old) }

  -- a turn copies number i behind the others
  pub copying_goes_on : {i x : ℕ} {to after : List ℕ} → Copying count xs old i to → i < count → x ≡ get_or xs i 0
      → after ≡ set to i x → Copying count xs old (i + 1) after
  copying_goes_on {i} {x} {to} s more e f =
      record {
        enough = s.enough;
        room = s.room;
        within = omega arith;
        long = ap length f ∙ length-set to i x ∙ s.long;
        copied = f ∙ ap₂ (λ (l : List ℕ) (y : ℕ). set l i y) s.copied e
            ∙ over-take_next i xs old 0 (lt_of_lt_of_le more s.enough) (lt_of_lt_of_le more s.room);
      }

  -- after the last turn all are copied
  pub copying_ends : {i : ℕ} {to : List ℕ} → Copying count xs old i to → count ≤ i → to ≡ over (take count xs) old
  copying_ends s all = s.copied ∙ ap (λ (k : ℕ). over (take k xs) old) (le_antisymm s.within all)
