-- Laws of the smallest point that meets all rules: the computed one and the sentence agree. Assumes nothing.
use mathlib.Core.List.Memᴰ
use Rattle.std.specs.Prelude.{List, [], ◌∷◌, ◌≡◌, refl, ℕ, min, ◌≤◌}
use Rattle.std.proofs.Math.Option.{Option, some, none, some-ne-none, none-ne-some, some-injective}
use Rattle.std.proofs.Common.{sym, ◌∙◌, subst, le_of_eq, le_trans, le_antisymm, arith}
use Rattle.std.proofs.Math.Nat.{min-eq_left, min-eq_right}
use Rattle.std.proofs.Math.Decide.{dec_le}
use Rattle.math.specs.Laws.ListLaws.{here}
use Rattle.math.specs.Lists.{◌∈◌}
use Rattle.points.specs.Laws.PointLaws.{first-none, none_first}
use Rattle.points.specs.Points.{Numbered, SatisfiesAll, first_falsified, Smallest, NoneSatisfies, lesser, smallest}

-- a point that falsifies a clause does not satisfy all
unmet : (cs : List Numbered) (x : ℕ) (c : Numbered) → first_falsified cs x ≡ some c → SatisfiesAll cs x → ⊥
unmet cs x c f sat = some-ne-none c (sym f ∙ none_first cs x sat)

pub smallest-none : (cs : List Numbered) (l : List ℕ) → smallest cs l ≡ none → NoneSatisfies cs l
unfolding smallest
smallest-none cs [] e y m sat = Memᴰ.not-nil m
smallest-none cs (x ∷ l) e y m sat = by (first_falsified cs x) (smallest cs l) refl refl e (smallest-none cs l) m
  where
    by : (o : Option Numbered) (r : Option ℕ) → first_falsified cs x ≡ o → smallest cs l ≡ r → lesser x o r ≡ none
        → (smallest cs l ≡ none → NoneSatisfies cs l) → y ∈ (x ∷ l) → ⊥
    by none none f g e ih m = some-ne-none x e
    by none (some z) f g e ih m = some-ne-none _ e
    by (some c) r f g e ih (Memᴰ.head h) = unmet cs x c f (subst (SatisfiesAll cs) h sat)
    by (some c) r f g e ih (Memᴰ.tail m) = ih (g ∙ e) y m sat

pub smallest-some : (cs : List Numbered) (l : List ℕ) (x : ℕ) → smallest cs l ≡ some x → Smallest cs l x
unfolding smallest
smallest-some cs [] x e = absurd (none-ne-some x e)
smallest-some cs (a ∷ l) x e = by (first_falsified cs a) (smallest cs l) refl refl e (smallest-some cs l)
    (smallest-none cs l)
  where
    -- the smallest of the rest, where the first point does not satisfy or is no smaller
    rest : (z : ℕ) → Smallest cs l z → (SatisfiesAll cs a → z ≤ a) → Smallest cs (a ∷ l) z
    rest z h le = record { among = Memᴰ.tail h.among; satisfying = h.satisfying; least = least }
      where
        least : (y : ℕ) → y ∈ (a ∷ l) → SatisfiesAll cs y → z ≤ y
        least y (Memᴰ.head q) sat = subst (λ (v : ℕ). z ≤ v) (sym q) (le (subst (SatisfiesAll cs) q sat))
        least y (Memᴰ.tail m) sat = h.least y m sat

    -- the first point, where no other that satisfies is smaller
    first : SatisfiesAll cs a → ((y : ℕ) → y ∈ l → SatisfiesAll cs y → a ≤ y) → Smallest cs (a ∷ l) a
    first sat le = record { among = here a l; satisfying = sat; least = least }
      where
        least : (y : ℕ) → y ∈ (a ∷ l) → SatisfiesAll cs y → a ≤ y
        least y (Memᴰ.head q) s = le_of_eq (sym q)
        least y (Memᴰ.tail m) s = le y m s

    two : (z : ℕ) → SatisfiesAll cs a → Smallest cs l z → Dec (a ≤ z) → Smallest cs (a ∷ l) (min a z)
    two z sat h (yes le) = subst (Smallest cs (a ∷ l)) (sym (min-eq_left le))
        (first sat (λ y m s. le_trans le (h.least y m s)))
    two z sat h (no gt) =
        let le : z ≤ a = omega arith in
        subst (Smallest cs (a ∷ l)) (sym (min-eq_right le)) (rest z h (λ s. le))

    by : (o : Option Numbered) (r : Option ℕ) → first_falsified cs a ≡ o → smallest cs l ≡ r → lesser a o r ≡ some x
        → ((z : ℕ) → smallest cs l ≡ some z → Smallest cs l z) → (smallest cs l ≡ none → NoneSatisfies cs l)
        → Smallest cs (a ∷ l) x
    by none none f g e ih out = subst (Smallest cs (a ∷ l)) (some-injective a x e)
        (first (first-none cs a f) (λ y m s. absurd (out g y m s)))
    by none (some z) f g e ih out = subst (Smallest cs (a ∷ l)) (some-injective _ x e)
        (two z (first-none cs a f) (ih z g) (dec_le a z))
    by (some c) r f g e ih out = rest x (ih x (g ∙ e)) (λ sat. absurd (unmet cs a c f sat))

pub none-smallest : (cs : List Numbered) (l : List ℕ) → NoneSatisfies cs l → smallest cs l ≡ none
none-smallest cs l out = by (smallest cs l) refl
  where
    by : (o : Option ℕ) → smallest cs l ≡ o → smallest cs l ≡ none
    by none e = e
    by (some x) e = let h = smallest-some cs l x e in absurd (out x h.among h.satisfying)

-- there is one only
pub smallest_same : {cs : List Numbered} {l : List ℕ} {x y : ℕ} → Smallest cs l x → Smallest cs l y → x ≡ y
smallest_same {x = x} {y = y} a b =
    le_antisymm (a.least y b.among b.satisfying) (b.least x a.among a.satisfying)
