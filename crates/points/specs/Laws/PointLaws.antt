-- Laws of points and clauses: what the computed tests say, and distance. Assumes nothing.
use Rattle.std.specs.Prelude.{Bool, true, false, not, cond, ◌&&◌, ◌||◌, List, [], ◌∷◌, ◌++◌, ◌≡◌, refl, ℕ, ◌<◌, ◌^◌, eqb}
use Rattle.std.proofs.Math.Bool.{xor}
use Rattle.std.proofs.Common.{true≢false, ⊎_elim, sym, ap, ap₂, ◌∙◌, ne_eqb}
use Rattle.std.proofs.lemmas.Bool.{false≢true, eqb-false, not-true}
use mathlib.Core.List.Memᴰ
use Rattle.std.proofs.Math.Option.{some, none, some-ne-none, none-ne-some, some-injective}
use Rattle.std.specs.Int.Bits.{bit_and, bit_or, bit_xor}
use Rattle.std.proofs.lemmas.Nat.{xor_lt}
use Rattle.std.specs.Int.Count.{ones}
use Rattle.math.specs.Laws.BitLaws.{bit-and, bit-or, bit-xor, bit_of_zero, some-bit, differing_bit}
use Rattle.math.specs.Bits.{bit}
use Rattle.math.specs.Laws.ListLaws.{count_ext, or_split, or_left, or_right, and_split, and_join, not-true-false}
use Rattle.math.specs.Laws.ListLaws.{true-or-false, here, same_tests}
use Rattle.math.specs.Lists.{◌∈◌, below}
use Rattle.math.specs.Laws.SetLaws.{ones_count}
use Rattle.points.specs.Points.{Clause, Satisfies, by_yes, by_no, satisfies, distance, Numbered, SatisfiesAll}
use Rattle.points.specs.Points.{FirstFalsified, first_falsified}

-- ---- distance

pub ones_distance : (n x y : ℕ) → x < 2 ^ n → y < 2 ^ n → ones (bit_xor x y) ≡ distance n x y
unfolding distance
ones_distance n x y hx hy =
    ones_count n (bit_xor x y) (xor_lt n x y hx hy)
    ∙ count_ext (bit (bit_xor x y)) (λ i. xor (bit x i) (bit y i)) (below n) (λ i m. bit-xor x y i)

-- ---- a point satisfies a clause: the computed test and the sentence agree

not-zero : (s i : ℕ) → bit s i ≡ true → not (eqb s 0) ≡ true
not-zero s i h = ap not (ne_eqb s 0 (λ e. true≢false (sym h ∙ ap (λ x. bit x i) e ∙ bit_of_zero i)))

pub satisfies_complete : (c : Clause) (x : ℕ) → Satisfies c x → satisfies c x ≡ true
unfolding satisfies
satisfies_complete c x (by_yes i p q) =
    or_left (not (eqb (bit_and x c.positive) 0)) (not (eqb (bit_and x c.negative) c.negative))
    (not-zero (bit_and x c.positive) i (bit-and x c.positive i ∙ and_join (bit x i) (bit c.positive i) q p))
satisfies_complete c x (by_no i p q) =
    or_right (not (eqb (bit_and x c.positive) 0)) (not (eqb (bit_and x c.negative) c.negative))
    (ap not (ne_eqb (bit_and x c.negative) c.negative
    (λ e. true≢false (sym p ∙ ap (λ s. bit s i) (sym e) ∙ bit-and x c.negative i
    ∙ ap (λ b. b && bit c.negative i) q))))

pub satisfies_sound : (c : Clause) (x : ℕ) → satisfies c x ≡ true → Satisfies c x
unfolding satisfies xor
satisfies_sound c x h =
    ⊎_elim positive negative (or_split (not (eqb (bit_and x c.positive) 0))
    (not (eqb (bit_and x c.negative) c.negative)) h)
  where
    positive : not (eqb (bit_and x c.positive) 0) ≡ true → Satisfies c x
    positive e =
        let w = some-bit (bit_and x c.positive) (eqb-false (bit_and x c.positive) 0 (not-true _ e)) in
        let both = and_split (bit x w.0) (bit c.positive w.0) (sym (bit-and x c.positive w.0) ∙ w.1) in
        by_yes w.0 both.1 both.0

    -- where a digit of x & s is not that of s, s has it and x has not
    missing : (a b : Bool) → xor (a && b) b ≡ true → (b ≡ true) × (a ≡ false)
    missing true true e = absurd (false≢true e)
    missing true false e = absurd (false≢true e)
    missing false true e = (refl, refl)
    missing false false e = absurd (false≢true e)

    negative : not (eqb (bit_and x c.negative) c.negative) ≡ true → Satisfies c x
    negative e =
        let w = differing_bit (bit_and x c.negative) c.negative
        (eqb-false (bit_and x c.negative) c.negative (not-true _ e)) in
        let m = missing (bit x w.0) (bit c.negative w.0)
        (ap (λ b. xor b (bit c.negative w.0)) (sym (bit-and x c.negative w.0)) ∙ w.1) in
        by_no w.0 m.0 m.1

-- the literals that the point meets, as one set: it satisfies the clause where there is one
abbrev pub met_by : Clause → ℕ → ℕ
met_by c x = bit_or (bit_and x c.positive) (bit_and (bit_xor x c.negative) c.negative)

pub satisfies_met : (c : Clause) (x : ℕ) → not (eqb (met_by c x) 0) ≡ satisfies c x
unfolding xor
satisfies_met c x =
    same_tests (not (eqb (met_by c x) 0)) (satisfies c x) (λ e. satisfies_complete c x (met e))
    (λ e. shown (satisfies_sound c x e))
  where
    yes_at : ℕ → Bool
    yes_at i = bit x i && bit c.positive i

    no_at : ℕ → Bool
    no_at i = xor (bit x i) (bit c.negative i) && bit c.negative i

    digit : (i : ℕ) → bit (met_by c x) i ≡ yes_at i || no_at i
    digit i =
        bit-or (bit_and x c.positive) (bit_and (bit_xor x c.negative) c.negative) i
        ∙ ap₂ ◌||◌ (bit-and x c.positive i)
        (bit-and (bit_xor x c.negative) c.negative i
        ∙ ap (λ b. b && bit c.negative i) (bit-xor x c.negative i))

    lacking : (a b : Bool) → xor a b ≡ true → b ≡ true → a ≡ false
    lacking true true e f = absurd (false≢true e)
    lacking true false e f = absurd (false≢true f)
    lacking false b e f = refl

    met : not (eqb (met_by c x) 0) ≡ true → Satisfies c x
    met e =
        let w = some-bit (met_by c x) (eqb-false (met_by c x) 0 (not-true _ e)) in
        let i = w.0 in
        ⊎_elim
        (λ h. let both = and_split (bit x i) (bit c.positive i) h in by_yes i both.1 both.0)
        (λ h. let both = and_split (xor (bit x i) (bit c.negative i)) (bit c.negative i) h in
        by_no i both.1 (lacking (bit x i) (bit c.negative i) both.0 both.1))
        (or_split (yes_at i) (no_at i) (sym (digit i) ∙ w.1))

    shown : Satisfies c x → not (eqb (met_by c x) 0) ≡ true
    shown (by_yes i p q) =
        not-zero (met_by c x) i (digit i ∙ or_left (yes_at i) (no_at i) (and_join (bit x i) (bit c.positive i) q p))
    shown (by_no i p q) =
        not-zero (met_by c x) i (digit i
        ∙ or_right (yes_at i) (no_at i) (and_join (xor (bit x i) (bit c.negative i)) (bit c.negative i)
        (ap₂ xor q p) p))

pub falsifies : (c : Clause) (x : ℕ) → satisfies c x ≡ false → Satisfies c x → ⊥
falsifies c x h s = true≢false (sym (satisfies_complete c x s) ∙ h)

pub falsified : (c : Clause) (x : ℕ) → (Satisfies c x → ⊥) → satisfies c x ≡ false
falsified c x h = not-true-false (satisfies c x) (λ e. h (satisfies_sound c x e))

-- ---- the first falsified clause: the computed one and the sentence agree

pub first_complete : (cs : List Numbered) (x : ℕ) (c : Numbered) → FirstFalsified cs x c → first_falsified cs x ≡ some c
unfolding first_falsified
first_complete cs x c f = ap (λ l. first_falsified l x) f.place ∙ passes f.before f.earlier
  where
    unmet : first_falsified (c ∷ f.after) x ≡ some c
    unmet = rw (falsified c.clause x f.falsified)

    passes : (b : List Numbered) → SatisfiesAll b x → first_falsified (b ++ c ∷ f.after) x ≡ some c
    passes [] s = unmet
    passes (d ∷ ds) s = rw (satisfies_complete d.clause x (s d (here d ds)))
        (passes ds (λ e m. s e (Memᴰ.tail m)))

pub first-none : (cs : List Numbered) (x : ℕ) → first_falsified cs x ≡ none → SatisfiesAll cs x
unfolding first_falsified
first-none [] x h c m = absurd (Memᴰ.not-nil m)
first-none (d ∷ ds) x h c m = by (satisfies d.clause x) refl h (first-none ds x) m
  where
    by : (b : Bool) → satisfies d.clause x ≡ b → cond b (first_falsified ds x) (some d) ≡ none
        → (first_falsified ds x ≡ none → SatisfiesAll ds x)
        → c ∈ (d ∷ ds) → Satisfies c.clause x
    by true e h ih (Memᴰ.head p) = satisfies_sound c.clause x
        (ap (λ (c : Numbered). satisfies c.clause x) p ∙ e)
    by true e h ih (Memᴰ.tail m) = ih h c m
    by false e h ih m = absurd (some-ne-none d h)

pub none_first : (cs : List Numbered) (x : ℕ) → SatisfiesAll cs x → first_falsified cs x ≡ none
unfolding first_falsified
none_first [] x s = refl
none_first (d ∷ ds) x s = rw (satisfies_complete d.clause x (s d (here d ds)))
    (none_first ds x (λ c m. s c (Memᴰ.tail m)))

pub first_sound : (cs : List Numbered) (x : ℕ) (c : Numbered) → first_falsified cs x ≡ some c → FirstFalsified cs x c
unfolding first_falsified
first_sound [] x c h = absurd (none-ne-some c h)
first_sound (d ∷ ds) x c h = by (satisfies d.clause x) refl h (first_sound ds x c)
  where
    by : (b : Bool) → satisfies d.clause x ≡ b → cond b (first_falsified ds x) (some d) ≡ some c
        → (first_falsified ds x ≡ some c → FirstFalsified ds x c)
        → FirstFalsified (d ∷ ds) x c
    by true e h ih =
        let f = ih h in
        record {
          before = d ∷ f.before;
          after = f.after;
          place = ap (λ l. d ∷ l) f.place;
          falsified = f.falsified;
          earlier = sooner e f.earlier;
        }
      where
        sooner : satisfies d.clause x ≡ true → {b : List Numbered} → SatisfiesAll b x → SatisfiesAll (d ∷ b) x
        sooner e s c (Memᴰ.head p) = satisfies_sound c.clause x
            (ap (λ (c : Numbered). satisfies c.clause x) p ∙ e)
        sooner e s c (Memᴰ.tail m) = s c m
    by false e h ih =
        let same : d ≡ c = some-injective d c h in
        record {
          before = [];
          after = ds;
          place = ap (λ c. c ∷ ds) same;
          falsified = falsifies c.clause x (ap (λ (c : Numbered). satisfies c.clause x) (sym same) ∙ e);
          earlier = λ c m. absurd (Memᴰ.not-nil m);
        }

-- ---- S5: "So a rule without names is met by none, one that lists a name both ways by all, and a repeated entry counts
-- once."

pub no_names : (x : ℕ) → Satisfies (record { positive = 0; negative = 0 }) x → ⊥
no_names x (by_yes i p q) = true≢false (sym p ∙ bit_of_zero i)
no_names x (by_no i p q) = true≢false (sym p ∙ bit_of_zero i)

pub both_ways : (c : Clause) (i : ℕ) → bit c.positive i ≡ true → bit c.negative i ≡ true → (x : ℕ) → Satisfies c x
both_ways c i p q x = ⊎_elim (by_yes i p) (by_no i q) (true-or-false (bit x i))
