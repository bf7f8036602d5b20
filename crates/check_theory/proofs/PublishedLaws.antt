-- Laws of the published definitions: the flips of a falsified clause's variables are exactly its point's neighbourhood.
-- Assumes nothing.
use Rattle.std.specs.Prelude.{Bool, ◌||◌, ◌⊎◌, ◌≡◌, refl, eqb}
use Rattle.std.proofs.Math.Bool.{true, false, xor}
use Rattle.std.proofs.Common.{true≢false, ap₂, ◌∙◌, arith, eq-eqb}
use Rattle.std.proofs.Math.Logic.{⊎_elim}
use Rattle.std.proofs.Math.Path.{sym, ap}
use Prim.Native.Nat.{ℕ, ◌<◌, ◌^◌, zero-le}
use Rattle.std.proofs.Math.Decide.{ℕ_discrete, dec_lt}
use Rattle.std.proofs.Math.Nat.{zero-add}
use Rattle.math.specs.Laws.BitLaws.{bit-or, bit_above, bit-flip, bits_ext_below, flip-lt}
use Rattle.math.specs.Bits.{bit, flip}
use Rattle.math.specs.Laws.ListLaws.{true-or-false, not-true-false, or_split, or_left, or_right, select_in, select_out}
use Rattle.math.specs.Laws.ListLaws.{range_in, range_out, count_ext}
use Rattle.math.specs.Lists.{◌∈◌, below}
use Rattle.math.specs.Laws.PartLaws.{count-one_same, count_eqb_range}
use Rattle.math.specs.Laws.SetLaws.{bit_other}
use Rattle.points.specs.Points.{Clause, Satisfies, by_yes, by_no, listed, variables, distance}
use Rattle.check_theory.specs.Published.{Nbhd}

-- ---- two values that differ or not

xor_again : (b e : Bool) → xor b (xor b e) ≡ e
unfolding xor
xor_again true true = refl
xor_again true false = refl
xor_again false true = refl
xor_again false false = refl

differ : (a b : Bool) → xor a b ≡ true → b ≡ xor a true
unfolding xor
differ true true h = sym h
differ true false h = refl
differ false true h = refl
differ false false h = h

same : (a b : Bool) → xor a b ≡ false → b ≡ a
unfolding xor
same true true h = refl
same true false h = absurd (true≢false h)
same false true h = absurd (true≢false h)
same false false h = refl

-- ---- a clause's variables

variable_out : (n : ℕ) (c : Clause) (v : ℕ) → v ∈ variables n c
    → (v < n) × ((bit c.positive v ≡ true) ⊎ (bit c.negative v ≡ true))
unfolding variables
variable_out n c v m =
    let w = select_out (bit (listed c)) (below n) m in
    let r = range_out 0 n v w.0 in (
      omega arith,
      or_split (bit c.positive v) (bit c.negative v)
          (sym (bit-or c.positive c.negative v) ∙ w.1),
    )

variable_in : (n : ℕ) (c : Clause) (v : ℕ) → v < n → bit c.positive v || bit c.negative v ≡ true
    → v ∈ variables n c
unfolding variables
variable_in n c v lt h = select_in (bit (listed c)) (range_in 0 n v zero-le (omega arith))
    (bit-or c.positive c.negative v ∙ h)

-- ---- 002, definition 3, for a point that falsifies a clause

module _ (n p : ℕ) (c : Clause) (within : p < 2 ^ n) (fails : Satisfies c p → ⊥) where
  -- a variable listed one way has the other value
  not-positive : (v : ℕ) → bit c.positive v ≡ true → bit p v ≡ false
  not-positive v h = not-true-false (bit p v) (λ t. fails (by_yes v h t))

  not_negative : (v : ℕ) → bit c.negative v ≡ true → bit p v ≡ true
  not_negative v h = ⊎_elim (λ t. t) (λ f. absurd (fails (by_no v h f))) (true-or-false (bit p v))

  flipped : (v : ℕ) (b : Bool) → bit p v ≡ b → bit (flip p v) v ≡ xor b true
  flipped v b e = bit-flip p v v ∙ ap₂ xor e (eq-eqb v v refl)

  pub flips_neighbours : (v : ℕ) → v ∈ variables n c → Nbhd n p c (flip p v)
  unfolding distance xor
  flips_neighbours v m =
      let w = variable_out n c v m in
      record {
        point = flip-lt n p v within w.0;
        near =
            count_ext (λ i. xor (bit p i) (bit (flip p v) i)) (eqb v) (below n)
            (λ i _. ap (xor (bit p i)) (bit-flip p v i) ∙ xor_again (bit p i) (eqb v i))
            ∙ count_eqb_range v 0 n zero-le (rw zero-add w.0);
        satisfied =
            ⊎_elim (λ h. by_yes v h (flipped v false (not-positive v h)))
            (λ h. by_no v h (flipped v true (not_negative v h))) w.1;
      }

  module _ (q : ℕ) (near : Nbhd n p c q) where
    -- where the two points differ, at a variable that the clause lists, the one is the flip of the other
    flip_of : (v : ℕ) → v < n → xor (bit p v) (bit q v) ≡ true → q ≡ flip p v
    unfolding distance
    flip_of v lt d = bits_ext_below n q (flip p v) near.point (flip-lt n p v within lt)
        (λ j below. at j below (ℕ_discrete j v))
      where
        at : (j : ℕ) → j < n → Dec (j ≡ v) → bit q j ≡ bit (flip p v) j
        at j low (yes e) = ap (bit q) e ∙ differ (bit p v) (bit q v) d ∙ sym (flipped v (bit p v) refl)
            ∙ ap (bit (flip p v)) (sym e)
        at j low (no ne) =
            same (bit p j) (bit q j)
            (not-true-false (xor (bit p j) (bit q j))
            (λ t. ne (count-one_same (λ i. xor (bit p i) (bit q i)) near.near
            (range_in 0 n j zero-le (rw zero-add low)) (range_in 0 n v zero-le (rw zero-add lt)) t d)))
            ∙ sym (bit_other p v j ne)

    inside : (x v : ℕ) → x < 2 ^ n → bit x v ≡ true → v < n
    inside x v h t = by (dec_lt v n)
      where
        by : Dec (v < n) → v < n
        by (yes lt) = lt
        by (no ge) = absurd (true≢false (sym t ∙ bit_above n x v h (omega arith)))

    pub neighbours_flips : (v : ℕ) × (v ∈ variables n c) × (q ≡ flip p v)
    unfolding xor
    neighbours_flips = by near.satisfied
      where
        by : Satisfies c q → (v : ℕ) × (v ∈ variables n c) × (q ≡ flip p v)
        by (by_yes v h t) =
            let lt = inside q v near.point t in (
              v,
              variable_in n c v lt (or_left (bit c.positive v) (bit c.negative v) h),
              flip_of v lt
                  (ap₂ xor (not-positive v h) t),
            )
        by (by_no v h f) =
            let lt = inside p v within (not_negative v h) in (
              v,
              variable_in n c v lt (or_right (bit c.positive v) (bit c.negative v) h),
              flip_of v lt
                  (ap₂ xor (not_negative v h) f),
            )
