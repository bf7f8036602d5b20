-- Laws of a number as a set of numbers: the count of ones is its size, the trailing zeros are its lowest member, and
-- its members come one by one, lowest first. Assumes nothing.
use Rattle.std.specs.Prelude.{Bool, true, false, cond, List, [], ◌∷◌, ◌≡◌, refl, ℕ, zero, suc, ◌+◌, ◌*◌, ◌/◌, ◌%◌, ◌^◌, ◌≤◌, ◌<◌, eqb, length}
use Rattle.std.proofs.Math.Bool.{xor}
use Rattle.std.proofs.Common.{sym, ap, ap₂, ◌∙◌, zero-le, suc-le-suc, le_of_suc-le-suc, not-suc-le-zero, le_refl, le_trans, le_of_eq, arith, eq-eqb, ne_eqb}
use Rattle.std.proofs.Math.Decide.{ℕ_discrete}
use Rattle.std.proofs.Math.Nat.{pow-succ'}
use Rattle.std.proofs.Math.Arith.{lt-one}
use Rattle.std.specs.Int.Count.{ones, ones_step, count_trailing_zeros, under}
use Rattle.math.specs.Laws.BitLaws.{bit-zero, bit-suc, bit_of_zero, bit-flip, digit_lt}
use Rattle.math.specs.Bits.{bit, flip, members, Lowest}
use Rattle.math.specs.Laws.ListLaws.{count_ext, count-le, count_map, length-range, length-select, range-suc}
use Rattle.math.specs.Laws.ListLaws.{range_out, select_ext}
use Rattle.math.specs.Lists.{count, select, range, below}

-- ---- the count of ones

-- a test over the numbers below n + 1: at 0, and then one further on
pub count-below-suc : (t : ℕ → Bool) (n : ℕ)
    → count t (below (suc n)) ≡ cond (t 0) 1 0 + count (λ i. t (suc i)) (below n)
unfolding count range
count-below-suc t n = ap (λ l. cond (t 0) 1 0 + count t l) (range-suc 0 n)
    ∙ ap (λ k. cond (t 0) 1 0 + k) (count_map suc t (range 0 n))

digit-count : (u : ℕ) → u < 2 → u ≡ cond (eqb u 1) 1 0
digit-count zero h = refl
digit-count (suc zero) h = refl
digit-count (suc (suc u)) h = absurd (not-suc-le-zero (le_of_suc-le-suc (le_of_suc-le-suc h)))

pub ones_count : (n s : ℕ) → s < 2 ^ n → ones s ≡ count (bit s) (below n)
unfolding ones count range
ones_count zero s h = ap ones (lt-one h)
ones_count (suc n) s h =
    let p : 2 ^ suc n ≡ 2 * 2 ^ n = pow-succ' 2 n in
    let half : s / 2 < 2 ^ n = omega arith in
    ones_step s
    ∙ ap₂ ◌+◌ (digit-count (s % 2) (digit_lt s) ∙ ap (λ b. cond b 1 0) (sym (bit-zero s)))
    (ones_count n (s / 2) half ∙ count_ext (bit (s / 2)) (λ i. bit s (suc i)) (below n) (λ i m. sym (bit-suc s i)))
    ∙ sym (count-below-suc (bit s) n)

-- ---- the trailing zeros

-- every digit below the trailing zeros is 0
pub trailing_least : (k s j : ℕ) → j < count_trailing_zeros k s → bit s j ≡ false
unfolding count_trailing_zeros
trailing_least zero s j h = absurd (not-suc-le-zero h)
trailing_least (suc k) s j h = by (s % 2) refl (digit_lt s) j h (trailing_least k (s / 2))
  where
    by : (u : ℕ) → s % 2 ≡ u → u < 2 → (j : ℕ) → j < under u (count_trailing_zeros k (s / 2))
        → ((i : ℕ) → i < count_trailing_zeros k (s / 2) → bit (s / 2) i ≡ false) → bit s j ≡ false
    by zero e lt zero h ih = bit-zero s ∙ ap (λ u. eqb u 1) e
    by zero e lt (suc j) h ih = bit-suc s j ∙ ih j (le_of_suc-le-suc h)
    by (suc u) e lt j h ih = absurd (not-suc-le-zero h)

-- and the digit there is 1, unless all k digits are 0
pub trailing_member : (k s : ℕ) → count_trailing_zeros k s < k → bit s (count_trailing_zeros k s) ≡ true
unfolding count_trailing_zeros
trailing_member zero s h = absurd (not-suc-le-zero h)
trailing_member (suc k) s h = by (s % 2) refl (digit_lt s) h (trailing_member k (s / 2))
  where
    by : (u : ℕ) → s % 2 ≡ u → u < 2 → under u (count_trailing_zeros k (s / 2)) < suc k
        → (count_trailing_zeros k (s / 2) < k → bit (s / 2) (count_trailing_zeros k (s / 2)) ≡ true)
        → bit s (under u (count_trailing_zeros k (s / 2))) ≡ true
    by zero e lt h ih = bit-suc s (count_trailing_zeros k (s / 2)) ∙ ih (le_of_suc-le-suc h)
    by (suc zero) e lt h ih = bit-zero s ∙ ap (λ u. eqb u 1) e
    by (suc (suc u)) e lt h ih = absurd (not-suc-le-zero (le_of_suc-le-suc (le_of_suc-le-suc lt)))

-- a set below 2 ^ k that is not empty has fewer than k trailing zeros
pub trailing_lt : (k s : ℕ) → s < 2 ^ k → (s ≡ 0 → ⊥) → count_trailing_zeros k s < k
unfolding count_trailing_zeros
trailing_lt zero s h ne = absurd (ne (lt-one h))
trailing_lt (suc k) s h ne = by (s % 2) refl (λ half. trailing_lt k (s / 2) half)
  where
    by : (u : ℕ) → s % 2 ≡ u → (s / 2 < 2 ^ k → (s / 2 ≡ 0 → ⊥) → count_trailing_zeros k (s / 2) < k)
        → under u (count_trailing_zeros k (s / 2)) < suc k
    by zero e ih =
        let p : 2 ^ suc k ≡ 2 * 2 ^ k = pow-succ' 2 k in
        suc-le-suc (ih (omega arith) (λ z. ne (let w : s ≡ 0 = omega arith in w)))
    by (suc u) e ih = suc-le-suc zero-le

pub trailing_lowest : (k s : ℕ) → s < 2 ^ k → (s ≡ 0 → ⊥) → Lowest s (count_trailing_zeros k s)
trailing_lowest k s h ne = record { member = trailing_member k s (trailing_lt k s h ne); least = trailing_least k s }

-- ---- the members, lowest first

-- of two tests that differ at v alone, the one that passes there selects v and then what the other selects, if nothing
-- below v passes
select_lowest : (t u : ℕ → Bool) (v : ℕ) → t v ≡ true → u v ≡ false → ((j : ℕ) → (j ≡ v → ⊥) → u j ≡ t j)
    → (a k : ℕ) → ((j : ℕ) → a ≤ j → j < v → t j ≡ false) → a ≤ v → v < a + k
    → select t (range a k) ≡ v ∷ select u (range a k)
unfolding select range
select_lowest t u v at off same a zero low lo hi = absurd (z a v lo hi)
  where
    z : (a v : ℕ) → a ≤ v → v < a + 0 → ⊥
    z a v lo hi = omega arith
select_lowest t u v at off same a (suc k) low lo hi = by (ℕ_discrete a v) (select_lowest t u v at off same (suc a) k)
  where
    by : Dec (a ≡ v)
        → (((j : ℕ) → suc a ≤ j → j < v → t j ≡ false) → suc a ≤ v → v < suc a + k
        → select t (range (suc a) k) ≡ v ∷ select u (range (suc a) k))
        → cond (t a) (a ∷ select t (range (suc a) k)) (select t (range (suc a) k))
        ≡ v ∷ cond (u a) (a ∷ select u (range (suc a) k)) (select u (range (suc a) k))
    by (yes e) ih =
        rw (ap t e ∙ at, ap u e ∙ off)
        (ap₂ ◌∷◌ e (select_ext t u (range (suc a) k) (λ j m. sym
        (same j (λ p. let w = range_out (suc a) k j m in omega arith)))))
    by (no ne) ih =
        let f : t a ≡ false = low a (le_refl a) (omega arith) in
        rw (f, same a ne ∙ f) (ih (λ j ge lt. low j (omega arith) lt) (omega arith) (omega arith))

bit_off : (s v : ℕ) → bit s v ≡ true → bit (flip s v) v ≡ false
unfolding xor
bit_off s v m = bit-flip s v v ∙ ap₂ xor m (eq-eqb v v refl)

pub bit_other : (s v j : ℕ) → (j ≡ v → ⊥) → bit (flip s v) j ≡ bit s j
unfolding xor
bit_other s v j ne = bit-flip s v j ∙ ap (xor (bit s j)) (ne_eqb v j (λ e. ne (sym e))) ∙ xor-false (bit s j)
  where
    xor-false : (b : Bool) → xor b false ≡ b
    xor-false true = refl
    xor-false false = refl

-- the lowest member first, and then the members of the set without it
pub members_next : (n s v : ℕ) → Lowest s v → v < n → members n s ≡ v ∷ members n (flip s v)
unfolding members
members_next n s v l h =
    select_lowest (bit s) (bit (flip s v)) v l.member (bit_off s v l.member) (λ j ne. bit_other s v j ne) 0 n
    (λ j ge lt. l.least j lt) zero-le (omega arith)

-- at most n numbers are below n
pub members_few : (n s : ℕ) → length (members n s) ≤ n
unfolding members
members_few n s = le_trans (le_of_eq (length-select (bit s) (below n)))
    (le_trans (count-le (bit s) (below n)) (le_of_eq (length-range 0 n)))

-- the empty set has no members
pub members-none : (n : ℕ) → members n 0 ≡ []
unfolding members
members-none n = none (below n)
  where
    none : (l : List ℕ) → select (bit 0) l ≡ []
    none [] = refl
    none (i ∷ l) = rw (bit_of_zero i) (none l)
