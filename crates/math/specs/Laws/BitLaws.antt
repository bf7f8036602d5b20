-- Laws of binary digits: of the machine's operations, of extensionality, of what a bound says. Assumes nothing.
use Rattle.std.specs.Prelude.{Bool, true, false, ◌&&◌, ◌||◌, ◌≡◌, refl, ℕ, zero, suc, ◌+◌, ◌*◌, ◌/◌, ◌%◌, ◌^◌, ◌≤◌, ◌<◌, min, max, eqb, ltb}
use Rattle.std.proofs.Math.Bool.{xor}
use Rattle.std.proofs.Common.{true≢false, sym, ap, ap₂, ◌∙◌, subst, zero-le, suc-le-suc, one-mul, div-lt_iff_lt-mul, le_of_eq, div-one, mod-lt, zero-lt-suc, lt_of_lt_of_le, le_of_suc-le-suc, not-suc-le-zero, arith, lit<, pow_pos, pow_mono, eq-eqb, eqb-true, lt-ltb, ltb-true}
use Rattle.std.proofs.lemmas.Bool.{false≢true}
use Rattle.std.proofs.Math.Nat.{pow-succ', div-div-eq-div-mul, zero-div, div-eq_of_lt, mul-div_cancel_left, mul-mod_right}
use Rattle.std.proofs.Math.Arith.{digits_div, digits_mod, bin_ind}
use Rattle.std.specs.Int.Bits.{bit_and, bit_or, bit_xor, and_step, or_step, xor_step, differ}
use Rattle.std.proofs.lemmas.Nat.{xor_lt, or_lt}
use Rattle.std.proofs.Math.Dec.{eqb-zero-suc, eqb-suc-zero, eqb-suc-suc}
use Rattle.std.proofs.Math.Pow.{pow-lt}
use Rattle.std.proofs.Math.Decide.{dec_lt}
use Rattle.math.specs.Bits.{bit, flip}
use Rattle.math.specs.Laws.ListLaws.{same_tests, and_join, and_split}

-- ---- a digit, by halving

pub bit-zero : (x : ℕ) → bit x 0 ≡ eqb (x % 2) 1
unfolding bit
bit-zero x = ap (λ (y : ℕ). eqb (y % 2) 1) (div-one x)

pub bit-suc : (x i : ℕ) → bit x (suc i) ≡ bit (x / 2) i
unfolding bit
bit-suc x i =
    ap (λ (y : ℕ). eqb (y % 2) 1) (ap (λ (d : ℕ). x / d) (pow-succ' 2 i) ∙ sym (div-div-eq-div-mul x 2 (2 ^ i)))

pub bit_of_zero : (i : ℕ) → bit 0 i ≡ false
unfolding bit
bit_of_zero i = ap (λ (y : ℕ). eqb (y % 2) 1) (zero-div (2 ^ i))

-- a digit is 0 or 1
pub digit_lt : (x : ℕ) → x % 2 < 2
digit_lt x = mod-lt x (zero-lt-suc 1)

-- ---- the digits of a machine operation: one law for the three

module _ (op g : ℕ → ℕ → ℕ) (h : Bool → Bool → Bool) (step : (a b : ℕ)
    → op a b ≡ op (a / 2) (b / 2) * 2 + g (a % 2) (b % 2))
    (digit : (u v : ℕ) → u < 2 → v < 2 → g u v < 2) (agrees : (u v : ℕ) → u < 2 → v < 2
    → eqb (g u v) 1 ≡ h (eqb u 1) (eqb v 1)) where
  bit_op : (i a b : ℕ) → bit (op a b) i ≡ h (bit a i) (bit b i)
  bit_op zero a b =
      bit-zero (op a b)
      ∙ ap (λ (y : ℕ). eqb y 1) (ap (λ (y : ℕ). y % 2) (step a b)
      ∙ digits_mod (op (a / 2) (b / 2)) (digit (a % 2) (b % 2) (digit_lt a) (digit_lt b)))
      ∙ agrees (a % 2) (b % 2) (digit_lt a) (digit_lt b) ∙ ap₂ h (sym (bit-zero a)) (sym (bit-zero b))
  bit_op (suc i) a b =
      bit-suc (op a b) i
      ∙ ap (λ (y : ℕ). bit y i) (ap (λ (y : ℕ). y / 2) (step a b)
      ∙ digits_div (op (a / 2) (b / 2)) (digit (a % 2) (b % 2) (digit_lt a) (digit_lt b)))
      ∙ bit_op i (a / 2) (b / 2) ∙ ap₂ h (sym (bit-suc a i)) (sym (bit-suc b i))

-- a fact of two digits, by its four cases
by_digits : (P : ℕ → ℕ → Type 0) → P 0 0 → P 0 1 → P 1 0 → P 1 1 → (u v : ℕ) → u < 2 → v < 2 → P u v
by_digits P a b c d zero zero hu hv = a
by_digits P a b c d zero (suc zero) hu hv = b
by_digits P a b c d zero (suc (suc v)) hu hv = absurd (not-suc-le-zero (le_of_suc-le-suc (le_of_suc-le-suc hv)))
by_digits P a b c d (suc zero) zero hu hv = c
by_digits P a b c d (suc zero) (suc zero) hu hv = d
by_digits P a b c d (suc zero) (suc (suc v)) hu hv = absurd (not-suc-le-zero (le_of_suc-le-suc (le_of_suc-le-suc hv)))
by_digits P a b c d (suc (suc u)) v hu hv = absurd (not-suc-le-zero (le_of_suc-le-suc (le_of_suc-le-suc hu)))

pub bit-and : (a b i : ℕ) → bit (bit_and a b) i ≡ bit a i && bit b i
bit-and a b i =
    bit_op bit_and min (λ x y. x && y) and_step (by_digits (λ u v. min u v < 2) (lit< tt) (lit< tt) (lit< tt) (lit< tt))
    (by_digits (λ u v. eqb (min u v) 1 ≡ eqb u 1 && eqb v 1) refl refl refl refl) i a b

pub bit-or : (a b i : ℕ) → bit (bit_or a b) i ≡ bit a i || bit b i
bit-or a b i =
    bit_op bit_or max (λ x y. x || y) or_step (by_digits (λ u v. max u v < 2) (lit< tt) (lit< tt) (lit< tt) (lit< tt))
    (by_digits (λ u v. eqb (max u v) 1 ≡ eqb u 1 || eqb v 1) refl refl refl refl) i a b

pub bit-xor : (a b i : ℕ) → bit (bit_xor a b) i ≡ xor (bit a i) (bit b i)
unfolding xor
bit-xor a b i =
    bit_op bit_xor differ xor xor_step (by_digits (λ u v. differ u v < 2) (lit< tt) (lit< tt) (lit< tt) (lit< tt))
    (by_digits (λ u v. eqb (differ u v) 1 ≡ xor (eqb u 1) (eqb v 1)) refl refl refl refl) i a b

-- ---- numbers with the same digits are equal

same_digit : (u v : ℕ) → u < 2 → v < 2 → eqb u 1 ≡ eqb v 1 → u ≡ v
same_digit =
    by_digits (λ u v. eqb u 1 ≡ eqb v 1 → u ≡ v) (λ _. refl) (λ e. absurd (false≢true e)) (λ e. absurd (true≢false e))
    (λ _. refl)

-- numbers whose lowest digits and whose halves are equal are equal
same_halves : (a b : ℕ) → bit a 0 ≡ bit b 0 → a / 2 ≡ b / 2 → a ≡ b
same_halves a b low high =
    let odd : a % 2 ≡ b % 2 = same_digit (a % 2) (b % 2) (digit_lt a) (digit_lt b) (sym (bit-zero a) ∙ low ∙ bit-zero b)
    in
    omega arith

pub no_bits : (x : ℕ) → ((i : ℕ) → bit x i ≡ false) → x ≡ 0
no_bits =
    bin_ind (λ x. ((i : ℕ) → bit x i ≡ false) → x ≡ 0) (λ _. refl)
    (λ x ih h. same_halves x 0 (h 0 ∙ sym (bit_of_zero 0)) (ih (λ i. sym (bit-suc x i) ∙ h (suc i))))

pub bits_ext : (a b : ℕ) → ((i : ℕ) → bit a i ≡ bit b i) → a ≡ b
bits_ext =
    bin_ind (λ a. (b : ℕ) → ((i : ℕ) → bit a i ≡ bit b i) → a ≡ b)
    (λ b h. sym (no_bits b (λ i. sym (h i) ∙ bit_of_zero i)))
    (λ a ih b h. same_halves a b (h 0) (ih (b / 2) (λ i. sym (bit-suc a i) ∙ h (suc i) ∙ bit-suc b i)))

-- ---- a bound 2 ^ n says that the digits from n on are 0

pub bit_above : (n x i : ℕ) → x < 2 ^ n → n ≤ i → bit x i ≡ false
unfolding bit
bit_above n x i h le = ap (λ (y : ℕ). eqb (y % 2) 1) (div-eq_of_lt (lt_of_lt_of_le h (pow_mono le)))

pub lt_of_bits : (n x : ℕ) → ((i : ℕ) → n ≤ i → bit x i ≡ false) → x < 2 ^ n
lt_of_bits zero x h = let z : x ≡ 0 = no_bits x (λ i. h i zero-le) in omega arith
lt_of_bits (suc n) x h =
    let half : x / 2 < 2 ^ n = lt_of_bits n (x / 2) (λ i le. sym (bit-suc x i) ∙ h (suc i) (suc-le-suc le)) in
    let p : 2 ^ suc n ≡ 2 * 2 ^ n = pow-succ' 2 n in
    omega arith

-- a set that is made of two has no bit at n or above where neither has
pub below_or : (n a b : ℕ) → ltb (bit_or a b) (2 ^ n) ≡ ltb a (2 ^ n) && ltb b (2 ^ n)
below_or n a b =
    same_tests (ltb (bit_or a b) (2 ^ n)) (ltb a (2 ^ n) && ltb b (2 ^ n))
    (λ h. let under = ltb-true (bit_or a b) (2 ^ n) h in
    and_join (ltb a (2 ^ n)) (ltb b (2 ^ n))
    (lt-ltb a (2 ^ n) (lt_of_bits n a (λ i ge. (neither (bit a i) (bit b i) (off under i ge)).0)))
    (lt-ltb b (2 ^ n) (lt_of_bits n b (λ i ge. (neither (bit a i) (bit b i) (off under i ge)).1))))
    (λ h. let both = and_split (ltb a (2 ^ n)) (ltb b (2 ^ n)) h in
    lt-ltb (bit_or a b) (2 ^ n) (or_lt n a b (ltb-true a (2 ^ n) both.0) (ltb-true b (2 ^ n) both.1)))
  where
    off : bit_or a b < 2 ^ n → (i : ℕ) → n ≤ i → bit a i || bit b i ≡ false
    off under i ge = sym (bit-or a b i) ∙ bit_above n (bit_or a b) i under ge

    neither : (x y : Bool) → x || y ≡ false → (x ≡ false) × (y ≡ false)
    neither true y e = absurd (true≢false e)
    neither false y e = (refl, e)

-- a shift by n leaves nothing exactly of the numbers below 2 ^ n
pub shifted_out : (x n : ℕ) → eqb (x / 2 ^ n) 0 ≡ ltb x (2 ^ n)
shifted_out x n =
    same_tests (eqb (x / 2 ^ n) 0) (ltb x (2 ^ n))
    (λ e. lt-ltb x (2 ^ n) (subst (λ (d : ℕ). x < d) (one-mul (2 ^ n))
    ((div-lt_iff_lt-mul (pow_pos n)).0 (le_of_eq (ap suc (eqb-true (x / 2 ^ n) 0 e))))))
    (λ e. eq-eqb (x / 2 ^ n) 0 (div-eq_of_lt (ltb-true x (2 ^ n) e)))

-- two numbers below 2 ^ n with the same digits below n are equal
pub bits_ext_below : (n a b : ℕ) → a < 2 ^ n → b < 2 ^ n → ((i : ℕ) → i < n → bit a i ≡ bit b i) → a ≡ b
bits_ext_below n a b ha hb h = bits_ext a b (λ i. at i (dec_lt i n))
  where
    at : (i : ℕ) → Dec (i < n) → bit a i ≡ bit b i
    at i (yes lt) = h i lt
    at i (no ge) = let le : n ≤ i = omega arith in bit_above n a i ha le ∙ sym (bit_above n b i hb le)

-- ---- one digit alone, and a digit changed

pub bit-pow : (k i : ℕ) → bit (2 ^ k) i ≡ eqb k i
bit-pow zero zero = bit-zero 1
bit-pow zero (suc i) = bit-suc 1 i ∙ bit_of_zero i ∙ sym (eqb-zero-suc i)
bit-pow (suc k) zero =
    bit-zero (2 ^ suc k) ∙ ap (λ (y : ℕ). eqb (y % 2) 1) (pow-succ' 2 k)
    ∙ ap (λ (y : ℕ). eqb y 1) (mul-mod_right 2 (2 ^ k)) ∙ sym (eqb-suc-zero k)
bit-pow (suc k) (suc i) =
    bit-suc (2 ^ suc k) i ∙ ap (λ (y : ℕ). bit (y / 2) i) (pow-succ' 2 k)
    ∙ ap (λ (y : ℕ). bit y i) (mul-div_cancel_left (2 ^ k) (zero-lt-suc 1))
    ∙ bit-pow k i ∙ sym (eqb-suc-suc k i)

pub bit-flip : (x v i : ℕ) → bit (flip x v) i ≡ xor (bit x i) (eqb v i)
unfolding flip
bit-flip x v i = bit-xor x (2 ^ v) i ∙ ap (xor (bit x i)) (bit-pow v i)

pub flip-lt : (n x v : ℕ) → x < 2 ^ n → v < n → flip x v < 2 ^ n
unfolding flip
flip-lt n x v hx hv = xor_lt n x (2 ^ v) hx (pow-lt hv)

-- ---- a digit that is there

-- a number that is not 0 has a digit that is 1
pub some-bit : (s : ℕ) → (s ≡ 0 → ⊥) → (i : ℕ) × (bit s i ≡ true)
some-bit = bin_ind (λ s. (s ≡ 0 → ⊥) → (i : ℕ) × (bit s i ≡ true)) (λ ne. absurd (ne refl)) step
  where
    step : (s : ℕ) → ((s / 2 ≡ 0 → ⊥) → (i : ℕ) × (bit (s / 2) i ≡ true)) → (s ≡ 0 → ⊥) → (i : ℕ) × (bit s i ≡ true)
    step s ih ne = by (s % 2) refl (digit_lt s)
      where
        by : (u : ℕ) → s % 2 ≡ u → u < 2 → (i : ℕ) × (bit s i ≡ true)
        by zero e lt = let w = ih (λ z. ne (let q : s ≡ 0 = omega arith in q)) in (suc w.0, bit-suc s w.0 ∙ w.1)
        by (suc zero) e lt = (0, bit-zero s ∙ ap (λ u. eqb u 1) e)
        by (suc (suc u)) e lt = absurd (not-suc-le-zero (le_of_suc-le-suc (le_of_suc-le-suc lt)))

-- numbers that differ, differ in a digit
pub differing_bit : (a b : ℕ) → (a ≡ b → ⊥) → (i : ℕ) × (xor (bit a i) (bit b i) ≡ true)
unfolding xor
differing_bit a b ne =
    let w = some-bit (bit_xor a b) (λ z. ne (bits_ext a b
    (λ i. xor-none (bit a i) (bit b i) (sym (bit-xor a b i) ∙ ap (λ x. bit x i) z ∙ bit_of_zero i)))) in
    (w.0, sym (bit-xor a b w.0) ∙ w.1)
  where
    xor-none : (p q : Bool) → xor p q ≡ false → p ≡ q
    xor-none true true e = refl
    xor-none true false e = absurd (true≢false e)
    xor-none false true e = absurd (true≢false e)
    xor-none false false e = refl
