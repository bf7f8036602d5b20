-- Laws of decimal numbers as text: the digits one by one, how many there are at most, and what they are read as.
-- Assumes nothing.
use Rattle.std.specs.Prelude.{Bool, true, false, List, [], ◌∷◌, ◌++◌, ◌≡◌, refl, ℕ, zero, suc, ◌+◌, ◌-◌, ◌*◌, ◌/◌, ◌%◌, ◌^◌, ◌≤◌, ◌<◌, ltb, length}
use Rattle.std.proofs.Common.{sym, ap, ap₂, ◌∙◌, subst, mod-eq_of_lt, div-lt_iff_lt-mul, pow-suc, arith, length-append, ltb-true, ltb-false}
use Rattle.std.proofs.Math.Nat.{div-eq_of_lt}
use Rattle.dimacs_format.specs.Text.{decimal}
use Rattle.text_output.specs.Decimal.{digits, numeral, line_end, field, line}

-- 0 has no digits
digits-none : (f : ℕ) → digits f 0 ≡ []
unfolding digits
digits-none zero = refl
digits-none (suc f) = refl

-- the bound on the depth is no part of what the digits are
digits_same : (f g q : ℕ) → q ≤ f → q ≤ g → digits f q ≡ digits g q
unfolding digits
digits_same zero g zero p r = sym (digits-none g)
digits_same zero g (suc q) p r = absurd (omega arith)
digits_same (suc f) g zero p r = sym (digits-none g)
digits_same (suc f) zero (suc q) p r = absurd (omega arith)
digits_same (suc f) (suc g) (suc q) p r = ap (λ l. l ++ (48 + suc q % 10) ∷ [])
    (digits_same f g (suc q / 10) (omega arith) (omega arith))

-- a number below 10 is one digit
pub numeral_small : (x : ℕ) → x < 10 → numeral x ≡ (48 + x) ∷ []
unfolding numeral
numeral_small x lt = ap₂ (λ (q r : ℕ). digits x q ++ (48 + r) ∷ []) (div-eq_of_lt lt) (mod-eq_of_lt lt)
    ∙ ap (λ l. l ++ (48 + x) ∷ []) (digits-none x)

-- any other: those of its tenth, and the last digit
pub numeral_large : (x : ℕ) → 10 ≤ x → numeral x ≡ numeral (x / 10) ++ (48 + x % 10) ∷ []
unfolding digits numeral
numeral_large x ge = ap (λ l. l ++ (48 + x % 10) ∷ []) (by x (x / 10) (omega arith) (omega arith))
  where
    by : (f q : ℕ) → q ≤ f → 1 ≤ q → digits f q ≡ digits q (q / 10) ++ (48 + q % 10) ∷ []
    by f zero p r = absurd (omega arith)
    by zero (suc q) p r = absurd (omega arith)
    by (suc f) (suc q) p r = ap (λ l. l ++ (48 + suc q % 10) ∷ [])
        (digits_same f (suc q) (suc q / 10) (omega arith) (omega arith))

-- a number below 10 ^ k has at most k digits
pub numeral-length : (k x : ℕ) → x < 10 ^ suc k → length (numeral x) ≤ suc k
numeral-length zero x lt = subst (λ l. length l ≤ 1) (sym (numeral_small x lt)) (omega arith)
numeral-length (suc k) x lt = by (ltb x 10) refl (numeral-length k (x / 10))
  where
    by : (b : Bool) → ltb x 10 ≡ b → (x / 10 < 10 ^ suc k → length (numeral (x / 10)) ≤ suc k)
        → length (numeral x) ≤ suc (suc k)
    by true e below = subst (λ l. length l ≤ suc (suc k)) (sym (numeral_small x (ltb-true x 10 e))) (omega arith)
    by false e below =
        subst (λ l. length l ≤ suc (suc k)) (sym (numeral_large x (ltb-false x 10 e)))
        (omega (
          arith,
          length-append (numeral (x / 10)) ((48 + x % 10) ∷ []),
          below
              ((div-lt_iff_lt-mul (omega arith)).1 (subst (λ (m : ℕ). x < m) (pow-suc 10 (suc k)) lt)),
        ))

-- read back as the reader reads digits, they are the number
value_snoc : (v d : ℕ) (ds : List ℕ) → decimal v (ds ++ (48 + d) ∷ []) ≡ decimal v ds * 10 + d
unfolding decimal
value_snoc v d [] = omega arith
value_snoc v d (b ∷ ds) = value_snoc (v * 10 + (b - 48)) d ds

digits_value : (f q : ℕ) → q ≤ f → decimal 0 (digits f q) ≡ q
unfolding decimal digits
digits_value zero q le = omega arith
digits_value (suc f) zero le = refl
digits_value (suc f) (suc q) le =
    let front : decimal 0 (digits f (suc q / 10)) ≡ suc q / 10 = digits_value f (suc q / 10) (omega arith) in
    omega (arith, value_snoc 0 (suc q % 10) (digits f (suc q / 10)), front)

pub numeral-value : (x : ℕ) → decimal 0 (numeral x) ≡ x
unfolding numeral
numeral-value x = omega (arith, value_snoc 0 (x % 10) (digits x (x / 10)), digits_value x (x / 10) (omega arith))

-- how long a line is at most
pub line-length : (head between : List ℕ) (i j a b : ℕ) → a < 10 ^ suc i → b < 10 ^ suc j
    → length (line head a between b) ≤ length head + suc i + length between + suc j + 1
line-length head between i j a b p q =
    omega (
      arith,
      length-append (field head a ++ field between b) line_end,
      length-append (field head a) (field between b),
      length-append head (numeral a),
      length-append between (numeral b),
      numeral-length i a p,
      numeral-length j b q,
    )
