-- Laws of putting a literal: its sign and its first digit are put in any case, and what follows stands on them where
-- there is none. Assumes nothing.
use Rattle.std.specs.Prelude.{Bool, true, false, cond, ◌&&◌, ◌||◌, ◌≡◌, refl, ℕ, zero, suc, ◌+◌, ◌/◌, ◌%◌, ◌≤◌, ◌<◌, leb, length, set}
use Rattle.std.proofs.Common.{true≢false, sym, ap, ap₂, ◌∙◌, subst, add-zero, add-one, arith, length-append, leb-true, leb-false}
use Rattle.std.proofs.lemmas.Bool.{false≢true}
use mathlib.Core.List.{List, [], ◌∷◌, ◌++◌, flat_map, append-nil, append_assoc}
use Rattle.std.specs.Int.{from_bool}
use Rattle.std.specs.Int.Bits.{bit_and}
use Rattle.std.proofs.lemmas.List.Edits.{sets}
use Rattle.math.specs.Bits.{bit}
use Rattle.math.specs.Laws.BitLaws.{bit-and}
use Rattle.points.specs.Points.{Clause}
use Rattle.dimacs_format.specs.Text.{Literal, pos, neg}
use Rattle.text_output.specs.Decimal.{numeral}
use Rattle.text_output.specs.Laws.DecimalLaws.{numeral_small, numeral_large, numeral-length}
use Rattle.text_output.specs.Laws.Putting.{Put, put_both, put_as}
use Rattle.dimacs_text.specs.SheetText.{spelling, literals_at}
use Rattle.dimacs_text.specs.Laws.TextParts.{literal_part, variable_part}

-- the literal of a variable by whether it is wanted 0
unfoldable pub signed : Bool → ℕ → Literal
signed true v = neg v
signed false v = pos v

-- ---- a test as a number

-- 1 where it passes
pub one_if : (passes : Bool) → from_bool passes ≡ cond passes 1 0
one_if true = refl
one_if false = refl

-- its digit
pub digit_if : (passes : Bool) → 48 + from_bool passes ≡ cond passes 49 48
digit_if true = refl
digit_if false = refl

-- ---- a byte that is kept or stood upon

-- a byte where it is wanted
abbrev pub byte_if : Bool → ℕ → List ℕ
byte_if keep b = cond keep (b ∷ []) []

set_twice : (l : List ℕ) (i a b : ℕ) → set (set l i a) i b ≡ set l i b
set_twice [] i a b = refl
set_twice (x ∷ xs) zero a b = refl
set_twice (x ∷ xs) (suc i) a b = ap (λ r. x ∷ r) (set_twice xs i a b)

-- a byte is put, and what comes next stands behind it where it is kept, and else in its place
pub put_kept : (keep : Bool) (t : List ℕ) {at b r r' : ℕ} {out out₁ out₂ : List ℕ} → 1 ≤ length t
    → Put at (b ∷ []) out r out₁ → Put (at + cond keep 1 0) t out₁ r' out₂ → Put at (byte_if keep b ++ t) out r' out₂
put_kept true t {at} {b} {r} {r'} {out} {out₁} {out₂} some p q =
    put_both p (subst (λ (k : ℕ). Put k t out₁ r' out₂) (sym p.behind) q)
put_kept false [] some p q = absurd (let z : ⊥ = omega arith in z)
put_kept false (x ∷ t) {at} {b} {r} {r'} {out} some p q =
    record {
      behind = q.behind ∙ ap (λ (k : ℕ). k + length (x ∷ t)) (add-zero at);
      stored =
          q.stored ∙ ap₂ (λ (l : List ℕ) (k : ℕ). sets l k (x ∷ t)) p.stored (add-zero at)
          ∙ ap (λ l. sets l (suc at) t) (set_twice out at b x);
    }

-- ---- the word of a literal

-- a number below 100: its tens where it has any, and its ones
pub two_digits : (x : ℕ) → x < 100 → numeral x ≡ byte_if (leb 10 x) (48 + x / 10) ++ (48 + x % 10) ∷ []
two_digits x lt = by (leb 10 x) refl
  where
    by : (b : Bool) → leb 10 x ≡ b → numeral x ≡ byte_if b (48 + x / 10) ++ (48 + x % 10) ∷ []
    by true e =
        let ge : 10 ≤ x = leb-true 10 x e in
        numeral_large x ge ∙ ap (λ l. l ++ (48 + x % 10) ∷ []) (numeral_small (x / 10) (omega arith))
    by false e =
        let below : x < 10 = leb-false 10 x e in
        numeral_small x below ∙ ap (λ (k : ℕ). (48 + k) ∷ []) (let z : x ≡ x % 10 = omega arith in z)

-- a minus where the literal is wanted 0, and its variable's digits
pub literal-word : (unwanted : Bool) (x : ℕ)
    → literal_part (signed unwanted x) ≡ byte_if unwanted 45 ++ (numeral x ++ 32 ∷ [])
unfolding literal_part signed spelling
literal-word true x = refl
literal-word false x = refl

-- the four bytes as they are put
pub literal_put : (unwanted two : Bool) (x : ℕ) → x < 100 → two ≡ leb 10 x
    → {at one next r₁ r₂ r₃ r₄ : ℕ} {out out₁ out₂ out₃ out₄ : List ℕ} → Put at (45 ∷ []) out r₁ out₁
    → one ≡ cond unwanted 1 0 → Put (at + one) ((48 + x / 10) ∷ []) out₁ r₂ out₂
    → next ≡ cond two 1 0 → Put (at + one + next) ((48 + x % 10) ∷ []) out₂ r₃ out₃ → Put r₃ (32 ∷ []) out₃ r₄ out₄
    → Put at (literal_part (signed unwanted x)) out r₄ out₄
literal_put unwanted two x lt e {at} {one} {next} {r₁} {r₂} {r₃} {r₄} {out} {out₁} {out₂} {out₃} {out₄} minus f tens g
    ones blank =
    put_as (sym (literal-word unwanted x)) (put_kept unwanted (numeral x ++ 32 ∷ []) some minus
    (subst (λ (k : ℕ). Put (at + k) (numeral x ++ 32 ∷ []) out₁ r₄ out₄) f (put_as digits
    (put_kept two back (omega arith) tens
    (subst (λ (k : ℕ). Put (at + one + k) back out₂ r₄ out₄) g (put_both ones blank))))))
  where
    back : List ℕ
    back = (48 + x % 10) ∷ 32 ∷ []

    digits : byte_if two (48 + x / 10) ++ back ≡ numeral x ++ 32 ∷ []
    digits =
        ap (λ b. byte_if b (48 + x / 10) ++ back) e
        ∙ sym (append_assoc (byte_if (leb 10 x) (48 + x / 10)) ((48 + x % 10) ∷ []) (32 ∷ []))
        ∙ ap (λ l. l ++ 32 ∷ []) (sym (two_digits x lt))

    some : 1 ≤ length (numeral x ++ 32 ∷ [])
    some = omega (arith, length-append (numeral x) (32 ∷ []))

-- a place goes on by one at most
pub one_most : (b : Bool) → cond {A = ℕ} b 1 0 ≤ 1
one_most true = omega arith
one_most false = omega arith

-- bytes for a literal at most: a minus, two digits and a blank
abbrev pub longest_literal : ℕ
longest_literal = 4

-- whichever sign it has
pub literal_most : (unwanted : Bool) (x : ℕ) → x < 100 → {at r : ℕ} {out out₁ : List ℕ}
    → Put at (literal_part (signed unwanted x)) out r out₁ → r ≤ at + longest_literal
literal_most unwanted x lt p =
    omega (
      arith,
      p.behind,
      ap length (literal-word unwanted x),
      length-append (byte_if unwanted 45) (numeral x ++ 32 ∷ []),
      length-append (numeral x) (32 ∷ []),
      numeral-length 1 x lt,
      minus_length unwanted,
    )
  where
    minus_length : (b : Bool) → length (byte_if b 45) ≤ 1
    minus_length true = omega arith
    minus_length false = omega arith

-- ---- the literals of a variable

-- whether two sets have a variable, by the set of what they have in common
pub common_bit : (c : Clause) (i both : ℕ) (test : Bool) → both ≡ bit_and c.positive c.negative → test ≡ bit both i
    → test ≡ bit c.positive i && bit c.negative i
common_bit c i both test e f = f ∙ ap (λ b. bit b i) e ∙ bit-and c.positive c.negative i

-- both ways: first wanted 1, then wanted 0
pub both_ways : (c : Clause) (i : ℕ) → bit c.positive i && bit c.negative i ≡ true
    → literal_part (signed false (i + 1)) ++ literal_part (signed true (i + 1)) ≡ variable_part c i
unfolding variable_part literals_at signed flat_map
both_ways c i e =
    ap (λ (v : ℕ). literal_part (pos v) ++ literal_part (neg v)) (add-one i)
    ∙ by (bit c.positive i) (bit c.negative i) e
  where
    by : (wanted unwanted : Bool) → wanted && unwanted ≡ true
        → literal_part (pos (suc i)) ++ literal_part (neg (suc i))
        ≡ flat_map literal_part (cond wanted (pos (suc i) ∷ []) [] ++ cond unwanted (neg (suc i) ∷ []) [])
    by true true e = ap (λ l. literal_part (pos (suc i)) ++ l) (sym (append-nil (literal_part (neg (suc i)))))
    by true false e = absurd (false≢true e)
    by false unwanted e = absurd (false≢true e)

-- one way
pub one_way : (c : Clause) (i : ℕ) → bit c.positive i && bit c.negative i ≡ false
    → bit c.positive i || bit c.negative i ≡ true
    → literal_part (signed (bit c.negative i) (i + 1)) ≡ variable_part c i
unfolding variable_part literals_at signed flat_map
one_way c i e f =
    ap (λ (v : ℕ). literal_part (signed (bit c.negative i) v)) (add-one i)
    ∙ by (bit c.positive i) (bit c.negative i) e f
  where
    by : (wanted unwanted : Bool) → wanted && unwanted ≡ false → wanted || unwanted ≡ true
        → literal_part (signed unwanted (suc i))
        ≡ flat_map literal_part (cond wanted (pos (suc i) ∷ []) [] ++ cond unwanted (neg (suc i) ∷ []) [])
    by true true e f = absurd (true≢false e)
    by true false e f = sym (append-nil (literal_part (pos (suc i))))
    by false true e f = sym (append-nil (literal_part (neg (suc i))))
    by false false e f = absurd (false≢true f)
