-- Laws of the printed text: its names one by one, and how long it is at most. Assumes nothing.
use Rattle.std.specs.Prelude.{Bool, true, false, List, ◌++◌, ◌≡◌, ℕ, zero, suc, ◌+◌, ◌*◌, ◌^◌, ◌≤◌, ◌<◌, length, take, drop}
use Rattle.std.proofs.Common.{ap, ap₂, ◌∙◌, add-one, arith, length-append}
use Rattle.std.proofs.Math.Seq.{take-append_seam}
use Rattle.formula.specs.Limits.{max_variables}
use Rattle.math.specs.Bits.{bit}
use Rattle.math.specs.Lists.{over}
use Rattle.text_output.specs.Decimal.{numeral, line_end, field, line}
use Rattle.text_output.specs.Laws.DecimalLaws.{numeral-length, line-length}
use Rattle.program_text.specs.Report.{sign, literal, literals, satisfiable_head, values_end, changes_head}
use Rattle.program_text.specs.Report.{slots_between, unsatisfiable_head, space, satisfiable_text, unsatisfiable_text}
use Rattle.program_text.specs.Report.{longest_literal, longest_text}
use Rattle.program_text.specs.Laws.Putting.{Printed}

-- what was put lies within the output
pub put_within : (text out₀ : List ℕ) (r : ℕ) (out₁ : List ℕ) → Printed text out₀ r out₁ → r ≤ length out₁
unfolding over
put_within text out₀ r out₁ p = omega (
  arith,
  p.counted,
  ap length p.output,
  length-append text
      (drop (length text) out₀),
)

-- and stands at its front
pub put_stands : (text out₀ : List ℕ) (r : ℕ) (out₁ : List ℕ) → Printed text out₀ r out₁ → take r out₁ ≡ text
unfolding over
put_stands text out₀ r out₁ p = ap₂ (λ (k : ℕ) (l : List ℕ). take k l) p.counted p.output
    ∙ take-append_seam text (drop (length text) out₀)

-- ---- names

-- one name more
pub literals_next : (x i : ℕ) → literals x (i + 1) ≡ literals x i ++ literal x i
unfolding literals
literals_next x i = ap (literals x) (add-one i)

sign-length : (b : Bool) → length (sign b) ≤ 2
unfolding sign
sign-length true = omega arith
sign-length false = omega arith

-- each literal takes no more than its bound
pub literals-length : (x n : ℕ) → n ≤ max_variables → length (literals x n) ≤ longest_literal * n
unfolding literals
literals-length x zero le = omega arith
literals-length x (suc n) le =
    omega (
      arith,
      literals-length x n (omega arith),
      length-append (literals x n) (literal x n),
      length-append (sign (bit x n)) (numeral (n + 1)),
      sign-length (bit x n),
      numeral-length 1 (n + 1) (omega arith),
    )

-- ---- no text is longer than the bound

-- 15 in front of the names, four a name, 3 behind them, 38 in the last line
pub satisfiable-length : (n x d k : ℕ) → n ≤ max_variables → d < 10 ^ 10 → k < 10 ^ 10 → length (satisfiable_text n x d k)
    ≤ longest_text
unfolding satisfiable_text
satisfiable-length n x d k few p q =
    omega (
      arith,
      length-append (satisfiable_head ++ literals x n ++ values_end) (line changes_head d slots_between k),
      length-append (satisfiable_head ++ literals x n) values_end,
      length-append satisfiable_head (literals x n),
      literals-length x n few,
      line-length changes_head slots_between 9 9 d k p q,
    )

pub unsatisfiable_length : (k : ℕ) → k < 10 ^ 10 → length (unsatisfiable_text k) ≤ longest_text
unfolding unsatisfiable_text
unsatisfiable_length k p =
    omega (
      arith,
      length-append (field unsatisfiable_head k) line_end,
      length-append unsatisfiable_head (numeral k),
      numeral-length 9 k p,
    )

-- a bound for the head of a line with two numbers, in bytes
abbrev pub longest_head : ℕ
longest_head = 100

-- a line with two numbers and a short head
pub line_short : (head : List ℕ) (a b : ℕ) → length head ≤ longest_head → a < 10 ^ 10 → b < 10 ^ 20
    → length (line head a space b) ≤ longest_text
line_short head a b short p q = omega (arith, line-length head space 9 19 a b p q)
