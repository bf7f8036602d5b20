-- How long the lines of a written text are at most. Assumes nothing.
use Rattle.std.specs.Prelude.{Bool, true, false, cond, ◌≡◌, refl, ℕ, suc, ◌+◌, ◌*◌, ◌≤◌, ◌<◌, length}
use mathlib.Core.List.{List, [], ◌∷◌, ◌++◌, map, flat_map}
use Rattle.std.proofs.Common.{ap, le_trans, arith, length-append}
use Rattle.std.proofs.lemmas.List.{length-map}
use Rattle.math.specs.Bits.{bit}
use Rattle.math.specs.Lists.{◌∈◌, below}
use Rattle.math.specs.Laws.ListLaws.{length-range}
use Rattle.math.specs.Laws.SplitLaws.{length_flat_map_le}
use Rattle.points.specs.Points.{Clause}
use Rattle.permutation_theory.specs.Permutations.{Permutation, IsPermutation}
use Rattle.permutation_theory.specs.Laws.PermutationLaws.{permutation_within}
use Rattle.formula.specs.Limits.{max_variables, max_clauses, max_permutations}
use Rattle.dimacs_format.specs.Text.{ascii, target_head, pos, neg}
use Rattle.text_output.specs.Decimal.{numeral, line_end, line}
use Rattle.text_output.specs.Laws.DecimalLaws.{numeral-length, line-length}
use Rattle.dimacs_text.specs.SheetText.{spelling, literals_at, target_line}
use Rattle.dimacs_text.specs.Laws.TextParts.{literal_part, variable_part, image_part, permutation_parts}
use Rattle.dimacs_text.specs.Laws.TextParts.{permutation_part}

-- ---- a clause

-- bytes for a variable that a clause lists both ways, at most: two digits each, a minus, two blanks
abbrev pub longest_variable : ℕ
longest_variable = 7

-- the line of a clause, with its end
abbrev pub longest_clause : ℕ
longest_clause = max_variables * longest_variable + 2

-- the part of a variable, whichever way it is listed
pub variable-length : (c : Clause) (i : ℕ) → i < max_variables → length (variable_part c i) ≤ longest_variable
unfolding variable_part literals_at literal_part spelling flat_map
variable-length c i lt = by (bit c.positive i) (bit c.negative i)
  where
    short : length (numeral (suc i)) ≤ 2
    short = numeral-length 1 (suc i) (omega arith)

    by : (wanted unwanted : Bool)
        → length (flat_map literal_part (cond wanted (pos (suc i) ∷ []) [] ++ cond unwanted (neg (suc i) ∷ []) []))
        ≤ longest_variable
    by true true = omega (
      arith,
      short,
      length-append (numeral (suc i) ++ 32 ∷ []) ((45 ∷ numeral (suc i) ++ 32 ∷ []) ++ []),
      length-append (45 ∷ numeral (suc i) ++ 32 ∷ []) [],
      length-append (numeral (suc i)) (32 ∷ []),
    )
    by true false = omega (
      arith,
      short,
      length-append (numeral (suc i) ++ 32 ∷ []) [],
      length-append (numeral (suc i)) (32 ∷ []),
    )
    by false true = omega (
      arith,
      short,
      length-append (45 ∷ numeral (suc i) ++ 32 ∷ []) [],
      length-append (numeral (suc i)) (32 ∷ []),
    )
    by false false = omega arith

-- ---- the other lines

pub problem-length : (n m : ℕ) → n ≤ max_variables → m ≤ max_clauses
    → length (line (ascii "p cnf ") n (ascii " ") m) ≤ 14
problem-length n m few less = line-length (ascii "p cnf ") (ascii " ") 1 3 n m (omega arith) (omega arith)

pub target_length : (n x : ℕ) → length (target_line n x ++ line_end) ≡ n + 8
unfolding target_line
target_length n x =
    let digit : ℕ → ℕ = λ i. cond (bit x i) 49 48 in
    omega (
      arith,
      length-append (target_head ++ map digit (below n)) line_end,
      length-append target_head (map digit (below n)),
      length-map (below n) digit,
      length-range 0 n,
    )

pub permutation_length : (n : ℕ) (e : Permutation) → 1 ≤ n → n ≤ max_variables → IsPermutation n e
    → length (permutation_part e) ≤ n * 3 + 7
permutation_length n e low few p = by e.images p.size (λ v m. (permutation_within n e p v m).1)
  where
    by : (vs : List ℕ) → length vs ≡ n → ((v : ℕ) → v ∈ vs → v ≤ n)
        → length (permutation_part (record { images = vs })) ≤ n * 3 + 7
    by [] size within = absurd (let z : ⊥ = omega arith in z)
    by (v ∷ vs) size within =
        let head : List ℕ = ascii "c exch" in
        let parts : List ℕ = flat_map image_part (v ∷ vs) in
        omega (
          arith,
          ap length (permutation_parts v vs),
          length-append (head ++ parts) line_end,
          length-append head parts,
          length_flat_map_le image_part 3 (v ∷ vs) (λ u m. let le = within u m in omega (
            arith,
            numeral-length 1 u (omega arith),
            length-append (ascii " ") (numeral u),
          )),
          ap (λ (k : ℕ). k * 3) size,
        )

pub permutations-length : (n : ℕ) (es : List Permutation) → 1 ≤ n → n ≤ max_variables
    → ((e : Permutation) → e ∈ es → IsPermutation n e)
    → length (flat_map permutation_part es) ≤ length es * (max_variables * 3 + 7)
permutations-length n es low few h = length_flat_map_le permutation_part (max_variables * 3 + 7) es (λ e m. le_trans
    (permutation_length n e low few (h e m)) (omega arith))

-- ---- the whole text

-- the lines one by one, as long as they can be
abbrev pub longest_sheet : ℕ
longest_sheet = 14 + (max_variables + 8) + max_permutations * (max_variables * 3 + 7) + max_clauses * longest_clause

-- the figure that the header and the Rust crate tell their callers
pub longest_figure : longest_sheet ≡ 1846470
longest_figure = refl
