-- The lines of a written text as they are put, part by part: a word with the byte 32 behind it, or before it. Assumes
-- nothing.
use Rattle.std.specs.Prelude.{cond, ◌≡◌, ℕ, length}
use mathlib.Core.List.{List, [], ◌∷◌, ◌++◌, map, flat_map, append_assoc}
use Rattle.std.proofs.Common.{sym, ap, ap₂, ◌∙◌}
use Rattle.math.specs.Bits.{bit}
use Rattle.math.specs.Lists.{below}
use Rattle.math.specs.Laws.SplitLaws.{flat_map_append, flat_map_single, flat_map_map}
use Rattle.points.specs.Points.{Clause}
use Rattle.permutation_theory.specs.Permutations.{Permutation}
use Rattle.dimacs_format.specs.Text.{ascii, target_head, Literal}
use Rattle.dimacs_format.specs.Input.{Input}
use Rattle.text_output.specs.Decimal.{numeral, line_end, field, line}
use Rattle.dimacs_text.specs.SheetText.{spaced, spelling, problem_line, target_line, permutation_line, literals_at}
use Rattle.dimacs_text.specs.SheetText.{clause_line, lined, sheet_lines, sheet_text}
use Rattle.dimacs_text.specs.Laws.WordLaws.{spaced-first}

-- ---- the parts

-- the word of a literal and the blank behind it
unfoldable pub literal_part : Literal → List ℕ
unfolding spelling
literal_part l = spelling l ++ 32 ∷ []

-- the literals of the variable of bit i
unfoldable pub variable_part : Clause → ℕ → List ℕ
unfolding literal_part literals_at flat_map
variable_part c i = flat_map literal_part (literals_at c i)

-- the last word of a clause's line and the line end
abbrev pub clause_end : List ℕ
clause_end = ascii "0\n"

-- a number with a blank before it
abbrev pub image_part : ℕ → List ℕ
image_part v = field (ascii " ") v

-- a permutation's line: its head without the blank at its end, and a part for each image
pub permutation_parts : (v : ℕ) (vs : List ℕ)
    → permutation_line (record { images = v ∷ vs }) ++ line_end ≡ ascii "c exch" ++ flat_map image_part (v ∷ vs) ++ line_end
unfolding permutation_line
permutation_parts v vs =
    ap (λ l. ascii "c exch" ++ l ++ line_end) (spaced-first (numeral v) (map numeral vs)
    ∙ flat_map_map (λ w. 32 ∷ w) numeral (v ∷ vs))

-- a digit 0 or 1
abbrev pub digit_part : ℕ → ℕ → List ℕ
digit_part x i = cond (bit x i) 49 48 ∷ []

-- the target's line: its head, and a digit for each variable
pub target_parts : (n x : ℕ)
    → target_line n x ++ line_end ≡ target_head ++ flat_map (digit_part x) (below n) ++ line_end
unfolding target_line
target_parts n x = ap (λ l. target_head ++ l ++ line_end) (sym (flat_map_single (λ i. cond (bit x i) 49 48) (below n)))

-- the problem line is a line with two numbers
pub problem-parts : (n m : ℕ) → problem_line n m ++ line_end ≡ line (ascii "p cnf ") n (ascii " ") m
unfolding problem_line spaced
problem-parts n m = ap (λ l. ascii "p cnf " ++ l) (append_assoc (numeral n) (32 ∷ numeral m) line_end)
    ∙ sym (append_assoc (ascii "p cnf " ++ numeral n) (32 ∷ numeral m) line_end)

-- ---- the whole text

-- the lines of permutations and of clauses, each with its end
abbrev pub permutation_part : Permutation → List ℕ
permutation_part e = permutation_line e ++ line_end

abbrev pub clause_part : ℕ → Clause → List ℕ
clause_part n c = clause_line n c ++ line_end

abbrev pub sheet_parts : ℕ → ℕ → ℕ → List Permutation → List Clause → List ℕ
sheet_parts n m x es cs =
    line (ascii "p cnf ") n (ascii " ") m ++ (target_line n x ++ line_end) ++ flat_map permutation_part es
    ++ flat_map (clause_part n) cs

pub sheet_parts_lem : (d : Input)
    → sheet_text d ≡ sheet_parts d.variables (length d.clauses) d.target d.permutations d.clauses
unfolding sheet_text lined sheet_lines flat_map
sheet_parts_lem d =
    let n : ℕ = d.variables in
    let ended : List ℕ → List ℕ = λ l. l ++ line_end in
    let problem : List ℕ = line (ascii "p cnf ") n (ascii " ") (length d.clauses) in
    let target : List ℕ = target_line n d.target ++ line_end in
    let first : List ℕ = flat_map permutation_part d.permutations in
    let second : List ℕ = flat_map (clause_part n) d.clauses in
    ap₂ (λ (p b : List ℕ). p ++ (target ++ b)) (problem-parts n (length d.clauses))
    (flat_map_append ended (map permutation_line d.permutations) (map (clause_line n) d.clauses)
    ∙ ap₂ (λ (a b : List ℕ). a ++ b) (flat_map_map ended permutation_line d.permutations)
    (flat_map_map ended (clause_line n) d.clauses))
    ∙ sym (append_assoc problem target (first ++ second)) ∙ sym (append_assoc (problem ++ target) first second)
