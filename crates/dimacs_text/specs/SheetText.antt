-- Document 02, 2026-02: the text of a sheet, line by line. Definitions alone; RoundTrip has that it reads back.
-- Q02.1: "Reading had no inverse, so a sheet adjusted in the editor could not be sent out." Assumes nothing.
use Rattle.std.specs.Prelude.{cond, ℕ, suc, length}
use mathlib.Core.List.{List, [], ◌∷◌, ◌++◌, map, flat_map}
use Rattle.math.specs.Bits.{bit}
use Rattle.math.specs.Lists.{below}
use Rattle.points.specs.Points.{Clause, variables}
use Rattle.permutation_theory.specs.Permutations.{Permutation, permutations_in}
use Rattle.point_slices.specs.Slices.{ClauseSlices, beside, clauses_of}
use Rattle.formula.specs.declared.Formula.{Formula}
use Rattle.dimacs_format.specs.Text.{ascii, problem_word, format_word, target_head, permutation_head, Literal, pos, neg}
use Rattle.dimacs_format.specs.Input.{Input}
use Rattle.text_output.specs.Decimal.{numeral, line_end}

-- ---- words and lines

-- Q02.2: "one byte 32 between words"
unfoldable pub spaced : List (List ℕ) → List ℕ
spaced [] = []
spaced (w ∷ []) = w
spaced (w ∷ v ∷ ws) = w ++ 32 ∷ spaced (v ∷ ws)

-- Q02.2: "byte 10 after each line"
unfoldable pub lined : List (List ℕ) → List ℕ
unfolding flat_map
lined ls = flat_map (λ l. l ++ line_end) ls

-- Q02.2: "no leading zeros"
unfoldable pub spelling : Literal → List ℕ
unfolding numeral
spelling (pos v) = numeral v
spelling (neg v) = 45 ∷ numeral v

-- ---- the lines

-- Q02.2: "problem line"; S11: "byte `p` first, then `cnf`, V, C"
unfoldable pub problem_line : ℕ → ℕ → List ℕ
unfolding spaced numeral
problem_line n m = spaced (problem_word ∷ format_word ∷ numeral n ∷ numeral m ∷ [])

-- Q02.2: "wish line"; S18: "n digits 0 or 1 unparted, name 1 first"; 2026-02 a: written also where the target is all 0
unfoldable pub target_line : ℕ → ℕ → List ℕ
unfolding bit
target_line n x = target_head ++ map (λ i. cond (bit x i) 49 48) (below n)

-- Q02.2: "exchange lines"; S19: "n numbers from 1 to n without sign, .., the first right behind those seven bytes"
unfoldable pub permutation_line : Permutation → List ℕ
unfolding spaced numeral
permutation_line e = permutation_head ++ spaced (map numeral e.images)

-- Q02.2: "a name listed both ways yes before no": the literals of the variable of bit i
unfoldable pub literals_at : Clause → ℕ → List Literal
unfolding bit
literals_at c i = cond (bit c.positive i) (pos (suc i) ∷ []) [] ++ cond (bit c.negative i) (neg (suc i) ∷ []) []

-- Q02.2: "names ascending"
unfoldable pub literals_of : ℕ → Clause → List Literal
unfolding literals_at variables flat_map
literals_of n c = flat_map (literals_at c) (variables n c)

-- Q02.2: "closing 0"
unfoldable pub clause_line : ℕ → Clause → List ℕ
unfolding spaced spelling literals_of
clause_line n c = spaced (map spelling (literals_of n c) ++ ascii "0" ∷ [])

-- ---- the text

-- Q02.2: "The sheet is written as problem line, wish line, exchange lines, then a line a rule"
unfoldable pub sheet_lines : Input → List (List ℕ)
unfolding problem_line target_line permutation_line clause_line
sheet_lines d =
    problem_line d.variables (length d.clauses) ∷ target_line d.variables d.target
    ∷ map permutation_line d.permutations ++ map (clause_line d.variables) d.clauses

unfoldable pub sheet_text : Input → List ℕ
unfolding lined sheet_lines
sheet_text d = lined (sheet_lines d)

-- ---- the text of a formula by value

-- what a formula and the slices with its clauses say; unused images are no part of it
abbrev pub input_in : Formula → ClauseSlices → Input
input_in f clauses =
    record {
      variables = f.variables;
      clauses = clauses_of clauses;
      target = f.target;
      permutations = permutations_in f.variables f.permutations f.images;
    }

unfoldable pub text_of : Formula → ClauseSlices → List ℕ
unfolding sheet_text permutations_in beside
text_of f clauses = sheet_text (input_in f clauses)
