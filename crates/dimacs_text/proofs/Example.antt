-- Formulas and their texts, by computation, and what the writer answers. Assumes nothing.
use Rattle.std.specs.Prelude.{List, [], ◌∷◌, ◌++◌, ◌≡◌, refl, ℕ, ◌-◌, replicate}
use Rattle.point_slices.specs.Slices.{ClauseSlices, beside, whole_clauses}
use Rattle.formula.specs.declared.Formula.{Formula}
use Rattle.formula.specs.Limits.{max_images}
use Rattle.formula.specs.Reply.{Reply, written, refused}
use Rattle.dimacs_format.specs.Laws.Example.{satisfiable_text_lem}
use Rattle.dimacs_format.specs.Reader.{read_reply, read_formula, read_clauses}
use Rattle.dimacs_format.specs.Text.{ascii}
use Rattle.dimacs_text.specs.ReadBack.{unused_zero, ReadsBack}
use Rattle.dimacs_text.specs.SheetText.{text_of}
use Rattle.dimacs_text.specs.Writer.{text_reply, text_output}

-- "B": the clauses (1 2) and (-1 3), target 000, no permutation
abbrev satisfiable : Formula
satisfiable =
    record { variables = 3; clauses = 2; target = 0; permutations = 0; images = replicate max_images 0 }

-- 2026-02 a: the target line is written also where the target is all 0; the text is that of the reader's example
pub satisfiable_written : (text_of satisfiable (whole_clauses (3 ∷ 4 ∷ []) (0 ∷ 1 ∷ []))
    ≡ ascii "p cnf 3 2\nc wish 000\n1 2 0\n-1 3 0\n")
    × (text_of satisfiable (whole_clauses (3 ∷ 4 ∷ []) (0 ∷ 1 ∷ [])) ≡ satisfiable_text_lem)
unfolding text_of
satisfiable_written = (refl, refl)

-- a target that is not 0, a permutation with unused bytes that are not 0, variables listed both ways, and a clause
-- without literals
abbrev swapped : Formula
swapped =
    record {
      variables = 3;
      clauses = 3;
      target = 5;
      permutations = 1;
      images = 2 ∷ 1 ∷ 3 ∷ replicate (max_images - 3) 9;
    }

abbrev swapped-clauses : ClauseSlices
swapped-clauses = whole_clauses (3 ∷ 0 ∷ 0 ∷ []) (3 ∷ 4 ∷ 0 ∷ [])

abbrev swapped_text : List ℕ
swapped_text = ascii "p cnf 3 3\nc wish 101\nc exch 2 1 3\n1 -1 2 -2 0\n-3 0\n0\n"

pub swapped_written : text_of swapped swapped-clauses ≡ swapped_text
unfolding text_of
swapped_written = refl

-- Q02.3: "the same sheet (unused exchange bytes 0) and rules"; the fourth place of a slice stays
pub swapped_back : ReadsBack swapped swapped-clauses swapped_text
    (whole_clauses (4 ∷ 5 ∷ 6 ∷ 7 ∷ []) (4 ∷ 5 ∷ 6 ∷ []))
unfolding read_reply read_formula read_clauses unused_zero beside
swapped_back = record { reply = refl; formula = refl; rules = refl }

-- what the writer answers and leaves in an output
pub record Answered (out : List ℕ) (r : Reply) (out₁ : List ℕ) : Type 0 where
  pub reply : text_reply swapped swapped-clauses out ≡ r
  pub output : text_output swapped swapped-clauses out ≡ out₁

-- R19: "output too short | 19 | length needed (bytes here)": one byte too short
pub swapped_short : Answered (replicate 52 7) (refused 19 53) (replicate 52 7)
unfolding text_reply text_output
swapped_short = record { reply = refl; output = refl }

-- Q02.4: "bytes past the text are unchanged": two bytes longer
pub swapped_long : Answered (replicate 55 7) (written 53) (swapped_text ++ 7 ∷ 7 ∷ [])
unfolding text_reply text_output
swapped_long = record { reply = refl; output = refl }
