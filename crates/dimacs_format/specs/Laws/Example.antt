-- Texts and what the reader yields from them, by computation. Assumes nothing.
use Rattle.std.specs.Prelude.{List, [], ◌∷◌, ◌++◌, ◌≡◌, refl, ℕ, ◌-◌, replicate}
use Rattle.formula.specs.Limits.{max_images}
use Rattle.formula.specs.Reply.{Reply, parsed, refused}
use Rattle.formula.specs.declared.Formula.{Formula}
use Rattle.formula.specs.Problem.{empty_formula}
use Rattle.dimacs_format.specs.Text.{ascii, problem_word, format_word, target_head, permutation_head, percent_sign}
use Rattle.dimacs_format.specs.Reader.{read_reply, read_formula, read_clauses}
use Rattle.point_slices.specs.Slices.{whole_clauses}

-- the bytes that the fixed words and heads are
pub fixed_bytes : (problem_word ≡ 112 ∷ []) × (format_word ≡ 99 ∷ 110 ∷ 102 ∷ [])
    × (target_head ≡ 99 ∷ 32 ∷ 119 ∷ 105 ∷ 115 ∷ 104 ∷ 32 ∷ [])
    × (permutation_head ≡ 99 ∷ 32 ∷ 101 ∷ 120 ∷ 99 ∷ 104 ∷ 32 ∷ [])
    × (percent_sign ≡ 37 ∷ [])
fixed_bytes = (refl, refl, refl, refl, refl)

-- what the reader yields from a text and two slices
pub record Example (text positive₀ negative₀ : List ℕ) (r : Reply) (f : Formula) (positive₁ negative₁ : List ℕ) : Type 0
  where
    pub reply : read_reply text (whole_clauses positive₀ negative₀) ≡ r
    pub formula : read_formula text (whole_clauses positive₀ negative₀) ≡ f
    pub clauses : read_clauses text (whole_clauses positive₀ negative₀) ≡ whole_clauses positive₁ negative₁

-- "B", as a text: `p cnf 3 2`, `c wish 000`, `1 2 0`, `-1 3 0` on four lines; the third place of a slice stays
abbrev pub satisfiable_text_lem : List ℕ
satisfiable_text_lem =
    ascii "p cnf 3 2\n" ++ ascii "c wish 000\n" ++ ascii "1 2 0\n" ++ ascii "-1 3 0\n"

pub satisfiable_text_read : Example satisfiable_text_lem (7 ∷ 8 ∷ 9 ∷ []) (7 ∷ 8 ∷ []) parsed
    (record { variables = 3; clauses = 2; target = 0; permutations = 0; images = replicate max_images 0 }) (3 ∷ 4 ∷ 9
    ∷ [])
    (0 ∷ 1 ∷ [])
unfolding read_reply read_formula read_clauses
satisfiable_text_read = record { reply = refl; formula = refl; clauses = refl }

-- "A with exchange 2 1", behind a remark and a blank line, its last clause closed on a line of its own
abbrev pub symmetric_text : List ℕ
symmetric_text =
    ascii "c a remark\n"
    ++ ascii " \n"
    ++ ascii "p cnf 2 4\n"
    ++ ascii "c exch 2 1\n"
    ++ ascii "1 2 0 -1 2 0\n"
    ++ ascii "1 -2 0 -1\n"
    ++ ascii "c another remark\n"
    ++ ascii "-2 0\n"

pub symmetric_text_read : Example symmetric_text (9 ∷ 9 ∷ 9 ∷ 9 ∷ []) (9 ∷ 9 ∷ 9 ∷ 9 ∷ []) parsed
    (record { variables = 2; clauses = 4; target = 0; permutations = 1; images = 2 ∷ 1 ∷ replicate (max_images - 2) 0 })
    (3 ∷ 2 ∷ 1 ∷ 0 ∷ []) (0 ∷ 1 ∷ 2 ∷ 3 ∷ [])
unfolding read_reply read_formula read_clauses
symmetric_text_read = record { reply = refl; formula = refl; clauses = refl }

-- R7, N3: "7 precedes 5 and 6 at a word": a malformed word behind C closed clauses
abbrev pub late_word : List ℕ
late_word =
    ascii "p cnf 1 1\n" ++ ascii "1 0 x\n"

pub late_word_read : Example late_word (5 ∷ []) (6 ∷ []) (refused 7 14)
    empty_formula (5 ∷ []) (6 ∷ [])
unfolding read_reply read_formula read_clauses
late_word_read = record { reply = refl; formula = refl; clauses = refl }

-- R8, S20: "Thus an ordinary remark beginning so is refused."
abbrev pub target_remark : List ℕ
target_remark =
    ascii "p cnf 2 1\n" ++ ascii "1 0\n" ++ ascii "c wish for rain\n"

pub target_remark_read : Example target_remark (5 ∷ []) (6 ∷ []) (refused 8 14)
    empty_formula (5 ∷ []) (6 ∷ [])
unfolding read_reply read_formula read_clauses
target_remark_read = record { reply = refl; formula = refl; clauses = refl }

-- Q01.1: "whose files close with a line holding only `%`, then a 0"
abbrev pub exercise_text : List ℕ
exercise_text =
    ascii "p cnf 3 2\n" ++ ascii " 1 -2 0\n" ++ ascii "2 3 0\n" ++ ascii "%\n" ++ ascii "0\n\n"

pub exercise_text_read : Example exercise_text (7 ∷ 8 ∷ 9 ∷ []) (7 ∷ 8 ∷ []) parsed
    (record { variables = 3; clauses = 2; target = 0; permutations = 0; images = replicate max_images 0 })
    (1 ∷ 6 ∷ 9 ∷ []) (2 ∷ 0 ∷ [])
unfolding read_reply read_formula read_clauses
exercise_text_read = record { reply = refl; formula = refl; clauses = refl }

-- what the reader answers to a text, with slices for two clauses
abbrev Answered : List ℕ → Reply → Type 0
Answered text r = read_reply text (whole_clauses (5 ∷ 5 ∷ []) (6 ∷ 6 ∷ [])) ≡ r

-- Q01.2: a percent line ends the sheet, and malformed lines behind it are not looked at
pub percent_ends : Answered (ascii "p cnf 1 1\n1 0\n% \t\r\nc wish 9\nc exch 4097\n") parsed
    × Answered (ascii "p cnf 1 0\n%") parsed
unfolding read_reply
percent_ends = (refl, refl)

-- Q01.3: "With fewer rules closed it gives 7 at the percent sign.", also inside a clause; before the problem line it
-- is a malformed one
pub percent_early : Answered (ascii "p cnf 2 2\n1 0\n%\n0\n") (refused 7 14)
    × Answered (ascii "p cnf 2 1\n1 2\n%\n0\n") (refused 7 14)
    × Answered (ascii "c x\n%\np cnf 1 0\n") (refused 2 4)
unfolding read_reply
percent_early = (refl, refl, refl)

-- `%x` and ` %` are words: 5, or 7 once C clauses are closed
pub percent_words : Answered (ascii "p cnf 2 1\n%x\n1 0\n") (refused 5 10)
    × Answered (ascii "p cnf 2 1\n1 0\n%x\n") (refused 7 14)
    × Answered (ascii "p cnf 2 1\n %\n1 0\n") (refused 5 11)
    × Answered (ascii "p cnf 2 1\n1 0\n %\n") (refused 7 15)
unfolding read_reply
percent_words = (refl, refl, refl, refl)
