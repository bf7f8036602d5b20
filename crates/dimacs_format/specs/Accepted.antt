-- Document 01, 'Sheet', with request 2026-01 of document 02: which texts are accepted and what they say, without a fold
-- or a state. ReaderLaws has that the reader accepts just these. Assumes nothing.
use Rattle.std.specs.Prelude.{true, false, not, ◌⊎◌, ◌≡◌, ℕ, ◌≤◌, ◌<◌, ◌^◌, eqb, length, get_or}
use mathlib.Core.List.{List, [], ◌∷◌, ◌++◌, map, flat_map}
use Rattle.std.proofs.Math.Option.{some}
use Rattle.math.specs.Bits.{bit}
use Rattle.math.specs.Lists.{◌∈◌, select}
use Rattle.points.specs.Points.{Clause}
use Rattle.permutation_theory.specs.Permutations.{Permutation, IsPermutation}
use Rattle.formula.specs.Limits.{max_variables, max_clauses, max_permutations}
use Rattle.dimacs_format.specs.Text.{max_text, is_blank, Line, Word, lines, words, words_of, spelled, is_comment}
use Rattle.dimacs_format.specs.Text.{problem_word, format_word, target_head, permutation_head, behind, is_target_line}
use Rattle.dimacs_format.specs.Text.{is_permutation_line, is_percent_line}
use Rattle.dimacs_format.specs.Text.{number_in, Literal, variable, Token, token_in, literal, close}
use Rattle.dimacs_format.specs.Input.{Input, clause_of}

-- ---- the problem line

-- S11: "byte `p` first, then `cnf`, V, C, parted by blanks, nothing else but trailing blanks"
pub record ProblemLine (l : Line) (n c : ℕ) : Type 0 where
  pub rest : List ℕ
  pub first : l.bytes ≡ 112 ∷ rest
  pub third : List ℕ
  pub fourth : List ℕ
  pub four : spelled (words_of l) ≡ problem_word ∷ format_word ∷ third ∷ fourth ∷ []
  -- S12: "both have one to four decimal digits"
  pub variables : number_in third ≡ some n
  pub total : number_in fourth ≡ some c

-- ---- the clauses

-- S14: "A zero closes a rule."
abbrev pub closed_by0 : List Literal → List Token
closed_by0 g = map literal g ++ close ∷ []

-- a literal of one of the variables 1 to n
pub record Within (n : ℕ) (l : Literal) : Type 0 where
  pub low : 1 ≤ variable l
  pub high : variable l ≤ n

-- S13, S14: "signed decimal numbers", "A zero closes a rule.": literals of the variables 1 to n in groups, each closed
-- by a zero and a clause
pub record Grouped (n : ℕ) (ws : List Word) (cs : List Clause) : Type 0 where
  pub groups : List (List Literal)
  pub tokens : map (λ (w : Word). token_in w.bytes) ws ≡ flat_map closed_by0 groups
  pub within : (g : List Literal) → g ∈ groups → (l : Literal) → l ∈ g → Within n l
  pub clauses : cs ≡ map clause_of groups

-- ---- the comments with meaning

-- S18: "holds n digits 0 or 1 unparted, name 1 first, then only blanks", behind the seven bytes
pub record TargetLine (n : ℕ) (l : Line) (x : ℕ) : Type 0 where
  pub digits : List ℕ
  pub rest : List ℕ
  pub whole : behind target_head l ≡ digits ++ rest
  pub size : length digits ≡ n
  pub binary : (b : ℕ) → b ∈ digits → (b ≡ 48) ⊎ (b ≡ 49)
  pub blank : (b : ℕ) → b ∈ rest → is_blank b ≡ true
  pub within : x < 2 ^ n
  pub value : (i : ℕ) → i < n → bit x i ≡ eqb (get_or digits i 0) 49

-- S18: "at most one such line; without it the wish is all 0"
pub data Targeted (n : ℕ) : List Line → ℕ → Type 0 where
  no_line : Targeted n [] 0
  one_line : {l : Line} {x : ℕ} → TargetLine n l x → Targeted n (l ∷ []) x

-- S19: "holds n numbers from 1 to n without sign, .., the first right behind those seven bytes, .., every number just
-- one time"
pub record PermutationLine (n : ℕ) (l : Line) (e : Permutation) : Type 0 where
  pub byte : ℕ
  pub rest : List ℕ
  pub first : behind permutation_head l ≡ byte ∷ rest
  pub unblank : is_blank byte ≡ false
  pub numbers : map number_in (spelled (words 0 (behind permutation_head l))) ≡ map some e.images
  pub permutation : IsPermutation n e

-- S19: "such lines", in order the permutations
pub data Permuted (n : ℕ) : List Line → List Permutation → Type 0 where
  none_left : Permuted n [] []
  one_more : {l : Line} {ls : List Line} {e : Permutation} {es : List Permutation} → PermutationLine n l e
      → Permuted n ls es → Permuted n (l ∷ ls) (e ∷ es)

-- ---- the whole text

-- the words of the lines that are no comments, in order
unfoldable pub words_among : List Line → List Word
unfolding flat_map select is_comment words
words_among ls = flat_map words_of (select (λ l. not (is_comment l)) ls)

-- a line before the problem line: S10: "A line whose first byte is `c` is a comment.", or "all blanks"
abbrev pub Skipped : Line → Type 0
Skipped l = (is_comment l ≡ true) ⊎ ((b : ℕ) → b ∈ l.bytes → is_blank b ≡ true)

-- Q01.2: "now ends the sheet; the bytes behind it are ignored": a percent line and what stands behind it, or nothing
pub data Ignored : List Line → Type 0 where
  at_text_end : Ignored []
  at_percent_line : {l : Line} {ls : List Line} → is_percent_line l ≡ true → Ignored (l ∷ ls)

-- D2.1: "A sheet is read as DIMACS CNF, as document 01 fixes it."; Q01.4: "The reading in demand 2 is this one from now
-- on.": the text is accepted and says d, with slices that have the given room for its clauses
pub record Accepts (text : List ℕ) (room : ℕ) (d : Input) : Type 0 where
  -- S7: "The text is at most 1,048,576 bytes."
  pub size : length text ≤ max_text
  pub before : List Line
  pub problem : Line
  -- the lines behind the problem line up to the end of the sheet, and those behind that
  pub after : List Line
  pub ignored : List Line
  -- S8: "Lines end with byte 10; the last may lack it."
  pub place : lines 0 text ≡ before ++ problem ∷ (after ++ ignored)
  -- S11: "The first other line that isn't all blanks must be the problem line"
  pub skipped : (l : Line) → l ∈ before → Skipped l
  pub sizes : ProblemLine problem d.variables (length d.clauses)
  -- Q01.2: "Once C rules are closed, a line whose first byte is `%` and that otherwise holds blanks now ends the sheet"
  pub unended : (l : Line) → l ∈ after → is_percent_line l ≡ false
  pub ended : Ignored ignored
  -- S12: "V is 1 to 64 and becomes n, C is 0 to 4,096"
  pub some-variable : 1 ≤ d.variables
  pub few_variables : d.variables ≤ max_variables
  pub few_clauses_lem : length d.clauses ≤ max_clauses
  -- R4: "a rule slice shorter than C"
  pub enough_room : length d.clauses ≤ room
  -- S13: "Afterwards words parted by blanks or line ends are signed decimal numbers"; S15: "Exactly C rules are
  -- closed."
  pub grouped : Grouped d.variables (words_among after) d.clauses
  -- S17: "After the problem line two comments have meaning, also inside a rule."
  pub targeted : Targeted d.variables (select is_target_line after) d.target
  pub permuted : Permuted d.variables (select is_permutation_line after) d.permutations
  -- S19: "at most 16 such lines"
  pub few_permutations_lem : length d.permutations ≤ max_permutations
