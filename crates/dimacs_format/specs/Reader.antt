-- Document 01, 'Sheet' and rows 1 to 9 of 'When the desk says no', with request 2026-01 of document 02: the reader, as
-- a fold over the lines of the text. Accepted has the same for texts that are not refused, without a fold. Assumes
-- nothing.
use Rattle.std.specs.Prelude.{Bool, false, not, cond, ◌&&◌, ◌||◌, ℕ, ◌+◌, ◌-◌, ◌*◌, eqb, leb, ltb, length, take, drop}
use mathlib.Core.List.{List, [], ◌∷◌, ◌++◌}
use Rattle.std.proofs.Math.Option.{Option, some, none, get_or}
use Rattle.math.specs.Lists.{over, all}
use Rattle.points.specs.Points.{Clause, empty_clause}
use Rattle.point_slices.specs.Slices.{ClauseSlices, clause_room}
use Rattle.permutation_theory.specs.Permutations.{Permutation, is_permutation}
use Rattle.formula.specs.Limits.{max_variables, max_clauses, max_permutations}
use Rattle.formula.specs.Problem.{empty_formula}
use Rattle.formula.specs.Reply.{Reply, parsed, refused}
use Rattle.formula.specs.declared.Formula.{Formula}
use Rattle.dimacs_format.specs.declared.Sizes.{Sizes as SizesValue}
use Rattle.dimacs_format.specs.Text.{max_text, is_blank, Line, Word, lines, words, words_of, spelled, same_bytes}
use Rattle.dimacs_format.specs.Text.{begins, is_comment, all_blank, problem_word, format_word, target_head}
use Rattle.dimacs_format.specs.Text.{permutation_head, behind, is_percent_line, number_in, variable}
use Rattle.dimacs_format.specs.Text.{Token, token_in, literal, close, malformed}
use Rattle.dimacs_format.specs.Input.{Input, with_literal, formula_of, positives, negatives}

-- ---- steps that may refuse

-- a step leads on, or refuses with a number and a place
pub data Step (S : Type 0) : Type 0 where
  goes : S → Step S
  refuses : ℕ → ℕ → Step S

module _ {S T : Type 0} where
  -- one step, and then another from where it led
  unfoldable pub and_then : Step S → (S → Step T) → Step T
  and_then (goes s) k = k s
  and_then (refuses code place) k = refuses code place

module _ {S X : Type 0} where
  -- N3: "then the first fault in text order": step by step along a list, to its end or to the first refusal
  unfoldable pub walk : (S → X → Step S) → S → List X → Step S
  unfolding and_then
  walk f s [] = goes s
  walk f s (x ∷ xs) = and_then (f s x) (λ q. walk f q xs)

-- ---- the problem line

-- n and C, as the reader hands them on
abbrev pub Sizes : Type 0
Sizes = SizesValue

-- both sizes, if both are numbers
unfoldable pub sizes_in : Option ℕ → Option ℕ → Option Sizes
sizes_in none c = none
sizes_in (some v) none = none
sizes_in (some v) (some c) = some (record { variables = v; total = c })

-- the sizes, if the words are `p`, `cnf` and two numbers
unfoldable pub problem_words : List (List ℕ) → Option Sizes
unfolding same_bytes number_in sizes_in
problem_words [] = none
problem_words (p ∷ []) = none
problem_words (p ∷ f ∷ []) = none
problem_words (p ∷ f ∷ v ∷ []) = none
problem_words (p ∷ f ∷ v ∷ c ∷ []) = cond (same_bytes p problem_word && same_bytes f format_word)
    (sizes_in (number_in v) (number_in c)) none
problem_words (p ∷ f ∷ v ∷ c ∷ w ∷ ws) = none

-- S11: "byte `p` first, then `cnf`, V, C, parted by blanks, nothing else but trailing blanks"; S12: "both have one to
-- four decimal digits"
unfoldable pub problem_in : Line → Option Sizes
unfolding begins words problem_words
problem_in l = cond (begins problem_word l.bytes) (problem_words (spelled (words_of l))) none

-- S12: "V is 1 to 64 and becomes n, C is 0 to 4,096"
unfoldable pub within_limits : Sizes → Bool
within_limits z = leb 1 z.variables && leb z.variables max_variables && leb z.total max_clauses

-- ---- the clauses

-- the clauses closed so far, in order, and the one begun
pub record Clauses : Type 0 where
  pub closed : List Clause
  pub begun : Clause

-- R5: "malformed word | 5 | its first byte"; S14: "A zero closes a rule."; R6: "name above n | 6 | word's first byte"
unfoldable pub token_step : ℕ → Clauses → ℕ → Token → Step Clauses
unfolding with_literal variable
token_step n s place malformed = refuses 5 place
token_step n s place close = goes (record { closed = s.closed ++ s.begun ∷ []; begun = empty_clause })
token_step n s place (literal l) =
    cond (leb (variable l) n) (goes (record { closed = s.closed; begun = with_literal s.begun l })) (refuses 6 place)

-- R7: "word after C closed rules", 7 at the "word's first byte"; N3: "7 precedes 5 and 6 at a word"
unfoldable pub word_step : Sizes → Clauses → Word → Step Clauses
unfolding token_step token_in
word_step z s w = cond (ltb (length s.closed) z.total) (token_step z.variables s w.start (token_in w.bytes))
    (refuses 7 w.start)

-- ---- the comments with meaning

-- S18: "digits 0 or 1"
unfoldable pub is_binary : ℕ → Bool
is_binary b = eqb b 48 || eqb b 49

-- "name 1 first": the point whose lowest digit comes first
unfoldable pub binary : List ℕ → ℕ
binary [] = 0
binary (b ∷ bs) = (b - 48) + 2 * binary bs

-- S18: "holds n digits 0 or 1 unparted, name 1 first, then only blanks"
unfoldable pub target_in : ℕ → List ℕ → Option ℕ
unfolding all is_binary all_blank binary
target_in n bytes = cond (leb n (length bytes) && all is_binary (take n bytes) && all_blank (drop n bytes))
    (some (binary (take n bytes))) none

-- the target of a line, unless it is malformed
unfoldable pub target_kept : ℕ → Option ℕ → Step (Option ℕ)
target_kept place none = refuses 8 place
target_kept place (some x) = goes (some x)

-- S18: "at most one such line"; R8: "wish line malformed or second | 8 | line's first byte": from the line's place and
-- what stands behind its head
unfoldable pub target_said : ℕ → Option ℕ → ℕ → List ℕ → Step (Option ℕ)
unfolding target_in target_kept
target_said n none place bytes = target_kept place (target_in n bytes)
target_said n (some x) place bytes = refuses 8 place

-- S18: "A line that begins with the seven bytes `c wish ` .."
abbrev pub target_step : ℕ → Option ℕ → Line → Step (Option ℕ)
target_step n t l = target_said n t l.start (behind target_head l)

-- S19: "the first right behind those seven bytes": a byte that is no blank comes first
unfoldable pub begins_word : List ℕ → Bool
unfolding is_blank
begins_word [] = false
begins_word (b ∷ bs) = not (is_blank b)

-- a number and the numbers behind it, if all of them are
unfoldable pub both_numbers : Option ℕ → Option (List ℕ) → Option (List ℕ)
both_numbers none vs = none
both_numbers (some v) none = none
both_numbers (some v) (some vs) = some (v ∷ vs)

-- S19: "without sign, one to four digits each": the numbers that words are, if all of them are numbers
unfoldable pub numbers_in : List (List ℕ) → Option (List ℕ)
unfolding number_in both_numbers
numbers_in [] = some []
numbers_in (w ∷ ws) = both_numbers (number_in w) (numbers_in ws)

-- S19: "every number just one time"
unfoldable pub permuting : ℕ → Option (List ℕ) → Option Permutation
unfolding is_permutation
permuting n none = none
permuting n (some vs) = cond (is_permutation n (record { images = vs })) (some (record { images = vs })) none

-- S19: "One that begins with `c exch ` holds n numbers from 1 to n without sign, .., the first right behind those seven
-- bytes, .."
unfoldable pub permutation_in : ℕ → List ℕ → Option Permutation
unfolding begins_word words numbers_in permuting
permutation_in n bytes = cond (begins_word bytes) (permuting n (numbers_in (spelled (words 0 bytes)))) none

-- the permutation of a line behind those before it, unless the line is malformed
unfoldable pub permutation_kept : List Permutation → ℕ → Option Permutation → Step (List Permutation)
permutation_kept es place none = refuses 9 place
permutation_kept es place (some e) = goes (es ++ e ∷ [])

-- S19: "at most 16 such lines"; R9: "exchange line malformed or seventeenth | 9 | line's first byte": from the line's
-- place and what stands behind its head
unfoldable pub permutation_said : ℕ → List Permutation → ℕ → List ℕ → Step (List Permutation)
unfolding permutation_in permutation_kept
permutation_said n es place bytes = cond (ltb (length es) max_permutations)
    (permutation_kept es place (permutation_in n bytes)) (refuses 9 place)

-- S19: "One that begins with `c exch ` .."
abbrev pub permutation_step : ℕ → List Permutation → Line → Step (List Permutation)
permutation_step n es l = permutation_said n es l.start (behind permutation_head l)

-- ---- a line behind the problem line

-- S17: "After the problem line two comments have meaning, also inside a rule.": the kinds of lines that say something
pub data Kind : Type 0 where
  clause_line_lem : Kind
  target_line_lem : Kind
  permutation_line_lem : Kind

-- a kind of comment, by the head of its lines
pub record HeadedKind : Type 0 where
  pub head : List ℕ
  pub kind : Kind

-- S18: "A line that begins with the seven bytes `c wish `"; S19: "One that begins with `c exch `"
abbrev pub headed_kinds : List HeadedKind
headed_kinds = record { head = target_head; kind = target_line_lem }
    ∷ record { head = permutation_head; kind = permutation_line_lem } ∷ []

-- the kind whose head stands first in the bytes of a comment; none is a remark
unfoldable pub kind_among : List HeadedKind → List ℕ → Option Kind
unfolding begins
kind_among [] bytes = none
kind_among (h ∷ hs) bytes = cond (begins h.head bytes) (some h.kind) (kind_among hs bytes)

-- the kind of a line behind the problem line
unfoldable pub kind_of : Line → Option Kind
unfolding is_comment kind_among
kind_of l = cond (is_comment l) (kind_among headed_kinds l.bytes) (some clause_line_lem)

-- what the lines behind the problem line have said so far
pub record Progress : Type 0 where
  pub clauses : Clauses
  pub target : Option ℕ
  pub permutations : List Permutation

-- nothing said yet
abbrev pub begin : Progress
begin = record { clauses = record { closed = []; begun = empty_clause }; target = none; permutations = [] }

-- each kind of line says a part of it
abbrev pub Part : Kind → Type 0
Part clause_line_lem = Clauses
Part target_line_lem = Option ℕ
Part permutation_line_lem = List Permutation

-- that part
abbrev pub part_of : (k : Kind) → Progress → Part k
part_of clause_line_lem s = s.clauses
part_of target_line_lem s = s.target
part_of permutation_line_lem s = s.permutations

-- the same with the part of one kind replaced
abbrev pub with_part : (k : Kind) → Progress → Part k → Progress
with_part clause_line_lem s c = record { clauses = c; target = s.target; permutations = s.permutations }
with_part target_line_lem s t = record { clauses = s.clauses; target = t; permutations = s.permutations }
with_part permutation_line_lem s es = record { clauses = s.clauses; target = s.target; permutations = es }

-- one handler a kind of line, from its part and the line
abbrev pub part_step : Sizes → (k : Kind) → Part k → Line → Step (Part k)
part_step z clause_line_lem c l = walk (word_step z) c (words_of l)
part_step z target_line_lem t l = target_step z.variables t l
part_step z permutation_line_lem es l = permutation_step z.variables es l

-- a line changes the part of its kind alone; S20: "Thus an ordinary remark beginning so is refused."
unfoldable pub handled : Sizes → Progress → Line → Option Kind → Step Progress
unfolding and_then walk word_step target_said permutation_said
handled z s l none = goes s
handled z s l (some k) = and_then (part_step z k (part_of k s) l) (λ a. goes (with_part k s a))

-- S17: one line behind the problem line
unfoldable pub line_step : Sizes → Progress → Line → Step Progress
unfolding handled kind_of
line_step z s l = handled z s l (kind_of l)

-- ---- the whole text

-- a line that stands before the problem line: a comment, or all blanks
unfoldable pub is_skipped : Line → Bool
unfolding is_comment all_blank
is_skipped l = is_comment l || all_blank l.bytes

-- S11: "The first other line that isn't all blanks": that line and those behind it
unfoldable pub from_problem : List Line → List Line
unfolding is_skipped
from_problem [] = []
from_problem (l ∷ ls) = cond (is_skipped l) (from_problem ls) (l ∷ ls)

-- S18: "without it the wish is all 0"
abbrev pub input_of : ℕ → Progress → Input
input_of n s = record {
  variables = n;
  clauses = s.clauses.closed;
  target = get_or s.target 0;
  permutations = s.permutations;
}

-- S15: "Exactly C rules are closed."; R7: "or too few closed", 7 at the place where the sheet ends
unfoldable pub at_end : ℕ → Sizes → Progress → Step Input
at_end place z s = cond (eqb (length s.clauses.closed) z.total) (goes (input_of z.variables s))
    (refuses 7 place)

-- what lines say, behind what was said before them. N3: "then the first fault in text order"; R7: at the end of a text
-- its "text length"; Q01.2: a percent line "now ends the sheet; the bytes behind it are ignored"; Q01.3: "With fewer
-- rules closed it gives 7 at the percent sign."
unfoldable pub lines_say : ℕ → Sizes → Progress → List Line → Step Input
unfolding and_then line_step at_end is_percent_line
lines_say size z s [] = at_end size z s
lines_say size z s (l ∷ ls) = cond (is_percent_line l) (at_end l.start z s)
    (and_then (line_step z s l) (λ t. lines_say size z t ls))

-- what the lines behind the problem line of a text of the given size say
abbrev pub text_says : ℕ → Sizes → List Line → Step Input
text_says size z after = lines_say size z begin after

-- R4: "a rule slice shorter than C | 4 | line's first byte"; the room is the length of the shortest slice
unfoldable pub with_room : ℕ → ℕ → Line → List Line → Sizes → Step Input
unfolding lines_say
with_room size room l after z = cond (leb z.total room) (text_says size z after) (refuses 4 l.start)

-- R3: "V or C outside limits | 3 | line's first byte"
unfoldable pub with_sizes : ℕ → ℕ → Line → List Line → Sizes → Step Input
unfolding within_limits with_room
with_sizes size room l after z = cond (within_limits z) (with_room size room l after z) (refuses 3 l.start)

-- R2: "problem line absent or malformed | 2 | its first byte, or text length": malformed
unfoldable pub with_problem : ℕ → ℕ → Line → List Line → Option Sizes → Step Input
unfolding with_sizes
with_problem size room l after none = refuses 2 l.start
with_problem size room l after (some z) = with_sizes size room l after z

-- R2: absent
unfoldable pub with_lines : ℕ → ℕ → List Line → Step Input
unfolding with_problem problem_in
with_lines size room [] = refuses 2 size
with_lines size room (l ∷ after) = with_problem size room l after (problem_in l)

-- R1: "text too long | 1 | 1,048,576"; N3: "Reader: 1, 2, 3, 4, then the first fault in text order"
unfoldable pub reading : List ℕ → ℕ → Step Input
unfolding with_lines from_problem lines
reading text room = cond (leb (length text) max_text) (with_lines (length text) room (from_problem (lines 0 text)))
    (refuses 1 max_text)

-- ---- what the reader answers, and what it leaves in the slices

-- D1.1: "an answer or a numbered refusal with its place"
unfoldable pub reply_to : Step Input → Reply
reply_to (goes d) = parsed
reply_to (refuses code place) = refused code place

-- the formula that goes with the answer
unfoldable pub formula_from : Step Input → Formula
unfolding formula_of empty_formula
formula_from (goes d) = formula_of d
formula_from (refuses code place) = empty_formula

-- S23: "Rules go to two lent slices, places past C unchanged."
abbrev pub stored_in : ClauseSlices → List Clause → ClauseSlices
stored_in old cs = record {
  positive = over (positives cs) old.positive;
  negative = over (negatives cs) old.negative;
  positive_rest = old.positive_rest;
  negative_rest = old.negative_rest;
}

-- N1: "Every row leaves all lent slices unchanged"
unfoldable pub slices_from : Step Input → ClauseSlices → ClauseSlices
unfolding over
slices_from (goes d) old = stored_in old d.clauses
slices_from (refuses code place) old = old

-- D1.1, D2.1: what the reader answers
unfoldable pub read_reply : List ℕ → ClauseSlices → Reply
unfolding reading reply_to
read_reply text clauses = reply_to (reading text (clause_room clauses))

-- N2: the formula beside the answer
unfoldable pub read_formula : List ℕ → ClauseSlices → Formula
unfolding reading formula_from
read_formula text clauses = formula_from (reading text (clause_room clauses))

-- S23, N1: the slices at exit
unfoldable pub read_clauses : List ℕ → ClauseSlices → ClauseSlices
unfolding reading slices_from
read_clauses text clauses = slices_from (reading text (clause_room clauses)) clauses
