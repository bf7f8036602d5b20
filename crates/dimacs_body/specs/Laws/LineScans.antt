-- How what the lines have said lies in the code's numbers, slices and images, and what the functions on lines promise.
-- Assumes nothing.
use Rattle.std.specs.Prelude.{Option as Answer, Some, None, Result, IfOk, IfSome, Bool, false, ◌&&◌, ◌||◌, List, [], ◌∷◌, ◌≡◌, ℕ, ◌≤◌, eqb, ltb, length, get_or, drop}
use Rattle.point_slices.specs.Slices.{ClauseSlices}
use Rattle.permutation_theory.specs.Permutations.{permutations_in}
use Rattle.formula.specs.Limits.{max_variables}
use Rattle.formula.specs.declared.reasons.Refusal.{Refusal}
use Rattle.dimacs_clauses.specs.declared.Begun.{Begun}
use Rattle.dimacs_clauses.specs.declared.Stepped.{Stepped}
use Rattle.dimacs_body.specs.declared.State.{State}
use Rattle.dimacs_body.specs.declared.Lined.{Lined}
use Rattle.dimacs_format.specs.Text.{Line, piece, lines, is_percent_line, max_text}
use Rattle.dimacs_format.specs.Input.{Input}
use Rattle.dimacs_format.specs.Reader.{Step, goes, Sizes, Clauses, Progress, with_part, clause_line_lem, line_step}
use Rattle.dimacs_format.specs.Reader.{at_end, lines_say, text_says}
use Rattle.dimacs_format.specs.Laws.AnswerLaws.{step_then}
use Rattle.dimacs_words.specs.Laws.Scans.{lines_behind}
use Rattle.dimacs_clauses.specs.Laws.ClauseScans.{none_begun, clauses_from, Ready, ReadyThen}
use Rattle.dimacs_targets.specs.Laws.TargetScans.{wanted_of}
use Rattle.dimacs_permutations.specs.Laws.HandlerScans.{KeptImages}

-- nothing said yet
abbrev pub nothing_said : State
nothing_said = record { begun = none_begun 0; wanted = None; permutations = 0 }

-- the same with the part of one kind replaced
abbrev pub with_begun : State → Begun → State
with_begun s b = record { begun = b; wanted = s.wanted; permutations = s.permutations }

abbrev pub with_wanted : State → Answer ℕ → State
with_wanted s w = record { begun = s.begun; wanted = w; permutations = s.permutations }

abbrev pub with_permutations : State → ℕ → State
with_permutations s k = record { begun = s.begun; wanted = s.wanted; permutations = k }

-- what the lines have said, beside some clauses
abbrev pub progress_with : ℕ → Clauses → List ℕ → State → Progress
progress_with n c images s = record {
  clauses = c;
  target = wanted_of s.wanted;
  permutations = permutations_in n s.permutations images;
}

-- what the lines have said, with the clauses in their slices
abbrev pub progress_from : ℕ → ClauseSlices → List ℕ → State → Progress
progress_from n clauses images s = progress_with n (clauses_from clauses s.begun) images s

-- n is within its limit, and the images are as the lines so far leave them
pub record Kept (z : Sizes) (s : State) (images : List ℕ) : Type 0 where
  pub variables : z.variables ≤ max_variables
  pub images_kept : KeptImages z.variables s.permutations images

-- slices, images and numbers are as the lines so far leave them
pub record Standing (z : Sizes) (s : State) (clauses : ClauseSlices) (images : List ℕ) : Type 0 where
  pub ready : Ready z s.begun.closed clauses
  pub kept : Kept z s images

-- what a comment leads to, whatever clauses there are
pub record CommentRead (z : Sizes) (start : ℕ) (line : List ℕ) (s : State) (images : List ℕ)
    (r : Result State Refusal) (images₁ : List ℕ) : Type 0 where
  pub step : (c : Clauses) → step_then r (λ t. goes (progress_with z.variables c images₁ t))
      ≡ line_step z (progress_with z.variables c images s) (piece start line)
  pub same_clauses : IfOk r (λ t. t.begun ≡ s.begun)
  pub kept : IfOk r (λ t. Kept z t images₁)

-- ---- what begins at a place

-- the line that begins at a place of a text has the byte first
unfoldable pub opens_with : ℕ → List ℕ → ℕ → Bool
opens_with b text at = ltb at (length text) && eqb (get_or text at 0) b

-- S10: it is a comment
abbrev pub opens_comment : List ℕ → ℕ → Bool
opens_comment text at = opens_with 99 text at

-- it may be no line of words
abbrev pub opens_apart : List ℕ → ℕ → Bool
opens_apart text at = opens_with 99 text at || opens_with 37 text at

-- the first of some lines is a percent line
abbrev pub percent_first : List Line → Bool
percent_first [] = false
percent_first (l ∷ ls) = is_percent_line l

-- Q01.2: the line that begins at a place is a percent line
unfoldable pub percent_at : List ℕ → ℕ → Bool
unfolding lines is_percent_line
percent_at text at = percent_first (lines at (drop at text))

-- it is a line of words
pub record WordsThere (text : List ℕ) (at : ℕ) : Type 0 where
  pub no_comment : opens_comment text at ≡ false
  pub no_percent : percent_at text at ≡ false

-- what the lines from one that begins at a place on say, up to the end of the sheet
abbrev pub lines_from : Sizes → List ℕ → ℕ → Progress → Step Input
lines_from z text start p = lines_say (length text) z p (lines start (drop start text))

-- those behind one that ends at a place
abbrev pub lines_after : Sizes → List ℕ → ℕ → Progress → Step Input
lines_after z text end p = lines_say (length text) z p (lines_behind text end)

-- ---- comments, percent lines, and lines of words

-- what lines of words lead to, whatever else was said, and the lines behind them
pub record Following (z : Sizes) (text : List ℕ) (start : ℕ) (clauses : ClauseSlices) (b : Begun)
    (r : Result Stepped Refusal) (clauses₁ : ClauseSlices) : Type 0 where
  pub within : IfOk r (λ s. (start ≤ s.next.at) × (s.next.at ≤ length text))
  pub step : (p : Progress) → lines_from z text start (with_part clause_line_lem p (clauses_from clauses b))
      ≡ step_then r (λ s. lines_after z text s.next.at (with_part clause_line_lem p (clauses_from clauses₁ s.begun)))
  pub ready : ReadyThen z r (λ s. s.begun) clauses₁

-- the loop over lines of words: what is left, from the line that begins at a place on, says what all of them say
pub record Going (z : Sizes) (text : List ℕ) (start : ℕ) (clauses₀ : ClauseSlices) (b₀ : Begun) (clauses : ClauseSlices)
    (b : Begun) (first : ℕ) : Type 0 where
  pub ready : Ready z b.closed clauses
  pub lower : start ≤ first
  pub within : first ≤ length text
  pub words_there : WordsThere text first
  pub left : (p : Progress) → lines_from z text start (with_part clause_line_lem p (clauses_from clauses₀ b₀))
      ≡ lines_from z text first (with_part clause_line_lem p (clauses_from clauses b))

-- what was said where lines were read: as much as before where a percent line stands
abbrev pub said : State → Answer Lined → State
said s None = s
said s (Some l) = l.state

-- what comes behind them, by what was said: the end of the sheet at a percent line, or the lines behind the last of them
abbrev pub onward : Sizes → List ℕ → ℕ → Answer Lined → Progress → Step Input
onward z text start None p = at_end start z p
onward z text start (Some l) p = lines_after z text l.stop p

-- what a comment, a percent line or lines of words lead to, and what comes behind them
pub record Advancing (z : Sizes) (text : List ℕ) (start : ℕ) (s : State) (clauses : ClauseSlices) (images : List ℕ)
    (r : Result (Answer Lined) Refusal) (clauses₁ : ClauseSlices) (images₁ : List ℕ) : Type 0 where
  pub within : IfOk r (λ o. IfSome o (λ l. (start ≤ l.stop) × (l.stop ≤ length text)))
  pub step : lines_from z text start (progress_from z.variables clauses images s)
      ≡ step_then r (λ o. onward z text start o (progress_from z.variables clauses₁ images₁ (said s o)))
  pub stands : IfOk r (λ o. Standing z (said s o) clauses₁ images₁)

-- ---- the lines one after the other

-- what the lines behind one that ends at a place lead to, and where the sheet ends
pub record LinesRead (z : Sizes) (text : List ℕ) (end : ℕ) (r : Result Lined Refusal) (clauses : ClauseSlices)
    (images : List ℕ) : Type 0 where
  pub step : text_says (length text) z (lines_behind text end)
      ≡ step_then r (λ l. at_end l.stop z (progress_from z.variables clauses images l.state))
  pub stands : IfOk r (λ l. Standing z l.state clauses images)

-- the loop over the lines: what is left of them, with what was said so far, says what all of them say
pub record Passing (z : Sizes) (text : List ℕ) (end : ℕ) (clauses : ClauseSlices) (images : List ℕ) (s : State)
    (last : ℕ) : Type 0 where
  pub standing : Standing z s clauses images
  pub size : length text ≤ max_text
  pub within : last ≤ length text
  pub left : text_says (length text) z (lines_behind text end)
      ≡ lines_after z text last (progress_from z.variables clauses images s)
