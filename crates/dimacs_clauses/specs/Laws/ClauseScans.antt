-- How clauses being read lie in the code's numbers and slices, and what the functions on clause words promise. Assumes
-- nothing.
use Rattle.std.specs.Prelude.{Bool, false, List, Option, Result, MatchResult, IfOk, ◌≡◌, ℕ, ◌+◌, ◌-◌, ◌≤◌, ◌<◌, length, get_or, take, drop}
use Rattle.point_slices.specs.Slices.{ClauseSlices, clauses_of, clause_room}
use Rattle.formula.specs.Limits.{max_variables, max_clauses}
use Rattle.formula.specs.declared.reasons.Refusal.{Refusal}
use Rattle.dimacs_words.specs.declared.Class.TheVariants.{Line}
use Rattle.dimacs_words.specs.declared.Word.{Word}
use Rattle.dimacs_clauses.specs.declared.Begun.{Begun}
use Rattle.dimacs_clauses.specs.declared.Stepped.{Stepped}
use Rattle.dimacs_format.specs.Text.{ends_line, words}
use Rattle.dimacs_format.specs.Reader.{Step, goes, walk, Sizes, Clauses, token_step, word_step}
use Rattle.dimacs_format.specs.Laws.AnswerLaws.{step_then}
use Rattle.dimacs_words.specs.Laws.Scans.{belongs, ends_word, Stretch, signed, WordRead}

-- the clauses closed lie at the front of the slices
abbrev pub clauses_from : ClauseSlices → Begun → Clauses
clauses_from clauses b = record {
  closed = take b.closed (clauses_of clauses);
  begun = record { positive = b.positive; negative = b.negative };
}

-- so many clauses closed, and none begun
abbrev pub none_begun : ℕ → Begun
none_begun closed = record { closed = closed; positive = 0; negative = 0 }

-- n and C are within their limits, the slices have room for C clauses, and at most C are closed
pub record Ready (z : Sizes) (k : ℕ) (clauses : ClauseSlices) : Type 0 where
  pub variables : z.variables ≤ max_variables
  pub few : z.total ≤ max_clauses
  pub room : z.total ≤ clause_room clauses
  pub closed : k ≤ z.total

-- the slices are ready behind as many clauses as a value of the code has closed; behind a refusal they are as well, and
-- what was closed before it counts no more
module _ {V : Type 0} where
  abbrev pub ReadyThen : Sizes → Result V Refusal → (V → Begun) → ClauseSlices → Type 0
  ReadyThen z r begun clauses = MatchResult r (λ v. Ready z (begun v).closed clauses) (λ e. Ready z 0 clauses)

-- what one number leads to; it keeps the slices ready, where there is room for one clause more
pub record Taking (n place : ℕ) (clauses₀ : ClauseSlices) (b : Begun) (negated : Bool) (value : ℕ) (r : Result Begun Refusal)
    (clauses₁ : ClauseSlices) : Type 0 where
  pub step : step_then r (λ b₁. goes (clauses_from clauses₁ b₁))
      ≡ token_step n (clauses_from clauses₀ b) place (signed negated value)
  pub kept : (z : Sizes) → Ready z b.closed clauses₀ → b.closed < z.total → ReadyThen z r (λ b₁. b₁) clauses₁

-- there is room for clause number k + 1, and n is within its limit
pub record Room (n k : ℕ) (clauses : ClauseSlices) : Type 0 where
  pub variables : n ≤ max_variables
  pub few : k < max_clauses
  pub room : k < clause_room clauses

-- the walk over the words of a line from a place on, the line being cut from its text at its end
abbrev pub words_from : Sizes → List ℕ → ℕ → Clauses → Step Clauses
words_from z line at s = walk (word_step z) s (words (0 + at) (drop at line))

-- the walk over the words of the line between two places
abbrev pub words_between : Sizes → List ℕ → ℕ → ℕ → Clauses → Step Clauses
words_between z text start stop s = walk (word_step z) s (words start (take (stop - start) (drop start text)))

-- what one word or blank leads to, wherever its line ends: the walk is refused, or goes on from a later place
pub record Stepping (z : Sizes) (text : List ℕ) (at : ℕ) (clauses₀ : ClauseSlices) (b : Begun) (r : Result Stepped Refusal)
    (clauses₁ : ClauseSlices) : Type 0 where
  pub later : IfOk r (λ s. at < s.next.at)
  pub left : (stop : ℕ) → Stretch (belongs Line) text at stop
      → IfOk r (λ s. s.next.at ≤ stop) × (words_from z (take stop text) at (clauses_from clauses₀ b)
      ≡ step_then r (λ s. words_from z (take stop text) s.next.at (clauses_from clauses₁ s.begun)))
  pub ready : ReadyThen z r (λ s. s.begun) clauses₁

-- what a word leads to that was read at a place, whatever the text in which it stands there
abbrev pub Placing : Sizes → ℕ → ClauseSlices → Begun → Option Word → Result Stepped Refusal → ClauseSlices → Type 0
Placing z at clauses₀ b w r clauses₁ = (text : List ℕ) → at < length text → ends_line (get_or text at 0) ≡ false
    → ends_word (get_or text at 0) ≡ false → WordRead text at w → Stepping z text at clauses₀ b r clauses₁

-- what a line of words leads to, and where it ends
pub record Scanning (z : Sizes) (text : List ℕ) (start : ℕ) (clauses₀ : ClauseSlices) (b : Begun) (r : Result Stepped Refusal)
    (clauses₁ : ClauseSlices) : Type 0 where
  pub stop : ℕ
  pub line : Stretch (belongs Line) text start stop
  pub ended : IfOk r (λ s. s.next.at ≡ stop)
  pub step : step_then r (λ s. goes (clauses_from clauses₁ s.begun))
      ≡ words_between z text start stop (clauses_from clauses₀ b)
  pub ready : ReadyThen z r (λ s. s.begun) clauses₁

-- the loop over the words of a line: what is left of the walk, with the slices and the clause begun as they are, is the
-- whole walk
pub record Along (z : Sizes) (text : List ℕ) (start : ℕ) (clauses₀ : ClauseSlices) (b₀ : Begun) (clauses : ClauseSlices)
    (b : Begun) (at : ℕ) : Type 0 where
  pub ready : Ready z b.closed clauses
  pub stop : ℕ
  pub line : Stretch (belongs Line) text start stop
  pub lower : start ≤ at
  pub upper : at ≤ stop
  pub left : words_between z text start stop (clauses_from clauses₀ b₀)
      ≡ words_from z (take stop text) at (clauses_from clauses b)
