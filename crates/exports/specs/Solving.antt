-- What the exported solver returns, and what it leaves in the slices lent to it. Assumes nothing.
use Rattle.std.specs.Prelude.{cond, List, ◌≡◌, ℕ, ◌≤◌, ◌<◌, length}
use Rattle.point_slices.specs.Slices.{SlotSlices}
use Rattle.math.specs.Lists.{over}
use Rattle.claims.specs.Claim.{from_text}
use Rattle.solver.specs.declared.Settled.{Settled}
use Rattle.solver.specs.Solver.{blank}
use Rattle.solver.specs.Contract.{Solved}
use Rattle.export_words.specs.Words.{has_room}
use Rattle.export_words.specs.Replies.{settled_words}

-- what the solver answered to a text: an answer of which its promises hold, and the reply in its words
pub record SolverAnswers (text : List ℕ) (slots₀ : SlotSlices) (out₀ reply₀ : List ℕ) (slots₁ : SlotSlices)
    (out₁ reply₁ : List ℕ) : Type 0 where
  pub settled : Settled
  pub solved : Solved (from_text text blank) slots₀ out₀ settled slots₁ out₁
  pub words : reply₁ ≡ over (settled_words settled) reply₀

-- D3 for a caller in another language: with room for the answer, the solver's; without, nothing changes
pub record SolveReturns (text : List ℕ) (slots₀ : SlotSlices) (out₀ reply₀ : List ℕ) (r : ℕ) (slots₁ : SlotSlices)
    (out₁ reply₁ : List ℕ) : Type 0 where
  pub returned : r ≡ cond (has_room reply₀) 1 0
  pub answered : 4 ≤ length reply₀ → SolverAnswers text slots₀ out₀ reply₀ slots₁ out₁ reply₁
  pub unchanged : length reply₀ < 4 → (slots₁ ≡ slots₀) × (out₁ ≡ out₀) × (reply₁ ≡ reply₀)
