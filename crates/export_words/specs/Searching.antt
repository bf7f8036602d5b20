-- What the exported search returns, and what it leaves in the slices lent to it. Assumes nothing.
use Rattle.std.specs.Prelude.{cond, List, ◌≡◌, ℕ}
use Rattle.math.specs.Lists.{over}
use Rattle.point_slices.specs.Slices.{ClauseSlices, SlotSlices}
use Rattle.formula.specs.declared.Formula.{Formula}
use Rattle.formula.specs.Limits.{capacity}
use Rattle.search.specs.Search.{search_reply, search_slices}
use Rattle.export_words.specs.Words.{words_of, has_room}

-- D2.2 for a caller in another language: with room for the answer, it and the three slices are the search's; without,
-- nothing changes
pub record SearchReturns (f : Formula) (clauses : ClauseSlices) (slots₀ : SlotSlices) (reply₀ : List ℕ) (r : ℕ)
    (slots₁ : SlotSlices) (reply₁ : List ℕ) : Type 0 where
  pub returned : r ≡ cond (has_room reply₀) 1 0
  pub reply : reply₁ ≡ cond (has_room reply₀) (over (words_of (search_reply f clauses (capacity slots₀))) reply₀) reply₀
  pub slots : slots₁ ≡ cond (has_room reply₀) (search_slices f clauses slots₀) slots₀
