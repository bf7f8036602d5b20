-- What an exported writer returns, and what it leaves in the slices lent to it. Assumes nothing.
use Rattle.std.specs.Prelude.{cond, List, ◌≡◌, ℕ}
use Rattle.point_slices.specs.Slices.{ClauseSlices, SlotSlices}
use Rattle.math.specs.Lists.{over}
use Rattle.formula.specs.declared.Formula.{Formula}
use Rattle.formula.specs.Reply.{Reply}
use Rattle.certificate.specs.Writer.{write_reply, write_output}
use Rattle.export_words.specs.Words.{words_of, has_room}

-- what a writer tells a caller in another language: with room for the answer's words, these and the new output;
-- without, nothing changes
pub record OutputReturns (answer : Reply) (new out₀ reply₀ : List ℕ) (r : ℕ) (out₁ reply₁ : List ℕ) : Type 0 where
  pub returned : r ≡ cond (has_room reply₀) 1 0
  pub reply : reply₁ ≡ cond (has_room reply₀) (over (words_of answer) reply₀) reply₀
  pub output : out₁ ≡ cond (has_room reply₀) new out₀

-- D2.4 for a caller in another language
abbrev pub WriteReturns : Formula → ClauseSlices → SlotSlices → ℕ → List ℕ → List ℕ → ℕ → List ℕ → List ℕ → Type 0
WriteReturns f clauses slots filled out₀ reply₀ r out₁ reply₁ =
    OutputReturns (write_reply f clauses slots filled out₀) (write_output f clauses slots filled out₀) out₀ reply₀ r out₁
    reply₁
