-- What the exported writer of texts returns, and what it leaves in the slices lent to it. Assumes nothing.
use Rattle.std.specs.Prelude.{List, ℕ}
use Rattle.point_slices.specs.Slices.{ClauseSlices}
use Rattle.formula.specs.declared.Formula.{Formula}
use Rattle.dimacs_text.specs.Writer.{text_reply, text_output}
use Rattle.export_words.specs.Writing.{OutputReturns}

-- Q02.4 for a caller in another language
abbrev pub SheetReturns : Formula → ClauseSlices → List ℕ → List ℕ → ℕ → List ℕ → List ℕ → Type 0
SheetReturns f clauses out₀ reply₀ r out₁ reply₁ =
    OutputReturns (text_reply f clauses out₀) (text_output f clauses out₀) out₀ reply₀ r out₁ reply₁
