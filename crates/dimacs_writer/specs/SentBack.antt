-- Document 02, 2026-02: what the writer left in the output, handed to the reader. Assumes nothing.
use Rattle.std.specs.Prelude.{◌≡◌}
use Rattle.point_slices.specs.Slices.{ClauseSlices, clauses_of}
use Rattle.formula.specs.declared.Formula.{Formula}
use Rattle.formula.specs.Reply.{parsed}
use Rattle.dimacs_format.specs.Reader.{stored_in}
use Rattle.dimacs_lines.specs.Reply.{reply_of_parse}
use Rattle.dimacs_lines.specs.declared.Parsed.{Parsed}
use Rattle.dimacs_text.specs.ReadBack.{unused_zero}

-- Q02.3: "Reading it, with rule slices long enough, gives the same sheet (unused exchange bytes 0) and rules": the
-- reader's answer, and the slices at its exit, for slices that held something else before
pub record SentBack (f : Formula) (clauses slices₀ : ClauseSlices) (r : Parsed) (slices₁ : ClauseSlices) : Type 0 where
  pub reply : reply_of_parse r.answer ≡ parsed
  pub formula : r.formula ≡ unused_zero f
  pub rules : slices₁ ≡ stored_in slices₀ (clauses_of clauses)
