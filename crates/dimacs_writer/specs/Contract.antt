-- What `dimacs_writer::write` promises. Assumes nothing.
use Rattle.std.specs.Prelude.{Result, List, ◌≡◌, ℕ}
use Rattle.point_slices.specs.Slices.{ClauseSlices}
use Rattle.formula.specs.declared.Formula.{Formula}
use Rattle.formula.specs.declared.reasons.Refusal.{Refusal}
use Rattle.certificate_writer.specs.Contract.{reply_of_written}
use Rattle.dimacs_text.specs.Writer.{text_reply, text_output}

-- G.a, Q02.4: what the writer promises: its reply, and the output as it returns
pub record WroteSheet (f : Formula) (clauses : ClauseSlices) (out : List ℕ) (r : Result ℕ Refusal) (after : List ℕ) : Type 0
  where
    pub reply : reply_of_written r ≡ text_reply f clauses out
    pub output : after ≡ text_output f clauses out
