-- What `certificate_writer::write` promises. Assumes nothing.
use Rattle.std.specs.Prelude.{Result, Ok, Err, List, ◌≡◌, ℕ}
use Rattle.point_slices.specs.Slices.{ClauseSlices, SlotSlices}
use Rattle.formula.specs.declared.Formula.{Formula}
use Rattle.formula.specs.declared.reasons.Refusal.{Refusal}
use Rattle.formula.specs.Reasons.{code_of}
use Rattle.formula.specs.Reply.{Reply, refused, written}
use Rattle.certificate.specs.Writer.{write_reply, write_output}

-- F10: what the answer of a writer, of certificates or of texts, says in document 01's terms
unfoldable pub reply_of_written : Result ℕ Refusal → Reply
reply_of_written (Ok size) = written size
reply_of_written (Err r) = refused (code_of r.reason) r.place

-- G.a: what the writer promises: its reply, and the output as it returns
pub record Wrote (f : Formula) (clauses : ClauseSlices) (slots : SlotSlices) (filled : ℕ) (out : List ℕ)
    (r : Result ℕ Refusal) (after : List ℕ) : Type 0 where
  pub reply : reply_of_written r ≡ write_reply f clauses slots filled out
  pub output : after ≡ write_output f clauses slots filled out
