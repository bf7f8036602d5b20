-- With room for the answer's words the exported writer tells what the writer answers. Assumes nothing.
use Rattle.std.specs.Prelude.{Result, List, ◌≡◌, ℕ, ◌≤◌, length}
use Rattle.std.proofs.Common.{subst}
use Rattle.math.specs.Lists.{over}
use Rattle.point_slices.specs.Slices.{ClauseSlices}
use Rattle.formula.specs.declared.Formula.{Formula}
use Rattle.certificate_writer.specs.Contract.{reply_of_written}
use Rattle.formula.specs.declared.reasons.Refusal.{Refusal}
use Rattle.dimacs_text.specs.Writer.{text_reply, text_output}
use Rattle.dimacs_writer.specs.Contract.{WroteSheet}
use Rattle.export_words.specs.Words.{words_of}
use Rattle.export_words.specs.Laws.WritingLaws.{tells_all}
use Rattle.export_sheets.specs.Sheets.{SheetReturns}

-- the same formula is written the same way
pub sheet_as : {f g : Formula} {clauses : ClauseSlices} {out out₁ : List ℕ} {r : Result ℕ Refusal} → g ≡ f
    → WroteSheet g clauses out r out₁ → WroteSheet f clauses out r out₁
sheet_as {f} {g} {clauses} {out} {out₁} {r} same wrote = subst (λ h. WroteSheet h clauses out r out₁) same wrote

pub tells_sheet : (f : Formula) (clauses : ClauseSlices) (out reply : List ℕ) (r : Result ℕ Refusal) (out₁ reply₁ : List ℕ)
    → 4 ≤ length reply → WroteSheet f clauses out r out₁ → reply₁ ≡ over (words_of (reply_of_written r)) reply
    → SheetReturns f clauses out reply 1 out₁ reply₁
tells_sheet f clauses out reply r out₁ reply₁ le wrote words =
    tells_all (text_reply f clauses out) (text_output f clauses out) out reply (reply_of_written r) out₁ reply₁ le
    wrote.reply wrote.output words
