-- With room for the answer's words the exported writer tells what the writer answers; without, it tells nothing.
-- Assumes nothing.
use Rattle.std.specs.Prelude.{Result, List, ◌≡◌, ℕ, ◌≤◌, ◌<◌, length}
use Rattle.std.proofs.Common.{ap, ◌∙◌, subst, le-leb}
use Rattle.std.proofs.lemmas.Bool.{lt-leb}
use Rattle.point_slices.specs.Slices.{ClauseSlices, SlotSlices}
use Rattle.math.specs.Lists.{over}
use Rattle.formula.specs.declared.Formula.{Formula}
use Rattle.formula.specs.Reply.{Reply}
use Rattle.certificate.specs.Writer.{write_reply, write_output}
use Rattle.formula.specs.declared.reasons.Refusal.{Refusal}
use Rattle.certificate_writer.specs.Contract.{reply_of_written, Wrote}
use Rattle.export_words.specs.Laws.RoomLaws.{with_room_lem, without_room}
use Rattle.export_words.specs.Words.{words_of}
use Rattle.export_words.specs.Writing.{OutputReturns, WriteReturns}

-- the same formula is written the same way
pub wrote_as : {f g : Formula} {clauses : ClauseSlices} {slots : SlotSlices} {filled : ℕ} {out out₁ : List ℕ}
    {r : Result ℕ Refusal} → g ≡ f → Wrote g clauses slots filled out r out₁ → Wrote f clauses slots filled out r out₁
wrote_as {f} {g} {clauses} {slots} {filled} {out} {out₁} {r} same wrote =
    subst (λ h. Wrote h clauses slots filled out r out₁) same wrote

-- what any writer tells
module _ (answer : Reply) (new out reply : List ℕ) where
  pub tells_none : length reply < 4 → OutputReturns answer new out reply 0 out reply
  tells_none lt =
      record {
        returned = without_room (lt-leb 4 (length reply) lt) 1 0;
        reply = without_room (lt-leb 4 (length reply) lt) _ reply;
        output = without_room (lt-leb 4 (length reply) lt) _ out;
      }

  pub tells_all : (told : Reply) (out₁ reply₁ : List ℕ) → 4 ≤ length reply → told ≡ answer → out₁ ≡ new
      → reply₁ ≡ over (words_of told) reply → OutputReturns answer new out reply 1 out₁ reply₁
  tells_all told out₁ reply₁ le said left words =
      record {
        returned = with_room_lem (le-leb 4 (length reply) le) 1 0;
        reply = words ∙ ap (λ (a : Reply). over (words_of a) reply) said
            ∙ with_room_lem (le-leb 4 (length reply) le) _ reply;
        output = left ∙ with_room_lem (le-leb 4 (length reply) le) _ out;
      }

module _ (f : Formula) (clauses : ClauseSlices) (slots : SlotSlices) (filled : ℕ) (out reply : List ℕ) where
  pub tells_nothing : length reply < 4
      → WriteReturns f clauses slots filled out reply 0 out reply
  tells_nothing lt = tells_none (write_reply f clauses slots filled out) (write_output f clauses slots filled out) out reply
      lt

  pub tells_writing : (g : Formula) (r : Result ℕ Refusal) (out₁ reply₁ : List ℕ) → 4 ≤ length reply → g ≡ f
      → Wrote g clauses slots filled out r out₁
      → reply₁ ≡ over (words_of (reply_of_written r)) reply
      → WriteReturns f clauses slots filled out reply 1 out₁ reply₁
  tells_writing g r out₁ reply₁ le same wrote words =
      let w = wrote_as same wrote in
      tells_all (write_reply f clauses slots filled out) (write_output f clauses slots filled out) out reply
      (reply_of_written r) out₁ reply₁ le w.reply w.output words
