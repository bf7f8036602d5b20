-- With room for the answer's words the exported checker and readers tell what is answered; without, they tell nothing.
-- Assumes nothing.
use Rattle.std.specs.Prelude.{Option as Found, Result, Bool, false, ◌&&◌, List, ◌≡◌, refl, ℕ, ◌≤◌, ◌<◌, leb, length}
use Rattle.std.proofs.Math.Option.{Option}
use Rattle.std.proofs.Common.{ap, ◌∙◌, subst, le-leb}
use Rattle.std.proofs.lemmas.Bool.{lt-leb}
use Rattle.point_slices.specs.Slices.{ClauseSlices}
use Rattle.math.specs.Lists.{over}
use Rattle.formula.specs.declared.Formula.{Formula}
use Rattle.formula.specs.Reply.{Reply}
use Rattle.certificate.specs.declared.Contents.{Contents}
use Rattle.certificate.specs.Certificate.{FileContents}
use Rattle.certificate.specs.Contract.{handed_out, entry_of, OpenedAs, reply_of_opened}
use Rattle.formula.specs.declared.reasons.Refusal.{Refusal}
use Rattle.checker.specs.Contract.{reply_of_verdict, CheckedAs}
use Rattle.export_words.specs.Laws.RoomLaws.{with_room_lem, without_room}
use Rattle.export_words.specs.Words.{words_of, has_room}
use Rattle.export_words.specs.Replies.{entry_words, contents_words}
use Rattle.exports.specs.Checking.{CheckReturns, has_contents_room, OpenReturns, EntryReturns}

-- ---- the checker

module _ (f : Formula) (clauses : ClauseSlices) (file reply : List ℕ) where
  pub tells_no_verdict : length reply < 4 → CheckReturns f clauses file reply 0 reply
  tells_no_verdict lt = record {
    returned = without_room (lt-leb 4 (length reply) lt) 1 0;
    reply = without_room
        (lt-leb 4 (length reply) lt) _ reply;
  }

  pub tells_verdict : (g : Formula) (r : Result Unit Refusal) (reply₁ : List ℕ) → 4 ≤ length reply → g ≡ f
      → CheckedAs g clauses file r
      → reply₁ ≡ over (words_of (reply_of_verdict r)) reply
      → CheckReturns f clauses file reply 1 reply₁
  tells_verdict g r reply₁ le same checked words =
      let v = subst (λ h. CheckedAs h clauses file r) same checked in
      record {
        returned = with_room_lem (le-leb 4 (length reply) le) 1 0;
        reply = words ∙ ap (λ (a : Reply). over (words_of a) reply) v.reply
            ∙ with_room_lem (le-leb 4 (length reply) le) _ reply;
      }

-- ---- the contents of a file

module _ (file contents reply : List ℕ) where
  rooms : {a b : Bool} → has_room reply ≡ a → leb 8 (length contents) ≡ b → has_contents_room contents reply ≡ (a && b)
  rooms p q = rw (p, q)

  nothing : has_contents_room contents reply ≡ false → OpenReturns file contents reply 0 contents reply
  nothing e = record {
    returned = without_room e 1 0;
    reply = without_room e _ reply;
    contents = without_room e _
        contents;
  }

  pub without_reply : length reply < 4 → OpenReturns file contents reply 0 contents reply
  without_reply lt = nothing (rooms (lt-leb 4 (length reply) lt) refl)

  pub without_contents : 4 ≤ length reply → length contents < 8 → OpenReturns file contents reply 0 contents reply
  without_contents le lt = nothing (rooms (le-leb 4 (length reply) le) (lt-leb 8 (length contents) lt))

  pub tells_opening : (r : Result Contents Refusal) (contents₁ reply₁ : List ℕ) → 4 ≤ length reply → 8 ≤ length contents
      → OpenedAs file r
      → contents₁ ≡ over (contents_words (handed_out r)) contents
      → reply₁ ≡ over (words_of (reply_of_opened r)) reply
      → OpenReturns file contents reply 1 contents₁ reply₁
  tells_opening r contents₁ reply₁ le le' s put-contents put-reply =
      let e = rooms (le-leb 4 (length reply) le) (le-leb 8 (length contents) le') in
      record {
        returned = with_room_lem e 1 0;
        reply = put-reply ∙ ap (λ (a : Reply). over (words_of a) reply) s.reply ∙ with_room_lem e _ reply;
        contents = put-contents ∙ ap (λ (c : Option FileContents). over (contents_words c) contents) s.contents
            ∙ with_room_lem e _ contents;
      }

-- ---- one entry of a body

module _ (entry : Option ℕ) (reply : List ℕ) where
  pub tells_no_entry : length reply < 2 → EntryReturns entry reply 0 reply
  tells_no_entry lt = record {
    returned = without_room (lt-leb 2 (length reply) lt) 1 0;
    reply = without_room
        (lt-leb 2 (length reply) lt) _ reply;
  }

  pub tells_entry : (r : Found ℕ) (reply₁ : List ℕ) → 2 ≤ length reply → entry_of r ≡ entry
      → reply₁ ≡ over (entry_words (entry_of r)) reply → EntryReturns entry reply 1 reply₁
  tells_entry r reply₁ le e words =
      record {
        returned = with_room_lem (le-leb 2 (length reply) le) 1 0;
        reply = words ∙ ap (λ (v : Option ℕ). over (entry_words v) reply) e
            ∙ with_room_lem (le-leb 2 (length reply) le) _ reply;
      }
