-- With room for the answer's words the exported search tells what the search answers; without, it tells nothing.
-- Assumes nothing.
use Rattle.std.specs.Prelude.{List, ◌≡◌, ℕ, ◌≤◌, ◌<◌, length}
use Rattle.std.proofs.Common.{ap, ◌∙◌, subst, le-leb}
use Rattle.std.proofs.lemmas.Bool.{lt-leb}
use Rattle.point_slices.specs.Slices.{ClauseSlices, SlotSlices}
use Rattle.math.specs.Lists.{over}
use Rattle.formula.specs.declared.Formula.{Formula}
use Rattle.formula.specs.Reply.{Reply}
use Rattle.search.specs.declared.Found.{Found}
use Rattle.search.specs.Contract.{reply_of_found, Searched}
use Rattle.export_words.specs.Searching.{SearchReturns}
use Rattle.export_words.specs.Laws.RoomLaws.{with_room_lem, without_room}
use Rattle.export_words.specs.Words.{words_of}

-- the same formula is searched the same way
pub searched_as : {f g : Formula} {clauses : ClauseSlices} {slots slots₁ : SlotSlices} {r : Found} → g ≡ f
    → Searched g clauses slots r slots₁ → Searched f clauses slots r slots₁
searched_as {f} {g} {clauses} {slots} {slots₁} {r} same searched =
    subst (λ h. Searched h clauses slots r slots₁) same searched

module _ (f : Formula) (clauses : ClauseSlices) (slots : SlotSlices) (reply : List ℕ) where
  pub tells_nothing : length reply < 4 → SearchReturns f clauses slots reply 0 slots reply
  tells_nothing lt =
      record {
        returned = without_room (lt-leb 4 (length reply) lt) 1 0;
        reply = without_room (lt-leb 4 (length reply) lt) _ reply;
        slots = without_room (lt-leb 4 (length reply) lt) _ slots;
      }

  pub tells_search : (g : Formula) (r : Found) (slots₁ : SlotSlices) (reply₁ : List ℕ) → 4 ≤ length reply → g ≡ f
      → Searched g clauses slots r slots₁ → reply₁ ≡ over (words_of (reply_of_found r)) reply
      → SearchReturns f clauses slots reply 1 slots₁ reply₁
  tells_search g r slots₁ reply₁ le same searched words =
      let s = searched_as same searched in
      record {
        returned = with_room_lem (le-leb 4 (length reply) le) 1 0;
        reply = words ∙ ap (λ (a : Reply). over (words_of a) reply) s.reply
            ∙ with_room_lem (le-leb 4 (length reply) le) _ reply;
        slots = s.slots ∙ with_room_lem (le-leb 4 (length reply) le) _ slots;
      }
