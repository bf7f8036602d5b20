-- With room for the answer the exported reader tells what the reader answers; without, it tells nothing. What is read
-- without permutations has no images. Assumes nothing.
use Rattle.std.specs.Prelude.{Result, Ok, Err, IfOk, Bool, false, ◌&&◌, List, ◌≡◌, refl, ℕ, ◌*◌, ◌-◌, ◌≤◌, ◌<◌, leb, length, drop, replicate}
use Rattle.std.proofs.Common.{sym, ap, ap₂, ◌∙◌, subst, zero-mul, le-leb}
use Rattle.std.proofs.lemmas.Bool.{lt-leb}
use Rattle.formula.specs.Limits.{max_images}
use Rattle.point_slices.specs.Slices.{ClauseSlices}
use Rattle.math.specs.Lists.{over}
use Rattle.formula.specs.declared.Formula.{Formula}
use Rattle.formula.specs.declared.Numbers.{Numbers}
use Rattle.formula.specs.Reply.{Reply}
use Rattle.dimacs_format.specs.Laws.Handed.{Handed, accepted_handed}
use Rattle.formula.specs.declared.reasons.Refusal.{Refusal}
use Rattle.dimacs_lines.specs.declared.Parsed.{Parsed}
use Rattle.dimacs_lines.specs.Laws.ParsedAs.{parsed_in}
use Rattle.dimacs_lines.specs.Reply.{reply_of_parse}
use Rattle.dimacs.specs.Contract.{Read}
use Rattle.exports.specs.Reading.{has_formula_room, ReadReturns}
use Rattle.export_words.specs.Laws.RoomLaws.{with_room_lem, without_room}
use Rattle.export_words.specs.Words.{words_of, has_room}
use Rattle.export_formulas.specs.Laws.FormulaLaws.{Unused}
use Rattle.export_formulas.specs.Formulas.{numbers_of, put_if_parsed}

module _ (text : List ℕ) (clauses : ClauseSlices) (numbers images reply : List ℕ) where
  rooms : {a b c : Bool} → has_room reply ≡ a → has_room numbers ≡ b → leb max_images (length images) ≡ c
      → has_formula_room numbers images reply ≡ (a && b && c)
  rooms p q r = rw (p, q, r)

  nothing : has_formula_room numbers images reply ≡ false
      → ReadReturns text clauses numbers images reply 0 clauses numbers images reply
  nothing e =
      record {
        returned = without_room e 1 0;
        reply = without_room e _ reply;
        numbers = without_room e _ numbers;
        images = without_room e _ images;
        clauses = without_room e _ clauses;
      }

  pub without_reply : length reply < 4
      → ReadReturns text clauses numbers images reply 0 clauses numbers images reply
  without_reply lt = nothing (rooms (lt-leb 4 (length reply) lt) refl refl)

  pub without_numbers : 4 ≤ length reply → length numbers < 4
      → ReadReturns text clauses numbers images reply 0 clauses numbers images reply
  without_numbers le lt = nothing (rooms (le-leb 4 (length reply) le) (lt-leb 4 (length numbers) lt) refl)

  pub without_images : 4 ≤ length reply → 4 ≤ length numbers → length images < max_images
      → ReadReturns text clauses numbers images reply 0 clauses numbers images reply
  without_images le le' lt = nothing (rooms (le-leb 4 (length reply) le) (le-leb 4 (length numbers) le')
      (lt-leb max_images (length images) lt))

  pub tells_reading : (r : Parsed) (clauses₁ : ClauseSlices) (numbers₁ images₁ reply₁ : List ℕ) → 4 ≤ length reply
      → 4 ≤ length numbers → max_images ≤ length images
      → Read text clauses r clauses₁
      → numbers₁ ≡ put_if_parsed (reply_of_parse r.answer) (numbers_of r.formula) numbers
      → images₁ ≡ put_if_parsed (reply_of_parse r.answer) r.formula.images images
      → reply₁ ≡ over (words_of (reply_of_parse r.answer)) reply
      → ReadReturns text clauses numbers images reply 1 clauses₁ numbers₁ images₁ reply₁
  tells_reading r clauses₁ numbers₁ images₁ reply₁ le le' le'' s put-numbers put-images put-reply =
      let e = rooms (le-leb 4 (length reply) le) (le-leb 4 (length numbers) le') (le-leb max_images (length images) le'')
      in
      record {
        returned = with_room_lem e 1 0;
        reply = put-reply ∙ ap (λ (a : Reply). over (words_of a) reply) s.reply ∙ with_room_lem e _ reply;
        numbers = put-numbers
            ∙ ap₂ (λ (a : Reply) (f : Formula). put_if_parsed a (numbers_of f) numbers) s.reply s.formula
            ∙ with_room_lem e _ numbers;
        images = put-images
            ∙ ap₂ (λ (a : Reply) (f : Formula). put_if_parsed a f.images images) s.reply s.formula
            ∙ with_room_lem e _ images;
        clauses = s.clauses ∙ with_room_lem e _ clauses;
      }

-- what is handed on without permutations has no images
none_handed : {clauses : ClauseSlices} (f : Formula) → Handed f clauses → Unused f.permutations f.images
none_handed f h none =
    subst (λ (k : ℕ). drop k f.images ≡ replicate (max_images - k) 0)
    (ap (λ (k : ℕ). k * f.variables) none ∙ zero-mul f.variables)
    h.unused

-- nor has what is read
pub none_read : {text : List ℕ} {clauses clauses₁ : ClauseSlices} (r : Result Numbers Refusal) (images : List ℕ)
    → Read text clauses (parsed_in r images) clauses₁ → IfOk r (λ f. Unused f.permutations images)
none_read {text} {clauses} (Ok f) images s =
    subst (λ (g : Formula). Unused g.permutations g.images) (sym s.formula)
    (none_handed _ (accepted_handed text clauses (sym s.reply)))
none_read (Err r) images s = tt
