-- The exported function returns how long the program's text is, and puts it where it fits. Assumes nothing.
use Rattle.std.specs.Prelude.{List, ◌≡◌, ℕ, ◌≤◌, ◌<◌, length, take}
use Rattle.std.proofs.Common.{ap, ◌∙◌, subst, le-leb}
use Rattle.std.proofs.lemmas.Bool.{lt-leb}
use Rattle.math.specs.Lists.{over}
use Rattle.program_text.specs.Laws.Putting.{Printed}
use Rattle.program_text.specs.Laws.ReportLaws.{put_stands}
use Rattle.program.specs.Program.{printed}
use Rattle.exports.specs.Printing.{NearestReturns}
use Rattle.export_words.specs.Laws.RoomLaws.{with_room_lem, without_room}

module _ (text out array₀ : List ℕ) (r : ℕ) (array₁ : List ℕ) (p : Printed (printed text) array₀ r array₁) where
  -- a text that does not fit is not put
  pub keeps_output : length out < r → NearestReturns text out r out
  keeps_output lt =
      record {
        returned = p.counted;
        output = without_room
            (lt-leb (length (printed text)) (length out) (subst (λ (k : ℕ). length out < k) p.counted lt)) _ out;
      }

  -- a text that fits is
  pub puts_text : r ≤ length out → (out₁ : List ℕ) → out₁ ≡ over (take r array₁) out → NearestReturns text out r out₁
  puts_text le out₁ put =
      record {
        returned = p.counted;
        output = put ∙ ap (λ (l : List ℕ). over l out) (put_stands (printed text) array₀ r array₁ p) ∙ with_room_lem
            (le-leb (length (printed text)) (length out) (subst (λ (k : ℕ). k ≤ length out) p.counted le)) _ out;
      }
