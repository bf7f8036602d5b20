-- With room for the answer's words the exported solver tells what the solver answers; without, it tells nothing.
-- Assumes nothing.
use Rattle.std.specs.Prelude.{List, ◌≡◌, refl, ℕ, ◌≤◌, ◌<◌, length}
use Rattle.std.proofs.Common.{arith, le-leb}
use Rattle.std.proofs.lemmas.Bool.{lt-leb}
use Rattle.point_slices.specs.Slices.{SlotSlices}
use Rattle.math.specs.Lists.{over}
use Rattle.claims.specs.Claim.{from_text}
use Rattle.solver.specs.declared.Settled.{Settled}
use Rattle.solver.specs.Solver.{blank}
use Rattle.solver.specs.Contract.{Solved}
use Rattle.export_words.specs.Laws.RoomLaws.{with_room_lem, without_room}
use Rattle.export_words.specs.Replies.{settled_words}
use Rattle.exports.specs.Solving.{SolveReturns}

module _ (text : List ℕ) (slots : SlotSlices) (out reply : List ℕ) where
  pub tells_nothing : length reply < 4 → SolveReturns text slots out reply 0 slots out reply
  tells_nothing lt =
      record {
        returned = without_room (lt-leb 4 (length reply) lt) 1 0;
        answered = λ le. absurd (let z : ⊥ = omega arith in z);
        unchanged = λ _. (refl, refl, refl);
      }

  pub tells_solution : (r : Settled) (slots₁ : SlotSlices) (out₁ reply₁ : List ℕ) → 4 ≤ length reply
      → Solved (from_text text blank) slots out r slots₁ out₁ → reply₁ ≡ over (settled_words r) reply
      → SolveReturns text slots out reply 1 slots₁ out₁ reply₁
  tells_solution r slots₁ out₁ reply₁ le s w =
      record {
        returned = with_room_lem (le-leb 4 (length reply) le) 1 0;
        answered = λ _. record { settled = r; solved = s; words = w };
        unchanged = λ lt. absurd (let z : ⊥ = omega arith in z);
      }
