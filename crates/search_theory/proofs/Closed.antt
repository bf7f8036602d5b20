-- What the search leaves in the slots where it answers 'unsatisfiable': a stable set, of which a certificate is made.
-- Assumes nothing.
use Rattle.std.specs.Prelude.{List, ℕ, ◌≤◌}
use Rattle.std.proofs.Common.{append-nil, subst}
use Rattle.math.specs.Lists.{◌∈◌}
use Rattle.formula.specs.Problem.{Problem}
use Rattle.formula.specs.Reply.{unsatisfiable}
use Rattle.search_theory.specs.Laws.Promised.{Settled, ClosedSlots}
use Rattle.search_theory.proofs.Ends.{search_ends}
use Rattle.search_theory.specs.Laws.InvariantLaws.{covered_by}
use Rattle.search_theory.specs.Laws.Invariants.{Ready, Processed, Filled, Ended, exhausted}
use Rattle.search_theory.specs.Walk.{Slot, start, Walks}

module _ (pb : Problem) (capacity : ℕ) where
  settled : {l : List Slot} {t : Slot} → Processed pb l t → Settled pb l t
  settled h = record { moved = h.moved; flips = λ v m. covered_by pb.permutations (h.flips v m) }

  -- no slot waits: all are processed
  closed : {p : List Slot} → Filled pb capacity p → ((t : Slot) → t ∈ p → Processed pb p t) → ClosedSlots pb p
  closed f h = record {
    nonempty = f.nonempty;
    below = f.below;
    distinct = f.distinct;
    settled = λ t m. settled
        (h t m);
  }

  closed_ended : {filled : ℕ} {l : List Slot} → Ended pb capacity (unsatisfiable filled) l → ClosedSlots pb l
  closed_ended (exhausted {p = p} i) =
      closed (subst (Filled pb capacity) (append-nil p) i.filled)
      (λ t m. subst (λ l. Processed pb l t) (append-nil p) (i.processed t m))

  pub refuted_closed : Ready pb → 1 ≤ capacity → {filled : ℕ} {l : List Slot}
      → Walks pb capacity (start pb) (unsatisfiable filled) l → ClosedSlots pb l
  refuted_closed ready room t = closed_ended (search_ends pb capacity ready room t)
