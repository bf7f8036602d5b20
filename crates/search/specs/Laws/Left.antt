-- The three slices as a search leaves them whose reply is no refusal: the slots that it fills in front, and behind them
-- what was there. Assumes nothing.
use Rattle.std.specs.Prelude.{List, map, ◌≡◌, ℕ, length, take, drop}
use Rattle.std.proofs.Common.{sym, ap, ◌∙◌}
use Rattle.std.proofs.lemmas.List.{length-map}
use Rattle.math.specs.Lists.{over}
use Rattle.math.specs.Laws.PartLaws.{over-front, over-rest}
use Rattle.point_slices.specs.Slices.{ClauseSlices, SlotSlices}
use Rattle.formula.specs.declared.Formula.{Formula}
use Rattle.formula.specs.Limits.{capacity}
use Rattle.formula.specs.Problem.{problem_of}
use Rattle.formula.specs.Reply.{Reply, refused}
use Rattle.search_theory.specs.Filled.{filled_with}
use Rattle.search_theory.specs.Laws.Promised.{reported}
use Rattle.search_theory.specs.Walk.{Slot}
use Rattle.search.specs.Laws.Accepted.{no_faults, answered}
use Rattle.search.specs.Laws.Theorems.{slots-reported}
use Rattle.search.specs.Search.{search_reply, search_slots, search_slices}

-- the slots l stand in front, one of their parts in each slice; "Slots beyond those filled are unchanged."
pub record Left (part : Slot → ℕ) (l : List Slot) (filled : ℕ) (old new : List ℕ) : Type 0 where
  pub front : take filled new ≡ map part l
  pub behind : drop filled new ≡ drop filled old

left_of : (part : Slot → ℕ) (l : List Slot) (filled : ℕ) (old new : List ℕ) → filled ≡ length l
    → new ≡ over (map part l) old
    → Left part l filled old new
left_of part l filled old new e h =
    let n : length (map part l) ≡ filled = length-map l part ∙ sym e in
    record {
      front = ap (take filled) h ∙ over-front filled (map part l) old n;
      behind = ap (drop filled) h
          ∙ over-rest filled (map part l) old n;
    }

module _ (f : Formula) (clauses : ClauseSlices) (slots : SlotSlices) (r : Reply)
    (reply : search_reply f clauses (capacity slots) ≡ r) (ok : (code place : ℕ) → r ≡ refused code place → ⊥) where
  -- the slots that the search fills, and the slices as it leaves them
  abbrev slots_of : List Slot
  slots_of = search_slots f clauses (capacity slots)

  abbrev after : SlotSlices
  after = search_slices f clauses slots

  pub search_left : search_slices f clauses slots ≡ filled_with (search_slots f clauses (capacity slots)) slots
  unfolding search_slices
  search_left = rw (no_faults f clauses (capacity slots) r reply ok)

  -- the number reported is that of the slots filled
  pub search_reported : reported r ≡ length (search_slots f clauses (capacity slots))
  search_reported =
      let a = answered f clauses (capacity slots) r reply ok in
      slots-reported (problem_of f clauses) (capacity slots) a.ready a.room a.walks

  -- and each slice holds its part of them
  pub search_points_left : Left (λ (s : Slot). s.point) slots_of (reported r) slots.points after.points
  search_points_left = left_of (λ (s : Slot). s.point) slots_of (reported r) slots.points after.points
      search_reported (ap (λ (m : SlotSlices). m.points) search_left)

  pub search_falsified_left : Left (λ (s : Slot). s.falsified) slots_of (reported r) slots.falsified
      after.falsified
  search_falsified_left = left_of (λ (s : Slot). s.falsified) slots_of (reported r) slots.falsified
      after.falsified search_reported (ap (λ (m : SlotSlices). m.falsified) search_left)

  pub search_depths_left : Left (λ (s : Slot). s.depth) slots_of (reported r) slots.depths after.depths
  search_depths_left = left_of (λ (s : Slot). s.depth) slots_of (reported r) slots.depths after.depths
      search_reported (ap (λ (m : SlotSlices). m.depths) search_left)
