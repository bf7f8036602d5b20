-- What is promised of the search, a line each: first of the slots, for any problem and however it ends; then of the
-- builder's reply to a formula by value. Assumes nothing.
use Rattle.std.specs.Prelude.{List, [], ◌≡◌, refl, ℕ, ◌≤◌, ◌<◌, ◌^◌, length}
use Rattle.std.proofs.Common.{le_trans, lt_of_le_of_lt, lt_of_lt_of_le}
use Rattle.math.specs.Lists.{◌∈◌, Distinct}
use Rattle.points.specs.Points.{distance}
use Rattle.point_slices.specs.Slices.{ClauseSlices, SlotSlices}
use Rattle.formula.specs.declared.Formula.{Formula}
use Rattle.formula.specs.Laws.ReplyLaws.{satisfiable-not_refused, unsatisfiable_not_refused, unknown_not_refused}
use Rattle.formula.specs.Limits.{max_slots, capacity}
use Rattle.formula.specs.Laws.AlikeLaws.{same_problem}
use Rattle.formula.specs.Problem.{Problem, problem_of, Unsatisfiable}
use Rattle.formula.specs.Reply.{Reply, refused, satisfiable, unsatisfiable, unknown}
use Rattle.search.specs.Laws.Accepted.{answered, lent_enough}
use Rattle.search_theory.specs.Laws.Promised.{LowerBound, Nearest, HandedBack, SmallestFilled, SmallestNearest}
use Rattle.search_theory.specs.Laws.Promised.{ClosedSlots, reported}
use Rattle.search.specs.Laws.WalkAnswers.{WalkAnswers}
use Rattle.formula.specs.Laws.Alike.{Alike}
use Rattle.search_theory.proofs.Bound.{unknown_bound}
use Rattle.search.specs.Search.{search_reply, search_slots, search_slices}
use Rattle.search_theory.proofs.Closed.{refuted_closed}
use Rattle.search_theory.proofs.Complete.{refuted, unsatisfiable_exactly}
use Rattle.search_theory.proofs.Ends.{search_ends, ended-filled, ended_family, walks_reported}
use Rattle.search.specs.Laws.Inputs.{same_reply, same_slots, same_slices}
use Rattle.search_theory.specs.Laws.Invariants.{Ready, slot_at, Parent, Filled}
use Rattle.search_theory.proofs.Nearest.{found_nearest, found_slot}
use Rattle.search_theory.proofs.Room.{never_unknown}
use Rattle.search_theory.proofs.Smallest.{found_smallest-filled, found_smallest}
use Rattle.search_theory.specs.Walk.{Slot, points_in, start, Walks}

-- ---- the slots l that a search leaves, whatever it answers

module _ (pb : Problem) (capacity : ℕ) (ready : Ready pb) (room : 1 ≤ capacity) {r : Reply} {l : List Slot}
    (t : Walks pb capacity (start pb) r l) where
  invariants : Filled pb capacity l
  invariants = ended-filled pb capacity (search_ends pb capacity ready room t)

  -- "with slots filled": the number reported is that of the slots, at least one and at most as many as are lent
  pub slots-reported : reported r ≡ length l
  slots-reported = walks_reported pb capacity t

  pub slots-some : 1 ≤ length l
  slots-some = invariants.nonempty

  pub slots_filled : length l ≤ capacity
  slots_filled = invariants.room

  -- the first is the target's; "Slot 1 gets the wish"
  pub first_point : (slot_at l 0).point ≡ pb.target
  first_point = invariants.begins

  pub points_below : (u : Slot) → u ∈ l → u.point < 2 ^ pb.variables
  points_below = invariants.below

  pub points_distinct : Distinct (points_in l)
  points_distinct = invariants.distinct

  -- a slot's point differs from the target in at most as many variables as its depth says
  pub point_near : (u : Slot) → u ∈ l → distance pb.variables u.point pb.target ≤ u.depth
  point_near = invariants.near

  pub depths_ascending : (i j : ℕ) → i ≤ j → j < length l → (slot_at l i).depth ≤ (slot_at l j).depth
  depths_ascending = invariants.ascending

  -- W11: "Depth may exceed n." (Examples has such a search): it is at most the slot's index, from 0
  pub depth_bound : (i : ℕ) → i < length l → (slot_at l i).depth ≤ i
  depth_bound = invariants.depth_index

  -- so it is below the limit of slots, which the number lent respects (lent_few of Accepted)
  pub depth_small : capacity ≤ max_slots → (i : ℕ) → i < length l → (slot_at l i).depth < max_slots
  depth_small few i lt = lt_of_le_of_lt (depth_bound i lt) (lt_of_lt_of_le lt (le_trans slots_filled few))

  -- each slot but the first was filled from an earlier one: by a flip of a variable of that one's clause, one deeper
  pub parents : (i : ℕ) → i < length l → 1 ≤ i → (j : ℕ) × (j < i) × Parent pb (slot_at l j) (slot_at l i)
  parents i lt one = let c = (ended_family pb capacity (search_ends pb capacity ready room t)).1 i lt one in
      (c.index, c.earlier, c.parent)

-- ---- the builder's reply

module _ (f : Formula) (clauses : ClauseSlices) (lent : ℕ) where
  abbrev pb : Problem
  pb = problem_of f clauses

  abbrev slots : List Slot
  slots = search_slots f clauses lent

  satisfiable_answered : (x d filled : ℕ) → search_reply f clauses lent ≡ satisfiable x d filled
      → WalkAnswers f clauses lent (satisfiable x d filled)
  satisfiable_answered x d filled e = answered f clauses lent (satisfiable x d filled) e
      satisfiable-not_refused

  unsatisfiable_answered : (filled : ℕ) → search_reply f clauses lent ≡ unsatisfiable filled
      → WalkAnswers f clauses lent (unsatisfiable filled)
  unsatisfiable_answered filled e = answered f clauses lent (unsatisfiable filled) e
      unsatisfiable_not_refused

  unknown_answered : (b filled : ℕ) → search_reply f clauses lent ≡ unknown b filled
      → WalkAnswers f clauses lent (unknown b filled)
  unknown_answered b filled e = answered f clauses lent (unknown b filled) e
      unknown_not_refused

  -- D3.1: "A choice handed back meets the rules, and every other choice that meets them differs from the client's wish
  -- in at least as many names."
  -- D3.2: "The reported changes are the number of names in which the one handed back differs."
  pub search_nearest : (x d filled : ℕ) → search_reply f clauses lent ≡ satisfiable x d filled
      → Nearest (problem_of f clauses) x d
  search_nearest x d filled e = let a = satisfiable_answered x d filled e in found_nearest pb lent a.ready a.room
      a.walks

  -- the depth of its slot equals its distance
  pub search_slot : (x d filled : ℕ) → search_reply f clauses lent ≡ satisfiable x d filled
      → HandedBack (search_slots f clauses lent) x d
  search_slot x d filled e = let a = satisfiable_answered x d filled e in found_slot pb lent a.ready a.room
      a.walks

  -- Q03.2: "Among the nearest choices in the slots the one smallest as a number is now handed back."
  pub search_smallest-filled : (x d filled : ℕ) → search_reply f clauses lent ≡ satisfiable x d filled
      → SmallestFilled (problem_of f clauses) (search_slots f clauses lent) x d
  search_smallest-filled x d filled e = let a = satisfiable_answered x d filled e in found_smallest-filled pb lent
      a.ready a.room a.walks

  -- Q03.6: "Without exchanges a choice handed back is the smallest of all nearest choices on the whole sheet."
  pub search_smallest : (problem_of f clauses).permutations ≡ [] → (x d filled : ℕ)
      → search_reply f clauses lent ≡ satisfiable x d filled → SmallestNearest (problem_of f clauses) x d
  search_smallest plain x d filled e = let a = satisfiable_answered x d filled e in found_smallest pb lent a.ready
      plain a.room a.walks

  -- D3.3: "Unless 'no room' is said, 'cannot be met' is said exactly when none of the 2^n choices meets the rules."
  pub search_exactly : (r : Reply) → search_reply f clauses lent ≡ r
      → ((code place : ℕ) → r ≡ refused code place → ⊥) → ((b filled : ℕ) → r ≡ unknown b filled → ⊥)
      → ((filled : ℕ) → r ≡ unsatisfiable filled → Unsatisfiable (problem_of f clauses))
      × (Unsatisfiable (problem_of f clauses)
      → r ≡ unsatisfiable (length (search_slots f clauses lent)))
  search_exactly r e ok known =
      let a = answered f clauses lent r e ok in unsatisfiable_exactly pb lent a.ready a.room a.walks
      known

  pub search_refutes : (filled : ℕ) → search_reply f clauses lent ≡ unsatisfiable filled
      → Unsatisfiable (problem_of f clauses)
  search_refutes filled e = let a = unsatisfiable_answered filled e in refuted pb lent a.ready a.room a.walks

  -- the slots are then a stable set, and as many as reported
  pub search_closed : (filled : ℕ) → search_reply f clauses lent ≡ unsatisfiable filled
      → ClosedSlots (problem_of f clauses) (search_slots f clauses lent)
      × (filled ≡ length (search_slots f clauses lent))
  search_closed filled e =
      let a = unsatisfiable_answered filled e in (
        refuted_closed pb lent a.ready a.room a.walks,
        slots-reported pb
            lent a.ready a.room a.walks,
      )

  -- D3.7: "'No room' carries a number d, and every choice that meets the rules differs from the wish in at least d
  -- names."
  pub search_bound : (b filled : ℕ) → search_reply f clauses lent ≡ unknown b filled
      → LowerBound (problem_of f clauses) b
  search_bound b filled e = let a = unknown_answered b filled e in unknown_bound pb lent a.ready a.room a.walks

  -- with a slot for each of the 2 ^ n points it is never said
  pub search_room : 2 ^ (problem_of f clauses).variables ≤ lent → (b filled : ℕ)
      → search_reply f clauses lent ≡ unknown b filled → ⊥
  search_room large b filled e = let a = unknown_answered b filled e in never_unknown pb lent a.ready a.room large
      a.walks b filled refl

-- D3.8: "Where 2^n is at most 65,536 and at least 2^n slots are lent, it is never said.": in each of the three lent
-- slices
pub search_room_lent : (f : Formula) (clauses : ClauseSlices) (slots : SlotSlices)
    → 2 ^ (problem_of f clauses).variables ≤ max_slots
    → 2 ^ (problem_of f clauses).variables ≤ length slots.points
    → 2 ^ (problem_of f clauses).variables ≤ length slots.falsified
    → 2 ^ (problem_of f clauses).variables ≤ length slots.depths → (b filled : ℕ)
    → search_reply f clauses (capacity slots) ≡ unknown b filled → ⊥
search_room_lent f clauses slots few a b c =
    search_room f clauses (capacity slots) (lent_enough (2 ^ (problem_of f clauses).variables) slots few a b c)

-- "the reader makes unused bytes 0 and nothing else reads them": the reply and the slots depend on n, C, the target and
-- the listed permutations alone
module _ (f g : Formula) (clauses : ClauseSlices) (a : Alike f g) where
  pub search_same_reply : (lent : ℕ) → search_reply f clauses lent ≡ search_reply g clauses lent
  search_same_reply lent = same_reply f g clauses (same_problem f g clauses a) lent

  pub search_same_slots : (lent : ℕ) → search_slots f clauses lent ≡ search_slots g clauses lent
  search_same_slots lent = same_slots f g clauses (same_problem f g clauses a) lent

  pub search_same_slices : (slots : SlotSlices) → search_slices f clauses slots ≡ search_slices g clauses slots
  search_same_slices = same_slices f g clauses (same_problem f g clauses a)
