-- Document 01, 'Walk' and rows 10 to 13 of 'When the desk says no': the search's reply and what it leaves in the three
-- slot slices. Assumes nothing.
use Rattle.std.specs.Prelude.{List, [], ◌∷◌, ℕ, zero, suc}
use Rattle.point_slices.specs.Slices.{ClauseSlices, SlotSlices}
use Rattle.formula.specs.declared.Formula.{Formula}
use Rattle.formula.specs.Limits.{capacity}
use Rattle.formula.specs.Problem.{problem_of}
use Rattle.formula.specs.Refusals.{formula_fault, permutation_fault, symmetry_fault}
use Rattle.formula.specs.Reply.{Reply, Fault, no_fault, fault, first, unless, unless_kept}
use Rattle.search_theory.specs.Filled.{filled_with}
use Rattle.search_theory.specs.Walk.{Slot, walked}

-- R13: "no slot lent | 13 | 0"
unfoldable pub slot_fault : ℕ → Fault
slot_fault zero = fault 13 0
slot_fault (suc k) = no_fault

-- N4: "Builder: 10 to 13."
unfoldable pub search_fault : Formula → ClauseSlices → ℕ → Fault
unfolding problem_of formula_fault permutation_fault symmetry_fault slot_fault first
search_fault f clauses lent =
    let pb = problem_of f clauses in
    let row11 = permutation_fault pb.variables pb.permutations in
    let row12 = symmetry_fault pb.clauses pb.permutations in
    first (formula_fault f clauses ∷ row11 ∷ row12 ∷ slot_fault lent ∷ [])

-- the search's answer with that many slots lent
unfoldable pub search_reply : Formula → ClauseSlices → ℕ → Reply
unfolding search_fault unless walked
search_reply f clauses lent = let r = (walked (problem_of f clauses) lent).reply in unless (search_fault f clauses lent) r

-- the slots that the search fills
unfoldable pub search_slots : Formula → ClauseSlices → ℕ → List Slot
unfolding walked
search_slots f clauses lent = (walked (problem_of f clauses) lent).slots

-- W10: "Slots beyond those filled are unchanged."; N1: "Every row leaves all lent slices unchanged"
unfoldable pub search_slices : Formula → ClauseSlices → SlotSlices → SlotSlices
unfolding search_fault search_slots unless_kept capacity
search_slices f clauses slots =
    let lent = capacity slots in
    let new = filled_with (search_slots f clauses lent) slots in unless_kept (search_fault f clauses lent) new slots
