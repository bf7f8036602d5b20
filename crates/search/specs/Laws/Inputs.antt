-- What of a formula by value the builder looks at: the problem that it makes, so of the images' bytes only those of its
-- permutations. Assumes nothing.
use Rattle.std.specs.Prelude.{cond, ◌&&◌, [], ◌∷◌, ◌≡◌, length}
use Rattle.std.proofs.Math.Path.{ap, ap₂}
use Prim.Native.Nat.{ℕ, min, ◌^◌}
use Rattle.std.proofs.Math.Dec.{ltb}
use Rattle.point_slices.specs.Slices.{ClauseSlices, SlotSlices}
use Rattle.formula.specs.declared.Formula.{Formula}
use Rattle.formula.specs.Limits.{max_slots, capacity}
use Rattle.formula.specs.Problem.{Problem, problem_of}
use Rattle.formula.specs.Refusals.{fits, permutation_fault, symmetry_fault}
use Rattle.formula.specs.Reply.{no_fault, fault, first, unless, unless_kept}
use Rattle.search.specs.Search.{slot_fault, search_fault, search_reply, search_slots, search_slices}
use Rattle.search_theory.specs.Filled.{filled_with}
use Rattle.search_theory.specs.Walk.{walked}

module _ (f g : Formula) (clauses : ClauseSlices) (same : problem_of f clauses ≡ problem_of g clauses) where
  pub same_fault : (lent : ℕ) → search_fault f clauses lent ≡ search_fault g clauses lent
  unfolding search_fault
  same_fault lent =
      ap (λ (pb : Problem). first (cond (fits pb.variables pb.total clauses
      && ltb pb.target (2 ^ pb.variables)) no_fault (fault 10 0)
      ∷ permutation_fault pb.variables pb.permutations ∷ symmetry_fault pb.clauses pb.permutations
      ∷ slot_fault lent ∷ []))
      same

  pub same_reply : (lent : ℕ) → search_reply f clauses lent ≡ search_reply g clauses lent
  unfolding search_reply
  same_reply lent = ap₂ (λ t (pb : Problem). unless t (walked pb lent).reply) (same_fault lent) same

  pub same_slots : (lent : ℕ) → search_slots f clauses lent ≡ search_slots g clauses lent
  unfolding search_slots
  same_slots lent = ap (λ (pb : Problem). (walked pb lent).slots) same

  pub same_slices : (slots : SlotSlices) → search_slices f clauses slots ≡ search_slices g clauses slots
  unfolding search_slices
  same_slices slots = ap₂ (λ t l. unless_kept t (filled_with l slots) slots) (same_fault (capacity slots))
      (same_slots (capacity slots))

-- D3.5: "whatever the lent slots held": the reply and the slots filled depend on how long the three slices are, and on
-- nothing that they held
module _ (f : Formula) (clauses : ClauseSlices) (slots slots' : SlotSlices)
    (p : length slots.points ≡ length slots'.points)
    (q : length slots.falsified ≡ length slots'.falsified) (r : length slots.depths ≡ length slots'.depths)
  where
    same_lent : capacity slots ≡ capacity slots'
    unfolding capacity
    same_lent = ap₂ (λ a b. min max_slots (min a b)) p (ap₂ min q r)

    pub reply_forgets : search_reply f clauses (capacity slots) ≡ search_reply f clauses (capacity slots')
    reply_forgets = ap (search_reply f clauses) same_lent

    pub slots_forget : search_slots f clauses (capacity slots) ≡ search_slots f clauses (capacity slots')
    slots_forget = ap (search_slots f clauses) same_lent
