-- A formula that refusals 10 to 13 let pass is ready to be searched, and the builder's reply is then that of the
-- search. Assumes nothing.
use mathlib.Core.List.{List, [], ◌∷◌}
use Rattle.std.specs.Prelude.{◌≡◌, refl, ℕ, zero, suc, ◌≤◌, length}
use Rattle.std.proofs.Math.Path.{sym, subst}
use Rattle.std.proofs.Common.{◌∙◌, zero-le, suc-le-suc, arith}
use Rattle.std.proofs.Math.Nat.{le_trans}
use Rattle.points.specs.Points.{numbered}
use Rattle.point_slices.specs.Slices.{ClauseSlices, SlotSlices, clauses_of}
use Rattle.permutation_theory.specs.Permutations.{Permutation, permutations_in}
use Rattle.permutation_theory.proofs.Symmetries.{symmetry_automorphism}
use Rattle.formula.specs.declared.Formula.{Formula}
use Rattle.formula.specs.Limits.{max_slots, capacity}
use Rattle.formula.specs.Problem.{problem_of}
use Rattle.formula.specs.Laws.RefusalLaws.{fits_below, formula_passes, permutation_passes, symmetry_passes}
use Rattle.formula.specs.Refusals.{formula_fault, permutation_fault, symmetry_fault}
use Rattle.formula.specs.Reply.{Reply, refused, unknown, Fault, no_fault}
use Rattle.formula.specs.Laws.ReplyLaws.{first-none, first_split, first_join, first_last, fault_not-none, not_refused}
use Rattle.formula.specs.Laws.ReplyLaws.{unless-none}
use Rattle.search.specs.Laws.WalkAnswers.{WalkAnswers}
use Rattle.search.specs.Search.{slot_fault, search_fault, search_reply, search_slots}
use Rattle.search_theory.specs.Laws.Invariants.{Ready}
use Rattle.search_theory.specs.Walk.{start, Walks, walked}
use Rattle.search_theory.proofs.WalkLaws.{walked_walks, walks_walked}
use Rattle.search_theory.specs.Laws.MoreRoom.{walks_more}

slot_sound : (k : ℕ) → slot_fault k ≡ no_fault → 1 ≤ k
unfolding slot_fault
slot_sound zero e = absurd (fault_not-none 13 0 e)
slot_sound (suc k) e = suc-le-suc zero-le

pub slot_complete : (k : ℕ) → (k ≡ 0 → ⊥) → slot_fault k ≡ no_fault
unfolding slot_fault
slot_complete zero ne = absurd (ne refl)
slot_complete (suc k) ne = refl

-- ---- "The number of slots P is the shortest length lent, at most 65,536 used."

pub lent_few : (slots : SlotSlices) → capacity slots ≤ max_slots
unfolding capacity
lent_few slots = omega arith

pub lent_enough : (k : ℕ) (slots : SlotSlices) → k ≤ max_slots → k ≤ length slots.points
    → k ≤ length slots.falsified → k ≤ length slots.depths → k ≤ capacity slots
unfolding capacity
lent_enough k slots few a b c = omega arith

-- ---- no refusal

module _ (f : Formula) (clauses : ClauseSlices) (lent : ℕ) where
  abbrev perms : List Permutation
  perms = permutations_in f.variables f.permutations f.images

  abbrev row11 : Fault
  row11 = permutation_fault f.variables perms

  abbrev row12 : Fault
  row12 = symmetry_fault (numbered (clauses_of clauses)) perms

  pub rows : search_fault f clauses lent ≡ no_fault
      → (formula_fault f clauses ≡ no_fault) × (row11 ≡ no_fault) × (row12 ≡ no_fault)
      × (slot_fault lent ≡ no_fault)
  unfolding search_fault
  rows h =
      let a = first_split (formula_fault f clauses) (row11 ∷ row12 ∷ slot_fault lent ∷ []) h in
      let b = first_split row11 (row12 ∷ slot_fault lent ∷ []) a.1 in
      let c = first_split row12 (slot_fault lent ∷ []) b.1 in
      (a.0, b.0, c.0, sym (first_last (slot_fault lent)) ∙ c.1)

  -- "In the mission an accepted sheet is one that neither reader nor builder refuses"
  pub ready_of_faults : search_fault f clauses lent ≡ no_fault → Ready (problem_of f clauses)
  unfolding problem_of
  ready_of_faults h =
      let r = rows h in
      let g = formula_passes f clauses r.0 in
      let below = fits_below f.variables f.clauses clauses g.0 in
      record {
        target_below = g.1;
        clauses-below = below;
        symmetric = λ e m. symmetry_automorphism f.variables e (numbered (clauses_of clauses))
            ((permutation_passes f.variables perms r.1).1 e m)
            (symmetry_passes (numbered (clauses_of clauses)) perms r.2 e m) below;
      }

  pub lent_of_faults : search_fault f clauses lent ≡ no_fault → 1 ≤ lent
  lent_of_faults h = slot_sound lent (rows h).3

  -- with any other number of slots lent, if not none, nothing is refused either
  pub some_passes : (other : ℕ) → 1 ≤ other → search_fault f clauses lent ≡ no_fault
      → search_fault f clauses other ≡ no_fault
  unfolding search_fault
  some_passes other some h =
      let r = rows h in
      first_join (formula_fault f clauses) (row11 ∷ row12 ∷ slot_fault other ∷ []) r.0
      (first_join row11 (row12 ∷ slot_fault other ∷ []) r.1
      (first_join row12 (slot_fault other ∷ []) r.2
      (first_join (slot_fault other) [] (slot_complete other (λ z. omega arith)) first-none)))

  -- where the reply is no refusal, no row refuses
  pub no_faults : (r : Reply) → search_reply f clauses lent ≡ r → ((code place : ℕ) → r ≡ refused code place → ⊥)
      → search_fault f clauses lent ≡ no_fault
  unfolding search_reply
  no_faults r e ok = not_refused (search_fault f clauses lent) (walked (problem_of f clauses) lent).reply r e ok

  -- a reply that is no refusal is the search's
  pub answered : (r : Reply) → search_reply f clauses lent ≡ r
      → ((code place : ℕ) → r ≡ refused code place → ⊥) → WalkAnswers f clauses lent r
  unfolding search_reply search_slots
  answered r e ok =
      let pb = problem_of f clauses in
      let s = no_faults r e ok in
      let room = lent_of_faults s in
      record {
        ready = ready_of_faults s;
        room = room;
        walks = subst (λ r. Walks pb lent (start pb) r (walked pb lent).slots)
            (sym (unless-none (search_fault f clauses lent) s (walked pb lent).reply) ∙ e)
            (walked_walks pb lent room);
      }

  -- an answer other than 'no room' stays with more slots lent, and so do the slots filled
  pub more-answers : (more : ℕ) → lent ≤ more → (r : Reply) → search_reply f clauses lent ≡ r
      → ((code place : ℕ) → r ≡ refused code place → ⊥) → ((b filled : ℕ) → r ≡ unknown b filled → ⊥)
      → (search_reply f clauses more ≡ r) × (search_slots f clauses more ≡ search_slots f clauses lent)
  unfolding search_reply search_slots
  more-answers more le r e ok known =
      let pb = problem_of f clauses in
      let passed = no_faults r e ok in
      let some = le_trans (lent_of_faults passed) le in
      let w = walks_walked pb more some (walks_more le known (answered r e ok).walks) in (
        unless-none (search_fault f clauses more) (some_passes more some passed) (walked pb more).reply ∙ w.0,
        w.1,
      )
