-- The slots that a certificate takes, the arrays once these are copied to them, and what the writer does from there.
-- Assumes nothing.
use Rattle.std.proofs.Common.{Result, ◌≡◌, ℕ, ◌<◌, ◌≤◌, List, length, min, sym, subst, arith}
use Rattle.std.proofs.Math.ListN.{take}
use Rattle.point_slices.specs.Slices.{ClauseSlices, slot_slices}
use Rattle.formula.specs.declared.Formula.{Formula}
use Rattle.formula.specs.Limits.{max_slots}
use Rattle.formula.specs.declared.reasons.Refusal.{Refusal}
use Rattle.certificate_writer.specs.Contract.{Wrote}
use Rattle.slot_columns.specs.declared.Slot.{Slot}
use Rattle.slot_columns.specs.Slots.{points_in, falsified_in, depths_in, slots_in}
use Rattle.slot_columns.specs.Laws.Copies.{front}
use Rattle.slot_prefixes.specs.Laws.PrefixLaws.{Takes, taken, taken_takes, bytes_in}
use Rattle.slot_writer_large.specs.Laws.WriteLaws.{wrote_whole, wrote_fits}

module _ (ys : List Slot) (filled : ℕ) {k : ℕ} (is : k ≡ taken filled (length ys)) where
  takes : Takes filled (length ys) k
  takes = subst (Takes filled (length ys)) (sym is) (taken_takes filled (length ys))

  pub few : k ≤ max_slots
  few = let u : k ≤ min max_slots (length ys) = takes.taken_used in omega arith

  pub used : k ≤ length ys
  used = let u : k ≤ min max_slots (length ys) = takes.taken_used in omega arith

  module _ {f : Formula} {clauses : ClauseSlices} {os os' : List ℕ} {r : Result ℕ Refusal} (ps₀ fs₀ ds₀ ps fs ds : List ℕ)
      (copied : (ps ≡ front k (points_in ys) ps₀) × ((fs ≡ front k (falsified_in ys) fs₀)
      × (ds ≡ front k (depths_in ys) ds₀)))
      (w : Wrote f clauses (slot_slices (take k ps) (take k fs) (take k ds)) filled os r os') where
    pub written_left : Wrote f clauses (slots_in ys) filled os r os'
    written_left =
        wrote_whole f clauses ys filled k takes os ps₀ fs₀ ds₀ r os'
        (subst (λ (l : List ℕ). Wrote f clauses (slot_slices (take k l) (take k (front k (falsified_in ys) fs₀))
        (take k (front k (depths_in ys) ds₀))) filled os r os') copied.0
        (subst (λ (l : List ℕ). Wrote f clauses (slot_slices (take k ps) (take k l)
        (take k (front k (depths_in ys) ds₀))) filled os r os') copied.1.0
        (subst (λ (l : List ℕ). Wrote f clauses (slot_slices (take k ps) (take k fs) (take k l)) filled os r os')
        copied.1.1 w)))

    -- no certificate is longer than the output
    pub never_over : {size : ℕ} → size ≡ bytes_in r → length os < size → ⊥
    never_over told over =
        let fits : bytes_in r ≤ length os = wrote_fits f clauses (slots_in ys) filled os r os' written_left in
        omega arith
