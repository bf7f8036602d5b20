-- The point handed back is the smallest, as a number: of the nearest points in the slots, and without permutations of
-- all nearest points. Assumes nothing.
use Rattle.std.specs.Prelude.{true, List, [], ◌∷◌, map, ◌≡◌, refl, ℕ, ◌≤◌}
use mathlib.Core.List.Memᴰ
use Rattle.std.proofs.Common.{⊎_elim, sym, ◌∙◌, subst, le_trans, le_of_eq}
use Rattle.math.specs.Laws.ListLaws.{true-or-false}
use Rattle.math.specs.Lists.{◌∈◌}
use Rattle.points.specs.Points.{SatisfiesAll, Smallest}
use Rattle.permutation_theory.specs.Permutations.{image_of_point}
use Rattle.formula.specs.Problem.{Problem}
use Rattle.formula.specs.Reply.{satisfiable}
use Rattle.search_theory.proofs.Bound.{level_holds}
use Rattle.search_theory.proofs.Ends.{search_ends}
use Rattle.search_theory.specs.Laws.InvariantLaws.{first_in}
use Rattle.search_theory.specs.Laws.Invariants.{Ready, Invariants, Ended, reached}
use Rattle.search_theory.proofs.LevelLaws.{tested_out, tested_in, level_flat, level_near, untested_fails}
use Rattle.search_theory.specs.Laws.Promised.{SmallestFilled, SmallestNearest}
use Rattle.search_theory.specs.Walk.{Slot, start, opens, tested, Walks}

module _ (pb : Problem) (capacity : ℕ) where
  -- where the test finds a point, the depth is new: those of another depth were tested before
  found_new : (p w : List Slot) (s : Slot) {x : ℕ} → Invariants pb capacity p (s ∷ w)
      → Smallest pb.clauses (tested p s w) x → opens p s ≡ true
  found_new p w s {x} i h =
      ⊎_elim (λ e. e) (λ e. absurd (untested_fails pb capacity p w s i e x h.among h.satisfying))
      (true-or-false (opens p s))

  -- so every waiting slot is tested, and a processed one falsifies a clause
  filled-ended : {x d filled : ℕ} {l : List Slot} → Ended pb capacity (satisfiable x d filled) l
      → SmallestFilled pb l x d
  filled-ended (reached {p = p} {w = w} {s = s} {x = x} i h) t m sat near =
      ⊎_elim processed waits (Memᴰ.append_cases p m)
    where
      processed : t ∈ p → x ≤ t.point
      processed k =
          let moved = (i.processed t k).moved in
          absurd (moved.first.falsified (sat moved.clause (first_in moved.first)))

      waits : t ∈ (s ∷ w) → x ≤ t.point
      waits k =
          let e = found_new p w s i h in
          h.least t.point (tested_in p w s e t k (level_flat pb capacity p w s i e t k)) sat

  -- without permutations the measure holds for one point alone: where that is nearest, a slot that is tested has it
  nearest_ended : Ready pb → pb.permutations ≡ [] → {x d filled : ℕ} {l : List Slot}
      → Ended pb capacity (satisfiable x d filled) l → SmallestNearest pb x d
  nearest_ended ready plain (reached {p = p} {w = w} {s = s} {x = x} i h) y hy sat near =
      let r = level_holds pb capacity ready (λ z. z ≡ y) (λ z e. subst (SatisfiesAll pb.clauses) (sym e) sat)
      (λ f m. absurd (Memᴰ.not-nil (subst (λ es. f ∈ map image_of_point es) plain m))) p w s i y hy refl
      (le_trans (le_of_eq near) (level_near pb capacity p w s i (tested_out p w s x h.among))) in
      let o = r.1 in
      let same : o.holder.point ≡ y = o.point ∙ r.2 in
      le_trans (h.least o.holder.point
      (tested_in p w s (found_new p w s i h) o.holder o.among o.depth)
      (subst (SatisfiesAll pb.clauses) (sym same) sat))
      (le_of_eq same)

  -- Q03.2: "Among the nearest choices in the slots the one smallest as a number is now handed back."
  pub found_smallest-filled : Ready pb → 1 ≤ capacity → {x d filled : ℕ} {l : List Slot}
      → Walks pb capacity (start pb) (satisfiable x d filled) l → SmallestFilled pb l x d
  found_smallest-filled ready room t = filled-ended (search_ends pb capacity ready room t)

  -- Q03.6: "Without exchanges a choice handed back is the smallest of all nearest choices on the whole sheet."
  pub found_smallest : Ready pb → pb.permutations ≡ [] → 1 ≤ capacity → {x d filled : ℕ} {l : List Slot}
      → Walks pb capacity (start pb) (satisfiable x d filled) l → SmallestNearest pb x d
  found_smallest ready plain room t = nearest_ended ready plain (search_ends pb capacity ready room t)
