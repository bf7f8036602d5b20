-- The point handed back satisfies all clauses, and no satisfying point is nearer to the target. Assumes nothing.
use mathlib.Core.List.Memᴰ
use Rattle.std.specs.Prelude.{List, refl, ℕ, ◌≤◌}
use Rattle.std.proofs.Common.{◌∙◌, le_refl, le_trans, le_antisymm}
use Rattle.formula.specs.Problem.{Problem}
use Rattle.formula.specs.Reply.{satisfiable}
use Rattle.search_theory.specs.Laws.Promised.{Nearest, HandedBack}
use Rattle.search_theory.proofs.Bound.{lower_bound}
use Rattle.search_theory.proofs.Ends.{search_ends}
use Rattle.search_theory.specs.Laws.Invariants.{Ready, Ended, reached}
use Rattle.search_theory.proofs.LevelLaws.{tested_out, level_below, level_near}
use Rattle.search_theory.specs.Walk.{Slot, start, Walks}

module _ (pb : Problem) (capacity : ℕ) (ready : Ready pb) where
  -- the point's distance is at most the depth of its slot, that of the slot taken, which is at most the distance of any
  -- satisfying point, so of its own
  nearest_ended : {x d filled : ℕ} {l : List Slot} → Ended pb capacity (satisfiable x d filled) l
      → Nearest pb x d × HandedBack l x d
  nearest_ended (reached {p = p} {w = w} {s = s} {x = x} i h) =
      let o = tested_out p w s x h.among in
      let within = level_below pb capacity p w s i o in
      let near = level_near pb capacity p w s i o in
      let least = lower_bound pb capacity ready p w s i s.depth (le_refl s.depth) in (
        record {
          within = within;
          satisfying = h.satisfying;
          changes = refl;
          nearest = λ y hy k. le_trans near (least y hy k);
        },
        record {
          holder = o.holder;
          among = Memᴰ.append_right p o.among;
          point = o.point;
          unnumbered = i.unnumbered o.holder o.among;
          depth = o.depth ∙ le_antisymm (least x within h.satisfying) near;
        },
      )

  module _ (room : 1 ≤ capacity) {x d filled : ℕ} {l : List Slot}
      (t : Walks pb capacity (start pb) (satisfiable x d filled) l)
    where
      -- D3.1, D3.2
      pub found_nearest : Nearest pb x d
      found_nearest = (nearest_ended (search_ends pb capacity ready room t)).0

      -- its slot: the depth equals the distance, also where it exceeds that of other slots' points
      pub found_slot : HandedBack l x d
      found_slot = (nearest_ended (search_ends pb capacity ready room t)).1
