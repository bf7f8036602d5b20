-- With a slot for each of the 2 ^ n points there is always room: filled points are different numbers below 2 ^ n.
-- Assumes nothing.
use mathlib.Core.List.Memᴰ
use Rattle.std.specs.Prelude.{List, [], ◌∷◌, ◌++◌, ◌≡◌, ℕ, ◌≤◌, ◌<◌, ◌^◌, length}
use Rattle.std.proofs.Common.{sym, subst, arith}
use Rattle.std.proofs.lemmas.List.{length-map}
use Rattle.math.specs.Laws.BitLaws.{flip-lt}
use Rattle.math.specs.Bits.{flip}
use Rattle.math.specs.Laws.ListLaws.{map_out}
use Rattle.math.specs.Lists.{◌∈◌, distinct_cons}
use Rattle.math.specs.Laws.PartLaws.{each_cons}
use Rattle.math.specs.Laws.QueueLaws.{distinct_below}
use Rattle.permutation_theory.specs.Permutations.{itself}
use Rattle.formula.specs.Problem.{Problem}
use Rattle.formula.specs.Reply.{Reply, unknown}
use Rattle.search_theory.proofs.Ends.{blocked_expanding, search_ends}
use Rattle.search_theory.proofs.ExpansionLaws.{numbered-moved, fills_stuck}
use Rattle.search_theory.specs.Laws.InvariantLaws.{variable_small}
use Rattle.search_theory.specs.Laws.Invariants.{Ready, Filled, Ended, blocked}
use Rattle.search_theory.specs.Walk.{Slot, points_in, with_number, start, Walks}

module _ (pb : Problem) (capacity : ℕ) where
  -- the filled points are fewer than 2 ^ n, as long as a point is missing
  pub missing_room : (l : List Slot) → Filled pb capacity l → (y : ℕ) → y < 2 ^ pb.variables → (y ∈ points_in l → ⊥)
      → length l < 2 ^ pb.variables
  missing_room l f y hy out =
      subst (λ filled. filled < 2 ^ pb.variables) (length-map l (λ (s : Slot). s.point))
      (distinct_below (distinct_cons out f.distinct) (2 ^ pb.variables)
      (each_cons (λ x. x < 2 ^ pb.variables) hy below))
    where
      below : (x : ℕ) → x ∈ points_in l → x < 2 ^ pb.variables
      below x m = let w = map_out (λ (s : Slot). s.point) l m in subst (λ z. z < 2 ^ pb.variables) (sym w.2)
          (f.below w.0 w.1)

  room_ended : 2 ^ pb.variables ≤ capacity → {b filled : ℕ} {l : List Slot} → Ended pb capacity (unknown b filled) l
      → ⊥
  room_ended large (blocked {p = p} {w = w} {u = u} {s = s} {c = c} i n first g) =
      let known = p ++ with_number s c ∷ [] in
      let e = blocked_expanding pb capacity p w s c first i g in
      let r = fills_stuck pb capacity known (with_number s c) (numbered-moved pb capacity p w s c first) g in
      let x : s.point < 2 ^ pb.variables = e.filled.below (with_number s c) (Memᴰ.append_left u e.among) in
      let short : length (known ++ u) < 2 ^ pb.variables =
      missing_room (known ++ u) e.filled (flip s.point r.0)
      (flip-lt pb.variables s.point r.0 x (variable_small pb.variables c.clause r.0 r.1))
      (λ m. r.2 (itself m)) in
      let long : capacity ≤ length (known ++ u) = r.3 in
      omega arith

  -- D3.8: "Where 2^n is at most 65,536 and at least 2^n slots are lent, it is never said."
  pub never_unknown : Ready pb → 1 ≤ capacity → 2 ^ pb.variables ≤ capacity → {r : Reply} {l : List Slot}
      → Walks pb capacity (start pb) r l → (b filled : ℕ) → r ≡ unknown b filled → ⊥
  never_unknown ready room large {l = l} t b filled e = room_ended large
      (search_ends pb capacity ready room (subst (λ r. Walks pb capacity (start pb) r l) e t))
