-- The lower bound: no satisfying point is nearer to the target than the slot that is taken is deep, and where none of
-- the points tested satisfies, each is farther. Assumes nothing.
use mathlib.Core.List.Memᴰ
use Rattle.std.specs.Prelude.{List, ◌∷◌, ◌≡◌, ℕ, suc, ◌+◌, ◌≤◌, ◌<◌, ◌^◌}
use Rattle.std.proofs.Common.{sym, subst, le_trans, le_of_eq, arith}
use Rattle.std.proofs.Math.Decide.{dec_lt}
use Rattle.points.specs.Points.{distance, SatisfiesAll, NoneSatisfies}
use Rattle.point_theory.specs.Laws.Distance.{distance_symmetric, distance-zero}
use Rattle.point_theory.specs.Laws.Maps.{Automorphisms}
use Rattle.formula.specs.Problem.{Problem}
use Rattle.formula.specs.Reply.{unknown}
use Rattle.search_theory.specs.Laws.Promised.{LowerBound}
use Rattle.search_theory.proofs.Ends.{search_ends}
use Rattle.search_theory.specs.Laws.InvariantLaws.{symmetries_of, first_shallowest}
use Rattle.search_theory.specs.Laws.Invariants.{Ready, maps, Invariants, Ahead, Ended, blocked}
use Rattle.search_theory.proofs.LevelLaws.{OnLevel, level_failed}
use Rattle.search_theory.specs.Laws.Measure.{measure}
use Rattle.search_theory.specs.Walk.{Slot, start, tested, Walks}

module _ (pb : Problem) (capacity : ℕ) (ready : Ready pb) where
  -- a point y of a set S as the measure takes it, and the slot s that is taken
  module _ (S : ℕ → Type 0) (satisfying : (z : ℕ) → S z → SatisfiesAll pb.clauses z)
      (kept : Automorphisms pb.variables S (maps pb)) (p w : List Slot) (s : Slot)
      (i : Invariants pb capacity p (s ∷ w)) (y : ℕ) (hy : y < 2 ^ pb.variables) (inside : S y) where
    ahead_of : Ahead pb S (s ∷ w) (distance pb.variables y pb.target)
    ahead_of = subst (Ahead pb S (s ∷ w)) (distance_symmetric pb.variables pb.target y)
        (measure pb capacity ready S satisfying kept p (s ∷ w) i y hy inside)

    shallower : s.depth ≤ ahead_of.ahead.depth
    shallower = first_shallowest pb capacity p w s i.filled ahead_of.ahead ahead_of.among

    -- a waiting slot is no nearer to S than the target is, less its depth, and none is shallower than the first
    depth_bound : s.depth ≤ distance pb.variables y pb.target
    depth_bound =
        let r : ahead_of.ahead.depth + distance pb.variables ahead_of.ahead.point ahead_of.solution
        ≤ distance pb.variables y pb.target = ahead_of.reaches in
        let d : s.depth ≤ ahead_of.ahead.depth = shallower in
        omega arith

    -- where y is as near as that, a waiting slot of that depth holds a point of S
    pub level_holds : distance pb.variables y pb.target ≤ s.depth → (z : ℕ) × OnLevel s w z × S z
    level_holds near =
        let a = ahead_of in
        let r : a.ahead.depth + distance pb.variables a.ahead.point a.solution
        ≤ distance pb.variables y pb.target = a.reaches in
        let d : s.depth ≤ a.ahead.depth = shallower in
        let zero : distance pb.variables a.ahead.point a.solution ≡ 0 = omega arith in (
          a.solution,
          record {
            holder = a.ahead;
            among = a.among;
            depth = omega arith;
            point = distance-zero pb.variables a.ahead.point a.solution
                (i.filled.below a.ahead (Memᴰ.append_right p a.among)) a.within zero;
          },
          a.inside,
        )

  -- any number is a bound that is at most the depth of the first waiting slot.
  -- T1: "Taking the newest point: still sound, but the choice is no longer nearest.": `first_shallowest` is what fails
  -- then
  pub lower_bound : (p w : List Slot) (s : Slot) → Invariants pb capacity p (s ∷ w) → (b : ℕ) → b ≤ s.depth
      → LowerBound pb b
  lower_bound p w s i b le y hy sat =
      le_trans le (depth_bound (SatisfiesAll pb.clauses) (λ z h. h) (symmetries_of pb ready) p w s i y hy sat)

  -- Q03.4: "the depth being processed plus one, which every choice meeting the rules still reaches": one that did not
  -- would have a waiting slot of that depth satisfy
  next_bound : (p w : List Slot) (s : Slot) → Invariants pb capacity p (s ∷ w)
      → NoneSatisfies pb.clauses (tested p s w) → LowerBound pb (suc s.depth)
  next_bound p w s i none y hy sat = by (dec_lt s.depth (distance pb.variables y pb.target))
    where
      by : Dec (s.depth < distance pb.variables y pb.target)
          → suc s.depth ≤ distance pb.variables y pb.target
      by (yes lt) = lt
      by (no ge) =
          let h = level_holds (SatisfiesAll pb.clauses) (λ z h. h) (symmetries_of pb ready) p w s i y hy sat
          (omega arith) in
          absurd (level_failed pb capacity p w s i none h.1.holder h.1.among (le_of_eq h.1.depth)
          (subst (SatisfiesAll pb.clauses) (sym h.1.point) h.2))

  bound-ended : {b filled : ℕ} {l : List Slot} → Ended pb capacity (unknown b filled) l → LowerBound pb b
  bound-ended (blocked {p = p} {w = w} {s = s} i none f g) = next_bound p w s i none

  -- D3.7: "'No room' carries a number d, and every choice that meets the rules differs from the wish in at least d
  -- names."
  pub unknown_bound : 1 ≤ capacity → {b filled : ℕ} {l : List Slot} → Walks pb capacity (start pb) (unknown b filled) l
      → LowerBound pb b
  unknown_bound room t = bound-ended (search_ends pb capacity ready room t)
