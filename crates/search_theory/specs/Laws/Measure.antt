-- The one measure of the search, a slot's depth and its distance to a satisfying point together: some waiting slot has
-- one that is no more than the target's own distance to that point. Why the nearest point is found. Assumes nothing.
use mathlib.Core.List.Memᴰ
use Rattle.std.specs.Prelude.{List, ◌++◌, ◌≡◌, ℕ, zero, suc, ◌+◌, ◌≤◌, ◌<◌, ◌^◌}
use Rattle.std.proofs.Common.{⊎_elim, ap, ◌∙◌, le_of_eq, le_trans, arith}
use Rattle.std.proofs.Math.Nat.{suc_inj}
use Rattle.math.specs.Laws.ListLaws.{get_d_in}
use Rattle.math.specs.Lists.{◌∈◌}
use Rattle.points.specs.Points.{distance, SatisfiesAll}
use Rattle.point_theory.specs.Laws.Approach.{Nearer, clause_moves, comes_nearer}
use Rattle.point_theory.specs.Laws.Maps.{Automorphisms}
use Rattle.formula.specs.Problem.{Problem}
use Rattle.search_theory.specs.Laws.InvariantLaws.{first_in}
use Rattle.search_theory.specs.Laws.Invariants.{Ready, maps, slot_at, Held, Invariants, Ahead}
use Rattle.search_theory.specs.Walk.{Slot, slot}

-- S is a set of satisfying points that the maps keep: all of them; or, where there is no map, any one alone
module _ (pb : Problem) (capacity : ℕ) (ready : Ready pb) (S : ℕ → Type 0)
    (satisfying : (y : ℕ) → S y → SatisfiesAll pb.clauses y) (kept : Automorphisms pb.variables S (maps pb))
    (p w : List Slot) (i : Invariants pb capacity p w) where
  -- a processed slot has a filled one that is nearer, and one deeper at the most
  next : (q : Slot) → q ∈ p → (s : ℕ) → s < 2 ^ pb.variables → S s
      → Nearer pb.variables S (Held (p ++ w) (suc q.depth)) q.point s
  next q m s hs sat =
      let h = i.processed q m in
      let c = h.moved.clause in
      comes_nearer pb.variables S (maps pb) (Held (p ++ w) (suc q.depth)) kept q.point s
      (i.filled.below q (Memᴰ.append_left w m)) hs sat
      (clause_moves pb.variables (maps pb) (Held (p ++ w) (suc q.depth)) c.clause q.point s
      (ready.clauses-below c (first_in h.moved.first))
      h.moved.first.falsified (satisfying s sat c (first_in h.moved.first)) h.flips)

  -- a waiting slot is itself one
  waits : (q : Slot) → q ∈ w → (s : ℕ) → s < 2 ^ pb.variables → S s → (k : ℕ)
      → distance pb.variables q.point s ≡ k
      → Ahead pb S w (q.depth + k)
  waits q m s hs sat k e =
      record {
        ahead = q;
        among = m;
        solution = s;
        within = hs;
        inside = sat;
        reaches = le_of_eq
            (ap (λ d. q.depth + d) e);
      }

  -- from any filled slot, by its distance k to a point of S: a processed one leads to a nearer one
  from : (k : ℕ) (q : Slot) → q ∈ (p ++ w) → (s : ℕ) → s < 2 ^ pb.variables → S s
      → distance pb.variables q.point s ≡ k
      → Ahead pb S w (q.depth + k)
  from zero q m s hs sat e =
      ⊎_elim (λ k. absurd (never (next q k s hs sat).one_less)) (λ k. waits q k s hs sat 0 e)
      (Memᴰ.append_cases p m)
    where
      never : {d : ℕ} → suc d ≡ distance pb.variables q.point s → ⊥
      never h = omega arith
  from (suc k) q m s hs sat e = ⊎_elim (λ j. deeper (next q j s hs sat) (from k)) (λ j. waits q j s hs sat (suc k) e)
      (Memᴰ.append_cases p m)
    where
      deeper : Nearer pb.variables S (Held (p ++ w) (suc q.depth)) q.point s
          → ((t : Slot) → t ∈ (p ++ w) → (y : ℕ) → y < 2 ^ pb.variables → S y
          → distance pb.variables t.point y ≡ k → Ahead pb S w (t.depth + k))
          → Ahead pb S w (q.depth + suc k)
      deeper z rest =
          let h = z.member in
          let a = rest h.holder h.among z.solution z.within z.satisfying
          (ap (λ x. distance pb.variables x z.solution) h.point ∙ suc_inj (z.one_less ∙ e)) in
          record {
            ahead = a.ahead;
            among = a.among;
            solution = a.solution;
            within = a.within;
            inside = a.inside;
            reaches = le_trans a.reaches (sum h.holder.depth h.shallow);
          }
        where
          sum : (d : ℕ) → d ≤ suc q.depth → d + k ≤ q.depth + suc k
          sum d le = omega arith

  -- from the target: for every point of S a waiting slot is so near to some point of S
  pub measure : (s : ℕ) → s < 2 ^ pb.variables → S s
      → Ahead pb S w (distance pb.variables pb.target s)
  measure s hs sat =
      let f = i.filled in
      let a = from (distance pb.variables pb.target s) (slot_at (p ++ w) 0)
      (get_d_in (p ++ w) 0 (slot 0 0 0) f.nonempty) s hs sat
      (ap (λ x. distance pb.variables x s) f.begins) in
      record {
        ahead = a.ahead;
        among = a.among;
        solution = a.solution;
        within = a.within;
        inside = a.inside;
        reaches = le_trans a.reaches (root (slot_at (p ++ w) 0).depth (f.depth_index 0 f.nonempty));
      }
    where
      root : (d : ℕ) → d ≤ 0 → d + distance pb.variables pb.target s ≤ distance pb.variables pb.target s
      root d h = omega arith
