-- A set of points that moves towards every satisfying point, and never leaves itself, means that no point satisfies:
-- the theorem behind stable sets, over any list of maps and any notion of satisfaction. Assumes nothing.
use Rattle.std.specs.Prelude.{List, ◌≡◌, refl, ℕ, zero, suc, ◌<◌, ◌^◌}
use Rattle.std.proofs.Common.{◌∙◌, arith}
use Rattle.std.proofs.Math.Nat.{suc_inj}
use Rattle.points.specs.Points.{distance}
use Rattle.point_theory.specs.Laws.Approach.{Moves, comes_nearer}
use Rattle.point_theory.specs.Laws.Maps.{Automorphisms}

-- the set P is not empty, and each of its points moves towards each satisfying point, within the set
pub record ClosedSet (n : ℕ) (Sat : ℕ → Type 0) (fs : List (ℕ → ℕ)) (P : ℕ → Type 0) : Type 0 where
  pub witness : ℕ
  -- T3: "Accepting an empty point list, which is stable vacuously."
  pub nonempty : P witness
  pub within : (p : ℕ) → P p → p < 2 ^ n
  pub moves : (p s : ℕ) → P p → s < 2 ^ n → Sat s → Moves n fs P p s

module _ (n : ℕ) (Sat : ℕ → Type 0) (fs : List (ℕ → ℕ)) (P : ℕ → Type 0) (each : Automorphisms n Sat fs)
    (c : ClosedSet n Sat fs P) where
  -- no point of the set is at distance k from a satisfying point: one at distance k - 1 would be
  never : (k p s : ℕ) → P p → s < 2 ^ n → Sat s → distance n p s ≡ k → ⊥
  never zero p s m hs sat e =
      let w = comes_nearer n Sat fs P each p s (c.within p m) hs sat (c.moves p s m hs sat) in
      let z : suc (distance n w.point w.solution) ≡ 0 = w.one_less ∙ e in
      omega arith
  never (suc k) p s m hs sat e =
      let w = comes_nearer n Sat fs P each p s (c.within p m) hs sat (c.moves p s m hs sat) in
      never k w.point w.solution w.member w.within w.satisfying (suc_inj (w.one_less ∙ e))

  -- D3.6: "means that none of the 2^n choices meets the rules"
  pub refutes : (s : ℕ) → s < 2 ^ n → Sat s → ⊥
  refutes s hs sat = never (distance n c.witness s) c.witness s c.nonempty hs sat refl
