-- One step towards a satisfying point, which stable set and search share: where the flip of a point is covered by a
-- set, the set has a point that is one closer to some satisfying point. Assumes nothing.
use Rattle.std.specs.Prelude.{List, ◌≡◌, ℕ, suc, ◌<◌, ◌^◌}
use Rattle.std.proofs.Common.{ap, ◌∙◌}
use Rattle.math.specs.Laws.BitLaws.{flip-lt}
use Rattle.math.specs.Bits.{flip}
use Rattle.math.specs.Lists.{◌∈◌}
use Rattle.points.specs.Points.{Clause, Satisfies, variables, distance}
use Rattle.point_theory.specs.Laws.Closer.{closer}
use Rattle.point_theory.specs.Laws.Distance.{flip_closer}
use Rattle.point_theory.specs.Laws.Maps.{Automorphisms, CoveredBy, in_set, through}
use Rattle.point_theory.specs.Laws.Notions.{Differ, ClauseBelow}

-- p and s differ in a variable such that the flip of p there is covered by the set P
pub record Moves (n : ℕ) (fs : List (ℕ → ℕ)) (P : ℕ → Type 0) (p s : ℕ) : Type 0 where
  pub variable : ℕ
  pub small : variable < n
  pub differ : Differ variable p s
  pub covered : CoveredBy fs P (flip p variable)

-- the set P has a point that is one closer to some satisfying point than p is to s
pub record Nearer (n : ℕ) (Sat : ℕ → Type 0) (P : ℕ → Type 0) (p s : ℕ) : Type 0 where
  pub point : ℕ
  pub member : P point
  pub solution : ℕ
  pub within : solution < 2 ^ n
  pub satisfying : Sat solution
  pub one_less : suc (distance n point solution) ≡ distance n p s

-- a point that falsifies a clause moves, if the flips of that clause's variables are covered
pub clause_moves : (n : ℕ) (fs : List (ℕ → ℕ)) (P : ℕ → Type 0) (c : Clause) (p s : ℕ) → ClauseBelow n c
    → (Satisfies c p → ⊥) → Satisfies c s
    → ((v : ℕ) → v ∈ variables n c → CoveredBy fs P (flip p v)) → Moves n fs P p s
clause_moves n fs P c p s b fails sat flips =
    let d = closer n c p s b fails sat in
    record { variable = d.variable; small = d.small; differ = d.differ; covered = flips d.variable d.among }

module _ (n : ℕ) (Sat : ℕ → Type 0) (fs : List (ℕ → ℕ)) (P : ℕ → Type 0) (each : Automorphisms n Sat fs) where
  -- a point that moves comes nearer: the flip does, and its image is as far from the image of s as the flip is from s
  pub comes_nearer : (p s : ℕ) → p < 2 ^ n → s < 2 ^ n → Sat s → Moves n fs P p s → Nearer n Sat P p s
  comes_nearer p s hp hs sat m = by m.covered
    where
      q : ℕ
      q = flip p m.variable

      less : suc (distance n q s) ≡ distance n p s
      less = flip_closer n p s m.variable m.small m.differ

      by : CoveredBy fs P q → Nearer n Sat P p s
      by (in_set k) = record { point = q; member = k; solution = s; within = hs; satisfying = sat; one_less = less }
      by (through f l k) =
          let a = each f l in
          record {
            point = f q;
            member = k;
            solution = f s;
            within = a.within s hs;
            satisfying = a.satisfying s hs sat;
            one_less = ap suc (a.isometric q s (flip-lt n p m.variable hp m.small) hs) ∙ less;
          }
