-- A stable set, in document 01's form, means that no point satisfies the clauses. Assumes nothing.
use Rattle.std.specs.Prelude.{List, map, ℕ, ◌<◌, ◌^◌, length, get_or}
use Rattle.std.proofs.Common.{subst}
use Rattle.math.specs.Bits.{flip}
use Rattle.math.specs.Laws.ListLaws.{get_d_in, in_get_d}
use Rattle.math.specs.Lists.{◌∈◌}
use Rattle.points.specs.Points.{Numbered, SatisfiesAll}
use Rattle.permutation_theory.specs.Permutations.{Permutation, image_of_point}
use Rattle.point_theory.specs.Laws.Approach.{Moves, clause_moves}
use Rattle.point_theory.specs.Laws.Notions.{ClausesBelow}
use Rattle.point_theory.specs.Laws.Refutes.{ClosedSet, refutes}
use Rattle.permutation_theory.proofs.Symmetries.{covered_through, symmetries}
use Rattle.check_theory.specs.Stable.{Stable}

-- ---- a stable set refutes the clauses

module _ (n : ℕ) (cs : List Numbered) (es : List Permutation) (ps ns : List ℕ) (s : Stable n cs es ps ns)
    (b : ClausesBelow n cs) where
  -- a point of the certificate moves towards every satisfying point, by its own clause
  moves_at : (i : ℕ) → i < length ps → (x : ℕ) → SatisfiesAll cs x
      → Moves n (map image_of_point es) (λ y. y ∈ ps) (get_or ps i 0) x
  moves_at i lt x sat =
      let t = s.transported i lt in
      clause_moves n (map image_of_point es) (λ y. y ∈ ps) t.own.clause (get_or ps i 0) x (b t.own t.member)
      t.falsified (sat t.own t.member)
      (λ v m. covered_through es ps (flip (get_or ps i 0) v) (t.flips v m))

  closed_set : ClosedSet n (SatisfiesAll cs) (map image_of_point es) (λ y. y ∈ ps)
  closed_set =
      record {
        witness = get_or ps 0 0;
        nonempty = get_d_in ps 0 0 s.some_point;
        within = s.within;
        moves = λ p x m hx sat. let w = in_get_d 0 m in subst (λ q. Moves n (map image_of_point es) (λ y. y ∈ ps) q x)
            w.2 (moves_at w.0 w.1 x sat);
      }

  -- T3: "Accepting an empty point list, which is stable vacuously.": `some_point` is used
  -- T4: "Testing that an exchange is a permutation but not that it keeps the rules.": `keep_clauses` is used
  pub stable_refutes : (x : ℕ) → x < 2 ^ n → SatisfiesAll cs x → ⊥
  stable_refutes =
      refutes n (SatisfiesAll cs) (map image_of_point es) (λ y. y ∈ ps)
      (symmetries n es cs s.are_permutations s.keep_clauses b) closed_set
