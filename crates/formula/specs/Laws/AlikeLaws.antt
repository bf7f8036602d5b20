-- Formulas that are alike make one problem: of the images' bytes only those of the listed permutations are read.
-- Assumes nothing.
use Rattle.std.specs.Prelude.{List, ◌∷◌, ◌≡◌, refl, ℕ, zero, suc, ◌*◌, take, drop}
use Rattle.std.proofs.Math.Path.{ap₂}
use Rattle.std.proofs.Common.{◌∙◌, subst, suc-mul, add_comm}
use Rattle.math.specs.Laws.QueueLaws.{same_front}
use Rattle.points.specs.Points.{numbered}
use Rattle.point_slices.specs.Slices.{clauses_of, ClauseSlices}
use Rattle.permutation_theory.specs.Permutations.{Permutation, permutations_in}
use Rattle.formula.specs.declared.Formula.{Formula}
use Rattle.formula.specs.Laws.Alike.{Alike}
use Rattle.formula.specs.Problem.{problem_of}

-- the first k permutations are those of the first k · n bytes
permutations-front : (n k : ℕ) (a b : List ℕ) → take (k * n) a ≡ take (k * n) b
    → permutations_in n k a ≡ permutations_in n k b
unfolding permutations_in
permutations-front n zero a b e = refl
permutations-front n (suc k) a b e =
    let w = same_front n (k * n) a b (subst (λ j. take j a ≡ take j b) (suc-mul k n ∙ add_comm (k * n) n) e) in
    ap₂ (λ i l. let p : Permutation = record { images = i } in p ∷ l) w.0
    (permutations-front n k (drop n a) (drop n b) w.1)

module _ (f g : Formula) (clauses : ClauseSlices) where
  pub same_problem : Alike f g → problem_of f clauses ≡ problem_of g clauses
  unfolding problem_of
  same_problem a =
      let perms : permutations_in f.variables f.permutations f.images
      ≡ permutations_in g.variables g.permutations g.images =
      ap₂ (λ n k. permutations_in n k f.images) a.variables a.permutations
      ∙ permutations-front g.variables g.permutations f.images g.images a.images in
      λ i. record {
        variables = a.variables i;
        total = a.clauses i;
        target = a.target i;
        permutations = perms i;
        clauses = numbered (clauses_of clauses);
      }
