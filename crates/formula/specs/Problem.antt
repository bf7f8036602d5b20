-- Document 01, 'Sheet': what a sheet by value with its rules says, as the one record that search, certificate and
-- checker go by. Assumes nothing.
use Rattle.std.specs.Prelude.{List, ℕ, ◌<◌, ◌^◌, replicate}
use Rattle.points.specs.Points.{Numbered, SatisfiesAll, numbered_from, numbered}
use Rattle.point_slices.specs.Slices.{ClauseSlices, beside, clauses_of}
use Rattle.permutation_theory.specs.Permutations.{Permutation, permutations_in}
use Rattle.formula.specs.declared.Formula.{Formula}
use Rattle.formula.specs.Limits.{max_images}

-- n, m (the number of rules), the wish, the exchanges, and the rules with their numbers
pub record Problem : Type 0 where
  pub variables : ℕ
  pub total : ℕ
  pub target : ℕ
  pub permutations : List Permutation
  pub clauses : List Numbered

-- S21: "The sheet by value holds n, C, the wish, and the exchanges as 1,024 bytes beside their number", and two slices
-- hold its rules
unfoldable pub problem_of : Formula → ClauseSlices → Problem
unfolding permutations_in numbered_from beside
problem_of f clauses =
    record {
      variables = f.variables;
      total = f.clauses;
      target = f.target;
      permutations = permutations_in f.variables f.permutations f.images;
      clauses = numbered (clauses_of clauses);
    }

-- N2: "a sheet by value .. that is 0 throughout"
unfoldable pub empty_formula : Formula
empty_formula = record { variables = 0; clauses = 0; target = 0; permutations = 0; images = replicate max_images 0 }

-- D3.3: "none of the 2^n choices meets the rules"
abbrev pub Unsatisfiable : Problem → Type 0
Unsatisfiable pb = (x : ℕ) → x < 2 ^ pb.variables → SatisfiesAll pb.clauses x → ⊥
