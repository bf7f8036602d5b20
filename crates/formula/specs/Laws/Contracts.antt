-- What contracts of functions inside the library cite beside the definitions. Assumes nothing.
use Rattle.std.specs.Prelude.{List, [], ◌∷◌, ℕ}
use Rattle.point_slices.specs.Slices.{ClauseSlices}
use Rattle.formula.specs.declared.Formula.{Formula}
use Rattle.formula.specs.declared.view.FormulaView.{FormulaView}
use Rattle.formula.specs.declared.Numbers.{Numbers}
use Rattle.formula.specs.Problem.{problem_of}
use Rattle.formula.specs.Reply.{Fault, first}
use Rattle.formula.specs.Refusals.{formula_fault, permutation_fault, symmetry_fault}

-- the formula that numbers and images make
abbrev pub formula_with : Numbers → List ℕ → Formula
formula_with f images =
    record {
      variables = f.variables;
      clauses = f.clauses;
      target = f.target;
      permutations = f.permutations;
      images = images;
    }

-- the formula that a value of the code's type lends
abbrev pub formula_lent : FormulaView → Formula
formula_lent v = formula_with v.numbers v.images.now

-- the rows 10, 11 and 12 in this order, which the search and the writer test first
unfoldable pub problem_fault : Formula → ClauseSlices → Fault
unfolding first formula_fault permutation_fault symmetry_fault problem_of
problem_fault f clauses =
    let pb = problem_of f clauses in
    first (formula_fault f clauses ∷ permutation_fault pb.variables pb.permutations
    ∷ symmetry_fault pb.clauses pb.permutations ∷ [])
