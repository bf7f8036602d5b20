-- What the functions of the writer require and answer. Assumes nothing.
use Rattle.std.specs.Prelude.{◌≡◌, length}
use Rattle.permutation_theory.specs.Permutations.{permutations_in}
use Rattle.point_slices.specs.Slices.{ClauseSlices}
use Rattle.formula.specs.declared.Formula.{Formula}
use Rattle.formula.specs.Limits.{max_images}
use Rattle.formula.specs.Refusals.{formula_fault, permutation_fault}
use Rattle.formula.specs.Reply.{Fault, no_fault}

-- row 11 of a formula
abbrev pub eleven_of : Formula → Fault
eleven_of f = permutation_fault f.variables (permutations_in f.variables f.permutations f.images)

-- what is certain once refusals 10 and 11 have passed
pub record Writable (f : Formula) (clauses : ClauseSlices) : Type 0 where
  pub ten : formula_fault f clauses ≡ no_fault
  pub eleven : eleven_of f ≡ no_fault
  pub places : length f.images ≡ max_images
