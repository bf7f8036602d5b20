-- Which formulas by value say the same. Definition alone; AlikeLaws has what follows. Assumes nothing.
use Rattle.std.specs.Prelude.{◌≡◌, ◌*◌, take}
use Rattle.formula.specs.declared.Formula.{Formula}

-- S21: two formulas that agree in n, C, the target, the number of permutations and their bytes: "the reader makes
-- unused bytes 0 and nothing else reads them"
pub record Alike (f g : Formula) : Type 0 where
  pub variables : f.variables ≡ g.variables
  pub clauses : f.clauses ≡ g.clauses
  pub target : f.target ≡ g.target
  pub permutations : f.permutations ≡ g.permutations
  pub images : take (g.permutations * g.variables) f.images ≡ take (g.permutations * g.variables) g.images
