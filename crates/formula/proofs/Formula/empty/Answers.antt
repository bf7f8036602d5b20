-- `formula::Formula::empty` meets its contract. Assumes nothing.
use Rattle.std.proofs.Common.{refl}
use Rattle.formula.specs.Problem.{empty_formula}
use Rattle.formula.proofs.Formula.empty.Goals as goal

pub returns : goal.returns
unfolding empty_formula
returns c = refl
