-- `solver::solve_formula` meets its contract: the formula is what its view lends. Assumes nothing.
use Rattle.std.proofs.Common.{sym}
use Rattle.solver.proofs.solve_formula.Goals as goal

pub returns : goal.returns
returns c = rw (sym c.view.ensures) c.solve_lent.ensures
