-- `dimacs_problem::expect_number` meets its contract: the part up to the next blank is read. Assumes nothing.
use Rattle.std.proofs.Common.{sym}
use Rattle.dimacs_problem.specs.Laws.ProblemScanLaws.{number_behind, number_other}
use Rattle.dimacs_problem.proofs.expect_number.Goals as goal

pub returns-in_err-value : goal.returns-in_err-value
returns-in_err-value c = rw c.from_residual.ensures (number_other c.args.line.now _ _ _ c.run_end-from.ensures c.run_end-to.ensures (sym c.in_err-value.ensures))

pub returns : goal.returns
returns c = number_behind c.args.line.now _ _ _ c.run_end-from.ensures c.run_end-to.ensures _ (sym c.in_ok-value.ensures)
