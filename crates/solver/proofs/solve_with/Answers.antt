-- `solver::solve_with` meets its contract: what the arrays take is solved as with the largest. Assumes nothing.
use Rattle.std.proofs.Common.{refl}
use Rattle.std.proofs.lemmas.Result.{err_from_is_err_and}
use Rattle.solver.specs.Laws.SolverLaws.{read_held, read_solved}
use Rattle.solver.proofs.solve_with.Goals as goal

pub returns-in_err-numbers : goal.returns-in_err-numbers
returns-in_err-numbers g c =
    let p = err_from_is_err_and c.from_residual.result c.from_residual.ensures.1 in
    rw (p.1, p.2) (record { reply = c.in_err-numbers.ensures.reply; slots = refl; output = refl })

pub solve_read-requires : goal.solve_read-requires
solve_read-requires g c = read_held _ _ _ _ _ c.in_ok-numbers.ensures

pub returns : goal.returns
returns g c = read_solved _ _ c.requires _ _ _ c.in_ok-numbers.ensures _ c.solve_read.ensures
