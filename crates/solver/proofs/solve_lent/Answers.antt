-- `solver::solve_lent` meets its contract: what the search answers and, where it refutes, what the certificate is.
-- Assumes nothing.
use Rattle.std.proofs.Common.{Ok, refl, ap, ◌∙◌}
use Rattle.solver.specs.Contract.{reply_of_solution}
use Rattle.solver.specs.Laws.SolverLaws.{solves, refuted, solves_refuted, satisfiable_differs, unknown_differs}
use Rattle.solver.specs.Laws.SolverLaws.{refusal_differs}
use Rattle.solver.proofs.solve_lent.Goals as goal

pub certify-requires : goal.certify-requires
certify-requires c =
    let k = c.in-Ok-Unsatisfiable in
    let e = rw k.is at k.field-0-is in
    refuted _ _ _ _ _ c.search_lent-found.ensures _ (k.is ∙ ap Ok e)

pub returns-in-Ok-Satisfiable : goal.returns-in-Ok-Satisfiable
unfolding reply_of_solution
returns-in-Ok-Satisfiable c =
    let k = c.in-Ok-Satisfiable in
    let e = rw k.is at k.field-0-is in
    solves _ _ _ _ _ _ c.search_lent-found.ensures _ _ (k.is ∙ ap Ok e) refl refl satisfiable_differs

pub returns-in-Ok-Unsatisfiable : goal.returns-in-Ok-Unsatisfiable
returns-in-Ok-Unsatisfiable c =
    let k = c.in-Ok-Unsatisfiable in
    let e = rw k.is at k.field-0-is in
    solves_refuted _ _ _ _ _ _ c.search_lent-found.ensures _ (k.is ∙ ap Ok e) _ _ c.certify.ensures

pub returns-in-Ok-Unknown : goal.returns-in-Ok-Unknown
unfolding reply_of_solution
returns-in-Ok-Unknown c =
    let k = c.in-Ok-Unknown in
    let e = rw k.is at k.field-0-is in
    solves _ _ _ _ _ _ c.search_lent-found.ensures _ _ (k.is ∙ ap Ok e) refl refl unknown_differs

pub returns-in-Err : goal.returns-in-Err
unfolding reply_of_solution
returns-in-Err c = solves _ _ _ _ _ _ c.search_lent-found.ensures _ _ c.in-Err.is refl refl refusal_differs
