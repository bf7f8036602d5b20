-- `solver::solve_larger` meets its contract: where the smaller arrays are too short all is as it was, and the largest
-- never are. Assumes nothing.
use Rattle.std.proofs.Common.{sym, ◌∙◌, lit≤}
use Rattle.dimacs_lines.specs.Laws.ParsedAs.{few_clauses}
use Rattle.formula.specs.Limits.{max_clauses}
use Rattle.solver.specs.Laws.SolverLaws.{settled_solved, largest_solved, room_kept, kept_solved}
use Rattle.solver.proofs.solve_larger.Goals as goal

pub returns-then-not-wants_room : goal.returns-then-not-wants_room
returns-then-not-wants_room c =
    let few = c.solve_with-few in
    rw c.as_settled.ensures
    (settled_solved c.args.text.now few_clauses (lit≤ tt) few.result few.ensures (sym c.wants_room.ensures ∙ c.if-not-wants_room.true))

pub returns : goal.returns
returns c =
    let few = c.solve_with-few in
    let most = c.solve_with-most in
    let kept = room_kept c.args.text.now few_clauses few.result few.ensures (sym c.wants_room.ensures ∙ c.if-not-wants_room.false) in
    rw c.as_settled-2.ensures
    (kept_solved c.args.text.now _ kept
    (largest_solved c.args.text.now max_clauses (lit≤ tt) (lit≤ tt) most.result most.ensures))
