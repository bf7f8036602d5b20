-- `solver::solve` meets its contract: what the smallest arrays take is solved as with the largest, and where the text
-- is long or these are refused by 4 larger ones are lent. Assumes nothing.
use Rattle.std.proofs.Common.{sym, ◌∙◌, lit≤}
use Rattle.dimacs_lines.specs.Laws.ParsedAs.{tiny_clauses}
use Rattle.solver.specs.Laws.SolverLaws.{settled_solved, room_kept, kept_solved}
use Rattle.solver.proofs.solve.Goals as goal

pub returns-then-not-wants_room : goal.returns-then-not-wants_room
returns-then-not-wants_room c =
    let tiny = c.solve_with-tiny in
    rw c.as_settled.ensures
    (settled_solved c.args.text.now tiny_clauses (lit≤ tt) tiny.result tiny.ensures (sym c.wants_room.ensures ∙ c.if-not-wants_room.true))

pub returns : goal.returns
returns c =
    let tiny = c.solve_with-tiny in
    let kept = room_kept c.args.text.now tiny_clauses tiny.result tiny.ensures (sym c.wants_room.ensures ∙ c.if-not-wants_room.false) in
    kept_solved c.args.text.now _ kept c.solve_larger-2.ensures
