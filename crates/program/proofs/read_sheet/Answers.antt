-- `program::read_sheet` meets its contract: where the smaller arrays are too short the output is as it was, and the
-- largest never are. Assumes nothing.
use Rattle.std.proofs.Common.{sym, ◌∙◌, subst, lit≤}
use Rattle.dimacs_lines.specs.Laws.ParsedAs.{few_clauses}
use Rattle.formula.specs.Limits.{max_clauses}
use Rattle.program_text.specs.Laws.Putting.{Printed}
use Rattle.program.specs.Laws.Contracts.{report_for}
use Rattle.program.specs.Laws.ProgramLaws.{told_sheet, told_largest, room_kept}
use Rattle.program.proofs.read_sheet.Goals as goal

pub returns-then-not-wants_room : goal.returns-then-not-wants_room
returns-then-not-wants_room c =
    let few = c.print_with-few in
    told_sheet c.args.text.now few_clauses (lit≤ tt) few.new.out few.result few.ensures (sym c.wants_room.ensures ∙ c.if-not-wants_room.true) _ _ c.told.ensures

pub returns : goal.returns
returns c =
    let text = c.args.text.now in
    let few = c.print_with-few in
    let most = c.print_with-most in
    let kept = room_kept text few_clauses (lit≤ tt) few.new.out few.result few.ensures (sym c.wants_room.ensures ∙ c.if-not-wants_room.false) in
    subst (λ l. Printed (report_for text) l c.told-2.result c.told-2.new.out) kept
    (told_largest text max_clauses (lit≤ tt) most.new.out (lit≤ tt) most.result most.ensures _ _ c.told-2.ensures)
