-- `program_text::put_report` meets its contract: of each reply its own text. Assumes nothing.
use Rattle.program_text.specs.Report.{report_of, unknown_text}
use Rattle.program_text.proofs.put_report.Goals as goal

pub returns-in-Ok-Satisfiable : goal.returns-in-Ok-Satisfiable
unfolding report_of
returns-in-Ok-Satisfiable c =
    let k = c.in-Ok-Satisfiable in
    let e = rw k.is at k.field-0-is in
    rw (k.is, e) c.put_satisfiable.ensures

pub returns-in-Ok-Unsatisfiable : goal.returns-in-Ok-Unsatisfiable
unfolding report_of
returns-in-Ok-Unsatisfiable c =
    let k = c.in-Ok-Unsatisfiable in
    let e = rw k.is at k.field-0-is in
    rw (k.is, e) c.put_unsatisfiable.ensures

pub returns-in-Ok-Unknown : goal.returns-in-Ok-Unknown
unfolding report_of unknown_text
returns-in-Ok-Unknown c =
    let k = c.in-Ok-Unknown in
    let e = rw k.is at k.field-0-is in
    rw (k.is, e) c.put_pair.ensures

pub returns-in-Err : goal.returns-in-Err
unfolding report_of
returns-in-Err c = rw c.in-Err.is c.put_refused.ensures
