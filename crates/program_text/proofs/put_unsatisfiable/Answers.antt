-- `program_text::put_unsatisfiable` meets its contract: a field and a line end. Assumes nothing.
use Rattle.std.proofs.Common.{le_trans, arith, length-append}
use Rattle.text_output.specs.Decimal.{field, line_end}
use Rattle.text_output.specs.Laws.Putting.{put_both}
use Rattle.program_text.specs.Report.{unsatisfiable_head, unsatisfiable_text}
use Rattle.program_text.specs.Laws.Putting.{put_front}
use Rattle.program_text.specs.Laws.ReportLaws.{unsatisfiable_length}
use Rattle.program_text.proofs.put_unsatisfiable.Goals as goal

pub put_field-place-requires : goal.put_field-place-requires
unfolding unsatisfiable_text
put_field-place-requires c =
    let k = c.args.filled in
    omega (arith, length-append (field unsatisfiable_head k) line_end, unsatisfiable_length k (omega arith))

pub put_text-requires : goal.put_text-requires
unfolding unsatisfiable_text
put_text-requires c =
    let k = c.args.filled in
    omega (arith, length-append (field unsatisfiable_head k) line_end, unsatisfiable_length k (omega arith), c.put_field-place.ensures.behind)

pub returns : goal.returns
unfolding unsatisfiable_text
returns c =
    put_front _ _ _ _ (le_trans (unsatisfiable_length c.args.filled (omega arith)) c.requires) (put_both c.put_field-place.ensures c.put_text.ensures)
