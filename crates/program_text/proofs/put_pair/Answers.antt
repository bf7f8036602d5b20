-- `program_text::put_pair` meets its contract: a short head and two numbers are within the bound. Assumes nothing.
use Rattle.std.proofs.Common.{le_trans, arith}
use Rattle.program_text.specs.Laws.Putting.{put_front}
use Rattle.program_text.specs.Laws.ReportLaws.{line_short}
use Rattle.program_text.proofs.put_pair.Goals as goal

pub put_line-requires : goal.put_line-requires
put_line-requires c =
    let a = c.args in
    omega (arith, line_short a.head.now a.a a.b c.requires.0 (omega arith) (omega arith))

pub returns : goal.returns
returns c =
    let a = c.args in
    put_front _ _ _ _ (le_trans (line_short a.head.now a.a a.b c.requires.0 (omega arith) (omega arith)) c.requires.1) c.put_line.ensures
