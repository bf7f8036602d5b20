-- `program_text::put_satisfiable` meets its contract: the head, the names, their end and the last line. Assumes
-- nothing.
use Rattle.std.proofs.Common.{le_trans, arith}
use Rattle.text_output.specs.Laws.DecimalLaws.{line-length}
use Rattle.text_output.specs.Laws.Putting.{put_both}
use Rattle.program_text.specs.Report.{changes_head, slots_between, satisfiable_text}
use Rattle.program_text.specs.Laws.Putting.{put_front}
use Rattle.program_text.specs.Laws.ReportLaws.{literals-length, satisfiable-length}
use Rattle.program_text.proofs.put_satisfiable.Goals as goal

pub put_literals-second-requires : goal.put_literals-second-requires
put_literals-second-requires c = (c.requires.0, omega (arith, c.requires.0, c.put_text-first.ensures.behind))

pub put_text-third-requires : goal.put_text-third-requires
put_text-third-requires c =
    let a = c.args in
    omega (arith, c.requires.0, c.put_text-first.ensures.behind, c.put_literals-second.ensures.behind, literals-length a.x a.n c.requires.0)

pub put_line-requires : goal.put_line-requires
put_line-requires c =
    let a = c.args in
    omega (
      arith,
      c.requires.0,
      c.put_text-first.ensures.behind,
      c.put_literals-second.ensures.behind,
      c.put_text-third.ensures.behind,
      literals-length a.x a.n c.requires.0,
      line-length changes_head slots_between 9 9 a.distance a.filled (omega arith) (omega arith),
    )

pub returns : goal.returns
unfolding satisfiable_text
returns c =
    let a = c.args in
    put_front _ _ _ _ (le_trans (satisfiable-length a.n a.x a.distance a.filled c.requires.0 (omega arith) (omega arith)) c.requires.1)
    (put_both (put_both (put_both c.put_text-first.ensures c.put_literals-second.ensures) c.put_text-third.ensures) c.put_line.ensures)
