-- `program_text::put_literals` meets its contract: before name i the first i are put. Assumes nothing.
use Rattle.std.proofs.Common.{◌≡◌, refl, sym, ap, ◌∙◌, arith}
use Rattle.text_output.specs.Laws.Putting.{put_none, put_both, put_as}
use Rattle.program_text.specs.Report.{literals}
use Rattle.program_text.specs.Laws.ReportLaws.{literals_next, literals-length}
use Rattle.program_text.proofs.put_literals.Goals as goal

pub loop-i-init : goal.loop-i-init
unfolding literals
loop-i-init c = (refl, put_none c.args.at c.args.out.now)

pub put_literal-place-requires : goal.put_literal-place-requires
put_literal-place-requires c =
    let l = c.loop-i in
    (omega (arith, c.requires.0), omega (arith, literals-length c.args.x l.i (omega (arith, c.requires.0)), l.invariant.1.behind, c.requires.1))

pub loop-i-preserved : goal.loop-i-preserved
loop-i-preserved c =
    let l = c.loop-i in
    (c.put_literal-place.auto.out ∙ l.invariant.0, put_as (sym (literals_next c.args.x l.i)) (put_both l.invariant.1 c.put_literal-place.ensures))

pub returns : goal.returns
returns c =
    let a = c.args in
    let l = c.loop-i in
    let all : l.i ≡ a.n = omega arith in
    put_as (ap (literals a.x) all) l.invariant.1
