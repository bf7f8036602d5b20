-- `dimacs_words::ends_inside` meets its contract: what was found, or what is left, is the whole. Assumes nothing.
use Rattle.std.proofs.Common.{sym, ◌∙◌}
use Rattle.dimacs_format.specs.Text.{ends_line}
use Rattle.dimacs_words.specs.Laws.ScanLaws.{left_goes_on, left_ends}
use Rattle.dimacs_words.proofs.ends_inside.Goals as goal

pub loop-b-preserved : goal.loop-b-preserved
unfolding ends_line
loop-b-preserved c =
    let l = c.loop-b in
    l.invariant ∙ left_goes_on ends_line _ l.found l.b-index c.loop-b-test.true

pub returns : goal.returns
returns c =
    let l = c.loop-b in
    sym (l.invariant ∙ left_ends ends_line _ l.found l.b-index c.loop-b-test.false)
