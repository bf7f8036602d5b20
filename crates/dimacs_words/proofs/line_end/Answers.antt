-- `dimacs_words::line_end` meets its contract: the line does not end in the blocks passed, and then where the run does.
-- Assumes nothing.
use Rattle.dimacs_words.specs.Laws.ScanLaws.{run_joins}
use Rattle.dimacs_words.proofs.line_end.Goals as goal

pub returns : goal.returns
returns c =
    let near = c.skip_blocks.ensures in
    run_joins near.ordered near.passes c.run_end.ensures
