-- `dimacs_lines::copy` meets its contract: there is room, the first i points are there, the others as they were.
-- Assumes nothing.
use Rattle.std.proofs.Common.{◌∙◌, rules}
use Rattle.math.specs.Laws.OverLaws.{copying_begins, copying_goes_on, copying_ends}
use Rattle.dimacs_lines.proofs.copy.Goals as goal

pub loop-i-init : goal.loop-i-init
loop-i-init c = search (rules, copying_begins)

pub loop-i-preserved : goal.loop-i-preserved
loop-i-preserved c = (search (rules, copying_goes_on), c.put_point.ensures.1 ∙ c.loop-i.invariant.1)

pub returns : goal.returns
returns c = search (rules, copying_ends)
