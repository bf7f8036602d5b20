-- `search_indexed::carry` meets its contract: the first i numbers are there, the others as they were. Assumes nothing.
use Rattle.std.proofs.Common.{refl, rules}
use Rattle.math.specs.Laws.OverLaws.{copying_begins, copying_goes_on, copying_ends}
use Rattle.search_indexed.proofs.carry.Goals as goal

pub loop-i-init : goal.loop-i-init
loop-i-init c = search (rules, copying_begins)

pub loop-i-preserved : goal.loop-i-preserved
loop-i-preserved c = copying_goes_on c.loop-i.invariant c.loop-i-test.true refl refl

pub returns : goal.returns
returns c = search (rules, copying_ends)
