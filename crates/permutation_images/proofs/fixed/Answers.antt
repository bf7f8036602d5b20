-- `permutation_images::fixed` meets its contract: at index i the set has those of the first i variables that stay.
-- Assumes nothing.
use Rattle.std.proofs.Common.{arith}
use Rattle.points.specs.Laws.NextLaws.{digits_few}
use Rattle.permutation_images.specs.Laws.SetLaws.{fixes_none, fixes_goes_on, fixes_all}
use Rattle.permutation_images.proofs.fixed.Goals as goal

pub overflow_cast-i : goal.overflow_cast-i
overflow_cast-i c = let few = c.requires.size in omega (arith, digits_few)

pub with_fixed-r-requires : goal.with_fixed-r-requires
with_fixed-r-requires c = let few = c.requires.size in omega arith

pub loop-i-preserved : goal.loop-i-preserved
loop-i-preserved c = fixes_goes_on c.loop-i.invariant c.with_fixed-r.ensures

pub returns : goal.returns
returns c = fixes_all c.loop-i.invariant (omega arith) (omega arith)

pub loop-i-init : goal.loop-i-init
loop-i-init c = fixes_none
