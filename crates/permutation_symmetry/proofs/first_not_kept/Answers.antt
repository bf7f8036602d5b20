-- `permutation_symmetry::first_not_kept` meets its contract: before index j none has failed. Assumes nothing.
use Rattle.std.proofs.Common.{rules, ap, not}
use Rattle.permutation_images.specs.Laws.LoopLaws.{listed_movable, testing_begins, testing_whole}
use Rattle.permutation_images.specs.Laws.LoopLaws.{testing_stops, testing_goes_on, testing_ends}
use Rattle.permutation_symmetry.proofs.first_not_kept.Goals as goal

pub at-requires : goal.at-requires
at-requires c = testing_whole c.loop-j.invariant c.loop-j-test.true

pub keeps-requires : goal.keeps-requires
keeps-requires c = search (rules, c.at.ensures, listed_movable)

pub loop-j-init : goal.loop-j-init
loop-j-init c = testing_begins c.requires.room

pub returns-then-not-keeps-clause-first : goal.returns-then-not-keeps-clause-first
returns-then-not-keeps-clause-first c = testing_stops c.loop-j.invariant c.loop-j-test.true c.at.ensures c.keeps.ensures (ap not c.if-not-keeps.true)

pub loop-j-preserved : goal.loop-j-preserved
loop-j-preserved c = testing_goes_on c.loop-j.invariant c.loop-j-test.true c.at.ensures c.keeps.ensures (ap not c.if-not-keeps.false)

pub returns-clause-first : goal.returns-clause-first
returns-clause-first c = testing_ends c.loop-j.invariant c.loop-j-test.false
