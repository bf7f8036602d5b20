-- `permutation_images::moved` meets its contract: a law of SetLaws for each event of the loop, and at most eight turns.
-- Assumes nothing.
use Rattle.std.proofs.Common.{ap, sym, ◌∙◌, le_of_lt, lt_of_lt_of_le, arith, bit_or}
use Rattle.points.specs.Laws.NextLaws.{digits_few}
use Rattle.permutation_images.specs.Laws.LoopLaws.{movable_at}
use Rattle.permutation_images.specs.Laws.SetLaws.{sending_begins, sending_less, sending_goes_on}
use Rattle.permutation_images.specs.Laws.SetLaws.{sending_rest, sending_ends}
use Rattle.permutation_images.proofs.moved.Goals as goal

pub overflow_cast-n : goal.overflow_cast-n
overflow_cast-n c = let few = c.requires.size in omega (arith, digits_few)

pub loop-v-init : goal.loop-v-init
loop-v-init c = (sending_begins c.requires c.next_variable-v.ensures, omega arith)

pub overflow_cast-v : goal.overflow_cast-v
overflow_cast-v c = let few = c.requires.size in omega (arith, digits_few, c.loop-v-test.true)

pub moved_from-rest-requires : goal.moved_from-rest-requires
moved_from-rest-requires c = (c.requires, le_of_lt c.loop-v-test.true)

-- the images of what is left, and those of what was taken
pub returns-then-taken-ge-SINGLE : goal.returns-then-taken-ge-SINGLE
returns-then-taken-ge-SINGLE c =
    let w = c.loop-v.invariant.0 in
    c.union.ensures
    ∙ ap (λ t. bit_or t c.loop-v.r) (c.moved_from-rest.ensures ∙ sending_rest c.requires w c.loop-v-test.true)
    ∙ sym w.split

-- the number read is that of a digit of a point
pub overflow_sub-image : goal.overflow_sub-image
overflow_sub-image c = (movable_at c.requires c.loop-v.v c.loop-v-test.true).0

pub overflow_cast-image-in-loop-v : goal.overflow_cast-image-in-loop-v
overflow_cast-image-in-loop-v c = let h = movable_at c.requires c.loop-v.v c.loop-v-test.true in omega (arith, digits_few)

pub with_variable-r-requires : goal.with_variable-r-requires
with_variable-r-requires c = let h = movable_at c.requires c.loop-v.v c.loop-v-test.true in omega arith

pub flip-left-requires : goal.flip-left-requires
flip-left-requires c = lt_of_lt_of_le c.loop-v-test.true c.requires.size

pub loop-v-smaller : goal.loop-v-smaller
loop-v-smaller c = sending_less c.requires c.loop-v.invariant.0 c.loop-v-test.true _ c.flip-left.ensures

pub loop-v-preserved : goal.loop-v-preserved
loop-v-preserved c =
    (sending_goes_on c.requires c.loop-v.invariant.0 c.loop-v-test.true c.flip-left.ensures c.next_variable-v-in-loop-v.ensures c.with_variable-r.ensures, omega arith)

pub returns : goal.returns
returns c = sending_ends c.requires c.loop-v.invariant.0 c.loop-v-test.false
