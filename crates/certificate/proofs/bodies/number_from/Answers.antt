-- `certificate::bodies::number_from` meets its contract: the bytes are walked from the last to the first. Assumes
-- nothing.
use Rattle.std.proofs.Common.{arith}
use Rattle.certificate.specs.Laws.BytesLaws.{reading_begins, reading_goes_on, reading_fits, reading_ends}
use Rattle.certificate.proofs.bodies.number_from.Goals as goal

pub loop-byte-init : goal.loop-byte-init
loop-byte-init c =
    rw (c.into_iter-byte-iterator.ensures.into_iter_gives, c.rev-byte-items.ensures.source, c.iter.ensures.rest) (reading_begins _)

pub overflow_mul-r : goal.overflow_mul-r
overflow_mul-r c =
    let next = reading_goes_on c.loop-byte.invariant _ _ c.in-Some.ensures.steps (λ i. omega (arith, c.type_inv.bytes i)) in
    let fits = reading_fits next c.requires in
    omega arith

pub overflow_add-r : goal.overflow_add-r
overflow_add-r c =
    let next = reading_goes_on c.loop-byte.invariant _ _ c.in-Some.ensures.steps (λ i. omega (arith, c.type_inv.bytes i)) in
    let fits = reading_fits next c.requires in
    omega arith

pub loop-byte-preserved : goal.loop-byte-preserved
loop-byte-preserved c = reading_goes_on c.loop-byte.invariant _ _ c.in-Some.ensures.steps (λ i. omega (arith, c.type_inv.bytes i))

pub returns : goal.returns
returns c = reading_ends c.loop-byte.invariant c.in-None.ensures.steps.0
