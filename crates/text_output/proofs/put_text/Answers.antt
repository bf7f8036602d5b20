-- `text_output::put_text` meets its contract: a byte each. Assumes nothing.
use Rattle.std.proofs.Common.{[], ◌∷◌, arith}
use Rattle.text_output.specs.Laws.Putting.{places_end, first-none, first_next, first-all, room_left}
use Rattle.text_output.specs.Laws.Putting.{flat_bytes, put_as}
use Rattle.text_output.proofs.put_text.Goals as goal

pub loop-b-init : goal.loop-b-init
loop-b-init c = let a = c.args in first-none (λ b. b ∷ []) a.text.now a.at a.out.now

pub put_byte-place-requires : goal.put_byte-place-requires
put_byte-place-requires c =
    let a = c.args in
    omega (arith, room_left (λ b. b ∷ []) 1 a.text.now (λ b m. omega arith) a.at a.out.now c.loop-b.invariant c.loop-b-test.true places_end (omega (arith, c.requires)))

pub loop-b-preserved : goal.loop-b-preserved
loop-b-preserved c =
    let a = c.args in
    first_next (λ b. b ∷ []) a.text.now a.at a.out.now c.loop-b.invariant 0 c.loop-b-test.true c.put_byte-place.ensures c.put_byte-place.auto.out

pub returns : goal.returns
returns c =
    let a = c.args in
    put_as (flat_bytes a.text.now) (first-all (λ b. b ∷ []) a.text.now a.at a.out.now c.loop-b.invariant c.loop-b-test.false)
