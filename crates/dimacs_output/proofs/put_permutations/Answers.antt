-- `dimacs_output::put_permutations` meets its contract: a line each. Assumes nothing.
use Rattle.std.proofs.Common.{sym, ap, ◌∙◌, subst, ◌<◌, le_trans, le_of_eq, arith, length}
use Rattle.permutation_images.specs.Laws.Contracts.{permutations_of}
use Rattle.permutation_images.specs.Laws.LoopLaws.{length-permutations, permutation_at, part_ends, no_permutation}
use Rattle.text_output.specs.Laws.Putting.{places_end, first-none, first_next, first-all, room_left, put_as}
use Rattle.dimacs_text.specs.Laws.TextParts.{permutation_part}
use Rattle.dimacs_text.specs.Laws.LengthLaws.{permutation_length}
use Rattle.dimacs_output.specs.Laws.LinePutting.{longest_images, part_length}
use Rattle.dimacs_output.proofs.put_permutations.Goals as goal

pub loop-i-init : goal.loop-i-init
loop-i-init c =
    let a = c.args in
    first-none permutation_part (permutations_of a.permutations) a.at a.out.now

pub at-requires : goal.at-requires
at-requires c =
    let a = c.args in
    le_trans (part_ends c.loop-i.i a.permutations.count a.permutations.variables c.loop-i-test.true) c.requires.2

pub put_permutation-place-requires : goal.put_permutation-place-requires
put_permutation-place-requires c =
    let a = c.args in
    let es = permutations_of a.permutations in
    let counted = length-permutations a.permutations.variables a.permutations.count a.permutations.images.now in
    let lt = subst (λ k. c.loop-i.i < k) (sym counted) c.loop-i-test.true in
    let size = ap length c.at.ensures ∙ part_length a.permutations.variables c.loop-i.i a.permutations.images.now (le_trans (part_ends c.loop-i.i a.permutations.count a.permutations.variables c.loop-i-test.true) c.requires.2) in
    (omega (arith, size, c.requires.0), omega (arith, size, c.requires.1), room_left permutation_part longest_images es (λ e m. le_trans (permutation_length a.permutations.variables e c.requires.0 c.requires.1 (c.requires.3 e m)) (omega (arith, c.requires.1))) a.at a.out.now c.loop-i.invariant lt places_end (omega (arith, counted, c.requires.4)))

pub loop-i-preserved : goal.loop-i-preserved
loop-i-preserved c =
    let a = c.args in
    let es = permutations_of a.permutations in
    let lt = subst (λ k. c.loop-i.i < k) (sym (length-permutations a.permutations.variables a.permutations.count a.permutations.images.now)) c.loop-i-test.true in
    first_next permutation_part es a.at a.out.now c.loop-i.invariant no_permutation lt
    (put_as (ap permutation_part (ap (λ l. record { images = l }) c.at.ensures ∙ sym (permutation_at a.permutations.variables a.permutations.count c.loop-i.i a.permutations.images.now no_permutation c.loop-i-test.true))) c.put_permutation-place.ensures) c.put_permutation-place.auto.out

pub returns : goal.returns
returns c =
    let a = c.args in
    first-all permutation_part (permutations_of a.permutations) a.at a.out.now c.loop-i.invariant (le_trans (le_of_eq (length-permutations a.permutations.variables a.permutations.count a.permutations.images.now)) c.loop-i-test.false)
