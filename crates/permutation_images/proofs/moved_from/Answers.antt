-- `permutation_images::moved_from` meets its contract: at index i the set holds what the numbers from i on send.
-- Assumes nothing.
use Rattle.std.proofs.Common.{◌≡◌, sym, ap, ◌∙◌, ◌-◌, ◌+◌, ◌*◌, ◌/◌, ◌%◌, ◌^◌, bit_or, le_antisymm, arith, length, get_or, drop}
use lib.Seq.{drop-length}
use Rattle.points.specs.Laws.NextLaws.{digits_few}
use Rattle.permutation_images.specs.Laws.LoopLaws.{movable_at, moved_step}
use Rattle.permutation_theory.specs.Permutations.{moved}
use Rattle.permutation_images.proofs.moved_from.Goals as goal

pub loop-i-init : goal.loop-i-init
unfolding moved
loop-i-init c = (c.requires.1, sym (ap (λ l. moved l (c.args.s / 2 ^ length c.args.e.now)) (drop-length c.args.e.now)))

pub overflow_cast-from : goal.overflow_cast-from
overflow_cast-from c = omega (arith, c.requires.0.size, digits_few)

pub overflow_sub-to : goal.overflow_sub-to
overflow_sub-to c = (movable_at c.requires.0 (c.loop-i.i - 1) (omega arith)).0

pub carry-r-requires : goal.carry-r-requires
carry-r-requires c =
    let to = movable_at c.requires.0 (c.loop-i.i - 1) (omega arith) in
    omega (arith, c.requires.0.size)

pub loop-i-preserved : goal.loop-i-preserved
loop-i-preserved c =
    let l = c.loop-i in
    let a = c.args in
    let back : l.i - 1 + 1 ≡ l.i = omega arith in (
      omega arith,
      c.carry-r.ensures
          ∙ ap (bit_or (a.s / 2 ^ (l.i - 1) % 2 * 2 ^ (get_or a.e.now (l.i - 1) 0 - 1))) (l.invariant.1 ∙ ap (λ j. moved (drop j a.e.now) (a.s / 2 ^ j)) (sym back))
          ∙ sym (moved_step 0 a.e.now 0 (l.i - 1) (omega arith) a.s),
    )

pub returns : goal.returns
returns c =
    let l = c.loop-i in
    let a = c.args in
    l.invariant.1 ∙ ap (λ j. moved (drop j a.e.now) (a.s / 2 ^ j)) (le_antisymm c.loop-i-test.false l.invariant.0)
