-- `permutation_images::is_permutation` meets its contract: the test over the whole is, at each index, that over the
-- numbers from there on with what was seen before. Assumes nothing.
use Rattle.std.proofs.Common.{sym, ap, ◌∙◌, ◌+◌, ◌≤◌, arith, length, drop, drop_of_length-le, ne_eqb}
use Rattle.permutation_images.specs.Laws.LoopLaws.{arranged, arranged_test, arranged_stops, arranged_goes_on}
use Rattle.permutation_images.specs.Laws.LoopLaws.{fresh_says}
use Rattle.permutation_theory.specs.Permutations.{is_permutation}
use Rattle.permutation_images.proofs.is_permutation.Goals as goal

pub returns-then-e-n : goal.returns-then-e-n
unfolding is_permutation
returns-then-e-n c = rw (ne_eqb _ _ c.if-e-n.true)

pub loop-image-init : goal.loop-image-init
loop-image-init c = sym (arranged_test c.args.n (record { images = c.args.e.now }) c.if-e-n.false)

pub returns-then-not-fresh : goal.returns-then-not-fresh
returns-then-not-fresh c =
    let l = c.loop-image in
    sym (l.invariant
    ∙ arranged_stops _ _ l.seen l.image-index (omega arith) (sym c.fresh.ensures ∙ c.if-not-fresh.true))

pub overflow_sub-v : goal.overflow_sub-v
overflow_sub-v c = (fresh_says _ c.loop-image.seen _ (sym c.fresh.ensures ∙ c.if-not-fresh.false)).0

pub flip-seen-requires : goal.flip-seen-requires
flip-seen-requires c =
    let w = fresh_says _ c.loop-image.seen _ (sym c.fresh.ensures ∙ c.if-not-fresh.false) in
    omega (arith, w.0, w.1, c.requires)

pub loop-image-preserved : goal.loop-image-preserved
loop-image-preserved c =
    let l = c.loop-image in
    let a = c.args in
    l.invariant ∙ arranged_goes_on a.n a.e.now l.seen l.image-index (omega arith) (sym c.fresh.ensures ∙ c.if-not-fresh.false)
    ∙ ap (λ s. arranged a.n s (drop (l.image-index + 1) a.e.now)) (sym c.flip-seen.ensures)

pub returns : goal.returns
unfolding arranged
returns c =
    let l = c.loop-image in
    let a = c.args in
    let past : length a.e.now ≤ l.image-index = omega arith in
    sym (l.invariant ∙ ap (arranged a.n l.seen) (drop_of_length-le a.e.now past))
