-- `check_flips::flips_covered` meets its contract: a law of FlipLaws for each event of the loop. Assumes nothing.
use Rattle.std.proofs.Common.{refl, sym, ◌∙◌}
use Rattle.check_flips.proofs.FlipLaws.{flipping_begins, flipping_less, flipping_stops, flipping_goes_on}
use Rattle.check_flips.proofs.FlipLaws.{flipping_ends, follows_on}
use Rattle.check_flips.proofs.flips_covered.Goals as goal

pub loop-v-init : goal.loop-v-init
loop-v-init c = let pre = c.requires in (refl, flipping_begins _ _ _ _ pre.0.askable.few _ pre.1 c.next_variable-v.ensures, pre.0.imaged)

pub flip_passes-requires : goal.flip_passes-requires
flip_passes-requires c = (follows_on c.requires.0 c.loop-v.invariant.2, c.loop-v-test.true)

pub returns-then-not-flip_passes : goal.returns-then-not-flip_passes
returns-then-not-flip_passes c =
    let told = c.flip_passes.ensures in
    (flipping_stops _ _ _ _ c.requires.0.askable.few c.loop-v.invariant.1 c.loop-v-test.true (sym told.0 ∙ c.if-not-flip_passes.true), told.1)

pub loop-v-smaller : goal.loop-v-smaller
loop-v-smaller c = flipping_less _ _ _ _ c.requires.0.askable.few c.loop-v.invariant.1 _ c.loop-v-test.true c.flip-left.ensures

pub loop-v-preserved : goal.loop-v-preserved
loop-v-preserved c =
    let told = c.flip_passes in (
      told.auto.moved ∙ c.loop-v.invariant.0,
      flipping_goes_on _ _ _ _ c.requires.0.askable.few c.loop-v.invariant.1 c.loop-v-test.true (sym told.ensures.0 ∙ c.if-not-flip_passes.false) _ c.flip-left.ensures c.next_variable-v-in-loop-v.ensures,
      told.ensures.1,
    )

pub returns : goal.returns
returns c = (flipping_ends _ _ _ _ c.requires.0.askable.few c.loop-v.invariant.1 c.loop-v-test.false, c.loop-v.invariant.2)
