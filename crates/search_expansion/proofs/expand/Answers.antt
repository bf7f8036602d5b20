-- `search_expansion::expand` meets its contract: a law of TryingLaws for each event of the loop. Assumes nothing.
use Rattle.std.proofs.lemmas.Result.{err_from_is_err_and}
use Rattle.search_expansion.specs.Laws.FillingLaws.{sizes_refl, sizes_trans}
use Rattle.search_expansion.specs.Laws.TryingLaws.{trying_begins, trying_fillable, trying_headed, trying_less}
use Rattle.search_expansion.specs.Laws.TryingLaws.{trying_goes_on, trying_stops, trying_ends}
use Rattle.search_expansion.proofs.expand.Goals as goal

pub loop-v-init : goal.loop-v-init
loop-v-init c =
    let pre = c.requires in
    let few = pre.0.coverable.askable in
    (trying_begins _ _ _ _ _ few.few pre.2 c.next_variable-v.ensures few.indexed, sizes_refl _ _ _ _)

pub try_flip-requires : goal.try_flip-requires
try_flip-requires c =
    let pre = c.requires in
    let t = c.loop-v.invariant.0 in
    let small = c.loop-v-test.true in
    (trying_fillable pre.0 t c.loop-v.invariant.1, trying_headed _ _ _ _ _ pre.0.coverable.askable.few t small pre.1, small)

pub returns-in_err-filled : goal.returns-in_err-filled
returns-in_err-filled c =
    let p = err_from_is_err_and c.from_residual.result c.from_residual.ensures.1 in
    let tried = c.in_err-filled.ensures in
    rw (p.1, p.2) (trying_stops _ _ _ _ _ c.requires.0.coverable.askable.few c.loop-v.invariant.0 c.loop-v-test.true tried.0, tried.1.indexed)

pub loop-v-smaller : goal.loop-v-smaller
loop-v-smaller c =
    trying_less _ _ _ _ _ c.requires.0.coverable.askable.few c.loop-v.invariant.0 _ c.loop-v-test.true c.flip-left.ensures

pub loop-v-preserved : goal.loop-v-preserved
loop-v-preserved c =
    let tried = c.in_ok-filled.ensures in
    let kept = c.try_flip.auto in (
      trying_goes_on _ _ _ _ _ c.requires.0.coverable.askable.few c.loop-v.invariant.0 c.loop-v-test.true tried.0 tried.1 _ c.flip-left.ensures c.next_variable-v-in-loop-v.ensures,
      sizes_trans c.loop-v.invariant.1 (record { points_size = kept.points; falsified_size = kept.falsified; depths_size = kept.depths; links_size = kept.links }),
    )

pub returns : goal.returns
returns c = let t = c.loop-v.invariant.0 in (trying_ends _ _ _ _ _ c.requires.0.coverable.askable.few t c.loop-v-test.false, t.indexed)
