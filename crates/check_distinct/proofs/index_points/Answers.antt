-- `check_distinct::index_points` meets its contract: a law of IndexingLaws for each event of the loop. Assumes nothing.
use Rattle.std.proofs.Common.{refl, ◌∙◌}
use Rattle.check_distinct.specs.Laws.IndexingLaws.{sifting_begins, sifting_stops}
use Rattle.check_distinct.specs.Laws.IndexingLaws.{sifting_goes_on, sifting_ends}
use Rattle.check_distinct.proofs.index_points.Goals as goal

pub loop-i-init : goal.loop-i-init
loop-i-init c = (refl, sifting_begins c.requires)

pub returns-then-not-point_enters : goal.returns-then-not-point_enters
returns-then-not-point_enters c = record {
  sifts = sifting_stops c.requires c.loop-i.invariant.1 c.loop-i-test.true _ _ c.point_enters.ensures c.if-not-point_enters.true;
  inside = c.loop-i-test.true;
}

pub loop-i-preserved : goal.loop-i-preserved
loop-i-preserved c =
    let kept = c.point_enters.auto.links in (
      kept ∙ c.loop-i.invariant.0,
      sifting_goes_on c.requires c.loop-i.invariant.1 c.loop-i-test.true _ _ c.point_enters.ensures c.if-not-point_enters.false kept,
    )

pub returns : goal.returns
returns c = record {
  sifts = sifting_ends c.requires c.loop-i.invariant.1 c.loop-i-test.false;
  inside = tt;
}
