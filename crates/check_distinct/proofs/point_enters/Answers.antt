-- `check_distinct::point_enters` meets its contract: a law of IndexingLaws for each way out. Assumes nothing.
use Rattle.std.proofs.Common.{subst, sym, Bool}
use Rattle.point_slices.specs.Slices.{points_of}
use Rattle.check_distinct.specs.Laws.Indexing.{Grows}
use Rattle.check_distinct.specs.Laws.IndexingLaws.{grow_addable, grow_tested, grow_fails}
use Rattle.check_distinct.proofs.point_enters.Goals as goal

pub add-requires : goal.add-requires
add-requires c = grow_addable c.requires _ c.point_at-x.ensures _ c.below.ensures c.if-below.true

pub returns-then-below : goal.returns-then-below
returns-then-below c =
    grow_tested c.requires _ c.point_at-x.ensures _ c.below.ensures c.if-below.true _ _ c.add.ensures

pub returns-else-below : goal.returns-else-below
returns-else-below c =
    let a = c.args in
    subst (λ (passes : Bool). Grows a.heads a.n a.i (points_of a.points.now) passes a.links.now) (sym c.if-below.false)
    (grow_fails c.requires _ c.point_at-x.ensures _ c.below.ensures c.if-below.false)
