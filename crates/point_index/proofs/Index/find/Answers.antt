-- `point_index::Index::find` meets its contract: a law of IndexLaws for each event of the loop. Assumes nothing.
use Rattle.std.proofs.Common.{sym, ◌∙◌, arith, rules}
use Rattle.point_index.specs.Laws.IndexLaws.{seeking_begins, seeking_ends, seeking_within, seeking_stops}
use Rattle.point_index.specs.Laws.IndexLaws.{seeking_less, seeking_goes_on}
use Rattle.point_index.proofs.Index.find.Goals as goal

pub loop-value-init : goal.loop-value-init
loop-value-init c = seeking_begins c.requires _ _ c.head_of-link.ensures c.number_at-value.ensures (search rules)

pub returns-then-same : goal.returns-then-same
returns-then-same c =
    let l = c.loop-value in
    seeking_stops c.requires l.invariant c.loop-value-test.true _ c.point_at-y.ensures (sym c.same.ensures ∙ c.if-same.true)

pub child_of-link-requires : goal.child_of-link-requires
child_of-link-requires c =
    omega (arith, seeking_within c.requires c.loop-value.invariant c.loop-value-test.true, c.well_formed.0.1)

-- the digit at which x goes another way than the point met is one of n
pub overflow_add-depth : goal.overflow_add-depth
overflow_add-depth c =
    omega (
      arith,
      seeking_less c.requires c.loop-value.invariant c.loop-value-test.true _ c.point_at-y.ensures
          (sym c.same.ensures ∙ c.if-same.false),
      c.requires.few,
    )

pub loop-value-smaller : goal.loop-value-smaller
loop-value-smaller c =
    omega (
      arith,
      seeking_less c.requires c.loop-value.invariant c.loop-value-test.true _ c.point_at-y.ensures
          (sym c.same.ensures ∙ c.if-same.false),
    )

pub loop-value-preserved : goal.loop-value-preserved
loop-value-preserved c =
    seeking_goes_on c.requires c.loop-value.invariant c.loop-value-test.true _ c.point_at-y.ensures
    (sym c.same.ensures ∙ c.if-same.false) _ _ c.child_of-link.ensures c.number_at-value-in-loop-value.ensures (search rules)

pub returns : goal.returns
returns c = seeking_ends c.requires c.loop-value.invariant c.loop-value-test.false
