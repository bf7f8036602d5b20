-- `Clauses::falsified_from` meets its contract: the answer is, at index i, that over the clauses from i on. Assumes
-- nothing.
use Rattle.std.proofs.Common.{sym, ◌∙◌, arith}
use Rattle.point_slices.specs.Laws.SliceLaws.{falsified_ends, falsified_stops, falsified_goes_on}
use Rattle.point_slices.proofs.Clauses.falsified_from.Goals as goal

pub returns-then-not-satisfied_at : goal.returns-then-not-satisfied_at
returns-then-not-satisfied_at c =
    let l = c.loop-i in
    sym (l.invariant ∙ falsified_stops _ _ l.i (omega arith) (sym c.satisfied_at.ensures ∙ c.if-not-satisfied_at.true))

pub loop-i-preserved : goal.loop-i-preserved
loop-i-preserved c =
    let l = c.loop-i in
    l.invariant ∙ falsified_goes_on _ _ l.i (omega arith) (sym c.satisfied_at.ensures ∙ c.if-not-satisfied_at.false)

pub returns : goal.returns
returns c = sym (c.loop-i.invariant ∙ falsified_ends _ _ c.loop-i.i (omega arith))
