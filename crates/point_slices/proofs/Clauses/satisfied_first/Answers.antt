-- `Clauses::satisfied_first` meets its contract: the answer over all clauses is that over those behind k fours. Assumes
-- nothing.
use Rattle.std.proofs.Common.{◌≡◌, ◌*◌, ◌+◌, ◌≤◌, ◌∙◌, ap, length, arith}
use Rattle.point_slices.specs.Laws.Contracts.{clauses_lent}
use Rattle.point_slices.specs.Laws.SliceLaws.{falsified_from, falsified_four}
use Rattle.point_slices.proofs.Clauses.satisfied_first.Goals as goal

pub loop-k-preserved : goal.loop-k-preserved
loop-k-preserved c =
    let i = 4 * c.loop-k.k in
    let cs = clauses_lent c.args.self in
    let room : i + 4 ≤ length cs = omega (arith, c.loop-k-test.true, c.count-fours.ensures) in
    let next : i + 4 ≡ 4 * (c.loop-k.k + 1) = omega arith in
    c.loop-k.invariant
    ∙ falsified_four cs c.args.x i room c.satisfied_at-a.ensures c.satisfied_at-b.ensures c.satisfied_at-c.ensures c.satisfied_at-d.ensures c.if-not-met.false
    ∙ ap (falsified_from cs c.args.x) next
