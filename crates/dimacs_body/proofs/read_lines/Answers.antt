-- `dimacs_body::read_lines` meets its contract: what is left of the walk over the lines is the whole walk. Assumes
-- nothing.
use Rattle.std.proofs.Common.{◌∙◌, arith, rules}
use Rattle.std.proofs.lemmas.Result.{err_from_is_err_and}
use Rattle.dimacs_body.specs.Laws.LineScanLaws.{passing_begins, passing_ends, passing_stops, passing_ended}
use Rattle.dimacs_body.specs.Laws.LineScanLaws.{passing_later, passing_goes_on}
use Rattle.dimacs_body.proofs.read_lines.Goals as goal

pub loop-last-init : goal.loop-last-init
loop-last-init c = search (rules, passing_begins)

pub overflow_add-start : goal.overflow_add-start
overflow_add-start c = let w = c.loop-last.invariant.0.size in omega (arith, c.loop-last-test.true)

pub read_part-requires : goal.read_part-requires
read_part-requires c = (c.loop-last.invariant.0.standing, omega (arith, c.loop-last-test.true))

pub returns-in_err-part : goal.returns-in_err-part
returns-in_err-part c =
    let p = err_from_is_err_and c.from_residual.result c.from_residual.ensures.1 in
    rw (p.1, p.2) (passing_stops c.loop-last.invariant.0 c.loop-last-test.true c.in_err-part.ensures)

pub returns-in_default : goal.returns-in_default
returns-in_default c =
    passing_ended c.loop-last.invariant.0 c.loop-last-test.true
    c.in_default.is c.in_ok-part.ensures

pub loop-last-smaller : goal.loop-last-smaller
loop-last-smaller c =
    let l = passing_later c.loop-last.invariant.0 c.loop-last-test.true c.in-Some.is c.in_ok-part.ensures in
    omega (arith, c.loop-last-test.true)

pub loop-last-preserved : goal.loop-last-preserved
loop-last-preserved c = (
  passing_goes_on c.loop-last.invariant.0 c.loop-last-test.true c.in-Some.is c.in_ok-part.ensures c.afresh-state.ensures,
  c.read_part.auto.positive ∙ c.loop-last.invariant.1,
  c.read_part.auto.negative ∙ c.loop-last.invariant.2,
  c.read_part.auto.images ∙ c.loop-last.invariant.3,
)

pub returns : goal.returns
returns c = passing_ends c.loop-last.invariant.0 c.loop-last-test.false
