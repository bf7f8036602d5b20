-- `formula::refusals::all_below` meets its contract: a law of RefusalLaws for each event of the loop. Assumes nothing.
use Rattle.std.proofs.Common.{sym, ap, ◌∙◌, arith, bit_or}
use Rattle.points.specs.Points.{point_digits}
use Rattle.point_slices.specs.Slices.{points_of}
use Rattle.formula.specs.Laws.RefusalLaws.{union_begins, union_goes_on, union_ends, wide_below}
use Rattle.formula.proofs.refusals.all_below.Goals as goal

-- a word has no bit at n or above
pub returns-then-n-ge-DIGITS : goal.returns-then-n-ge-DIGITS
unfolding points_of point_digits
returns-then-n-ge-DIGITS c = sym (wide_below point_digits _ c.if-n-ge-DIGITS.true (λ i. omega (arith, c.type_inv.xs i)))

pub loop-i-init : goal.loop-i-init
loop-i-init c = union_begins _ _

pub loop-i-preserved : goal.loop-i-preserved
loop-i-preserved c =
    let l = c.loop-i in
    union_goes_on _ _ l.all l.i l.invariant (omega arith) _ (c.union-all.ensures ∙ ap (bit_or l.all) c.point_at.ensures)

pub returns : goal.returns
returns c =
    let l = c.loop-i in
    c.below.ensures ∙ union_ends _ _ l.all l.i l.invariant (omega arith)
