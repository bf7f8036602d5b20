-- `check_flips::flips_refusal` meets its contract: the number over all is, at index i, that over the indices from i on;
-- and the images are those of the point before. Assumes nothing.
use Rattle.std.proofs.Common.{ℕ, sym, ap, ◌∙◌, ◌^◌, ◌<◌, subst, le_of_eq, le_trans, length, length-take-le}
use lib.ListN.{length-replicate}
use Rattle.math.specs.Laws.ScanLaws.{failing_begins, below_ends, below_stops, below_goes_on}
use Rattle.point_slices.specs.Slices.{points_of}
use Rattle.point_slices.specs.Laws.SliceLaws.{points_blank}
use Rattle.formula.specs.Limits.{max_permutations}
use Rattle.formula.specs.Laws.ReplyLaws.{fault_zero, fault_found}
use Rattle.permutation_coverage.specs.Laws.Coverage.{Imaged, Staying}
use Rattle.permutation_coverage.specs.Laws.CoverageLaws.{imaged_none}
use Rattle.check_flips.proofs.FlipLaws.{tested-permuting, tested_follows, listed_within, flips_told, flips_row}
use Rattle.check_flips.proofs.flips_refusal.Goals as goal

pub sets_at_hand-sets-requires : goal.sets_at_hand-sets-requires
sets_at_hand-sets-requires c = (
  tested-permuting c.requires,
  le_trans c.requires.given.few_permutations_lem (le_of_eq (sym (ap length (points_blank max_permutations) ∙ length-replicate {A = ℕ} max_permutations 0))),
)

pub loop-i-init : goal.loop-i-init
loop-i-init c = (failing_begins _ _ 0, subst (Imaged _ _ _ 0) (sym (points_blank max_permutations)) (imaged_none _ _ max_permutations _ c.requires.given.few_permutations_lem))

pub flips_covered-requires : goal.flips_covered-requires
flips_covered-requires c =
    let t = c.requires in (
      tested_follows t c.loop-i.i _ c.point_at-x.ensures c.loop-i-test.true (subst (Staying _ _ _) (sym c.first_points-known.ensures.0) c.sets_at_hand-sets.ensures.1) c.loop-i.invariant.1,
      subst (λ (s : ℕ). s < 2 ^ c.args.permutations.variables) (sym c.variables_of-listed.ensures) (listed_within _ _ t.given.below _),
    )

pub returns-then-not-flips_covered : goal.returns-then-not-flips_covered
returns-then-not-flips_covered c =
    let l = c.loop-i in
    let passes = flips_told _ _ _ _ _ _ l.i _ _ _ c.loop-i-test.true c.point_at-x.ensures c.number_at.ensures c.variables_of-listed.ensures _ c.flips_covered.ensures.0 in
    fault_found 18 _ _ (sym (l.invariant.0 ∙ below_stops _ _ l.i c.loop-i-test.true (passes ∙ c.if-not-flips_covered.true)))
    ∙ flips_row _ _ _ _ _ _ (length-take-le _ (points_of c.args.index.points.now) c.requires.enough)

pub loop-i-preserved : goal.loop-i-preserved
loop-i-preserved c =
    let l = c.loop-i in
    let passes = flips_told _ _ _ _ _ _ l.i _ _ _ c.loop-i-test.true c.point_at-x.ensures c.number_at.ensures c.variables_of-listed.ensures _ c.flips_covered.ensures.0 in
    (l.invariant.0 ∙ below_goes_on _ _ l.i c.loop-i-test.true (passes ∙ c.if-not-flips_covered.false), c.flips_covered.ensures.1)

pub returns : goal.returns
returns c =
    let l = c.loop-i in
    fault_zero 18 _ (l.invariant.0 ∙ below_ends _ _ l.i c.loop-i-test.false)
    ∙ flips_row _ _ _ _ _ _ (length-take-le _ (points_of c.args.index.points.now) c.requires.enough)
