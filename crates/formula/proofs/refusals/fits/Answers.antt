-- `formula::refusals::fits` meets its contract: a test that fails refutes the whole, and where all pass it is their
-- conjunction. Assumes nothing.
use Rattle.std.proofs.Common.{sym, ◌∙◌, arith, true≢false}
use Rattle.point_slices.specs.Slices.{slices_lent}
use Rattle.math.specs.Laws.ListLaws.{not-true-false, same_tests}
use Rattle.formula.specs.Laws.RefusalLaws.{fits_sound, fits_complete, all_below_sound, all_below_complete}
use Rattle.formula.proofs.refusals.fits.Goals as goal
use Rattle.formula.proofs.refusals.fits.Goals.{then-n-lt1-via-then-n-lt1, then-n-lt1-via-else-n-lt1+then-n-gt-MAX_VARIABLES}
use Rattle.formula.proofs.refusals.fits.Goals.{then-n-lt1-via-else-n-lt1+else-n-gt-MAX_VARIABLES+then-f-gt-MAX_CLAUSES}
use Rattle.formula.proofs.refusals.fits.Goals.{then-point_count-wanted-via-then-point_count-wanted}
use Rattle.formula.proofs.refusals.fits.Goals.{then-point_count-wanted-via-else-point_count-wanted+then-point_count-wanted-2}

pub returns-then-n-lt1 : goal.returns-then-n-lt1
returns-then-n-lt1 c =
    sym (not-true-false _ (λ h. let f = fits_sound _ _ _ h in
    elim c.then-n-lt1.branch [ then-n-lt1-via-then-n-lt1 w ↦ omega (arith, f.some-variable) | then-n-lt1-via-else-n-lt1+then-n-gt-MAX_VARIABLES w ↦ omega (arith, f.few_variables) | then-n-lt1-via-else-n-lt1+else-n-gt-MAX_VARIABLES+then-f-gt-MAX_CLAUSES w ↦ omega (arith, f.few_clauses_lem) ]))

pub returns-then-point_count-wanted : goal.returns-then-point_count-wanted
returns-then-point_count-wanted c =
    sym (not-true-false _ (λ h. let f = fits_sound _ _ _ h in
    elim c.then-point_count-wanted.branch [ then-point_count-wanted-via-then-point_count-wanted w ↦ w.if-point_count-wanted.true (c.point_count.ensures ∙ f.positive-length) | then-point_count-wanted-via-else-point_count-wanted+then-point_count-wanted-2 w ↦ w.if-point_count-wanted-2.true (w.point_count-else-point_count-wanted.ensures ∙ f.negative-length) ]))

pub returns-then-all_below : goal.returns-then-all_below
returns-then-all_below c =
    same_tests _ _
    (λ r. fits_complete c.args.f.variables c.args.f.clauses (slices_lent c.args.clauses)
    (record {
      some-variable = c.if-n-lt1.false;
      few_variables = c.if-n-gt-MAX_VARIABLES.false;
      few_clauses_lem = c.if-f-gt-MAX_CLAUSES.false;
      positive-length = sym c.point_count.ensures ∙ c.if-point_count-wanted.false;
      negative-length = sym c.point_count-else-point_count-wanted.ensures ∙ c.if-point_count-wanted-2.false;
      positive-below = all_below_sound _ _ (sym c.all_below.ensures ∙ c.if-all_below.true);
      negative-below = all_below_sound _ _ (sym c.all_below-then-all_below.ensures ∙ r);
    }))
    (λ h. c.all_below-then-all_below.ensures ∙ all_below_complete _ _ (fits_sound _ _ _ h).negative-below)

pub returns-else-all_below : goal.returns-else-all_below
returns-else-all_below c =
    c.if-all_below.false
    ∙ sym (not-true-false _ (λ h. true≢false (sym (c.all_below.ensures ∙ all_below_complete _ _ (fits_sound _ _ _ h).positive-below) ∙ c.if-all_below.false)))
