-- `permutation_symmetry::keeps` meets its contract: whether every image is among the clauses is, at index i, whether
-- those of the clauses from i on are. Assumes nothing.
use Rattle.std.proofs.Common.{refl, sym, ◌∙◌, arith}
use Rattle.math.specs.Laws.ScanLaws.{all_ends, all_stops, all_goes_on}
use Rattle.points.specs.Points.{empty_clause}
use Rattle.permutation_images.specs.Laws.LoopLaws.{keeps-numbered}
use Rattle.permutation_theory.specs.Permutations.{image_among}
use Rattle.permutation_symmetry.proofs.keeps.Goals as goal

pub loop-i-init : goal.loop-i-init
loop-i-init c = refl

pub image_stands-requires : goal.image_stands-requires
image_stands-requires c = (c.requires, c.fixed-still.ensures, omega (arith, c.count-i-end.ensures))

pub returns-then-not-image_stands : goal.returns-then-not-image_stands
returns-then-not-image_stands c =
    let l = c.loop-i in
    sym (keeps-numbered _ _ ∙ l.invariant ∙ all_stops (image_among _ _) _ empty_clause l.i (omega arith) (sym c.image_stands.ensures ∙ c.if-not-image_stands.true))

pub loop-i-preserved : goal.loop-i-preserved
loop-i-preserved c =
    let l = c.loop-i in
    l.invariant ∙ all_goes_on (image_among _ _) _ empty_clause l.i (omega arith) (sym c.image_stands.ensures ∙ c.if-not-image_stands.false)

pub returns : goal.returns
returns c =
    let l = c.loop-i in
    sym (keeps-numbered _ _ ∙ l.invariant ∙ all_ends (image_among _ _) _ empty_clause l.i (omega arith))
