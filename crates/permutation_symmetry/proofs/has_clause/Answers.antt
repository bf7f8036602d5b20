-- `permutation_symmetry::has_clause` meets its contract: a right guess says so; else whether the clause is among them
-- is, at an index, whether it is among those from there on. Assumes nothing.
use Rattle.std.proofs.Common.{refl, sym, ap, ◌∙◌, arith}
use Rattle.math.specs.Laws.ScanLaws.{any_ends, any_stops, any_goes_on}
use Rattle.points.specs.Points.{empty_clause}
use Rattle.permutation_theory.specs.Permutations.{same_clause}
use Rattle.permutation_symmetry.proofs.has_clause.Goals as goal

pub returns-then-guessed : goal.returns-then-guessed
returns-then-guessed c = sym (c.guessed.ensures c.if-guessed.true)

pub loop-at-init : goal.loop-at-init
loop-at-init c = refl

pub returns-then-eq : goal.returns-then-eq
unfolding same_clause
returns-then-eq c =
    let l = c.loop-at in
    sym (l.invariant ∙ any_stops (same_clause _) _ empty_clause l.at (omega arith) (ap (same_clause _) (sym c.at.ensures) ∙ sym c.eq.ensures ∙ c.if-eq.true))

pub loop-at-preserved : goal.loop-at-preserved
unfolding same_clause
loop-at-preserved c =
    let l = c.loop-at in
    l.invariant ∙ any_goes_on (same_clause _) _ empty_clause l.at (omega arith) (ap (same_clause _) (sym c.at.ensures) ∙ sym c.eq.ensures ∙ c.if-eq.false)

pub returns : goal.returns
returns c =
    let l = c.loop-at in
    sym (l.invariant ∙ any_ends (same_clause _) _ empty_clause l.at (omega arith))
