-- `guesses::stands_at` meets its contract: a clause at an index within them is one of them. Assumes nothing.
use Rattle.std.proofs.Common.{sym, ap, ◌∙◌, arith}
use Rattle.math.specs.Laws.ListLaws.{any_of, get_d_in}
use Rattle.points.specs.Points.{empty_clause}
use Rattle.permutation_theory.specs.Permutations.{same_clause}
use Rattle.permutation_symmetry.proofs.guesses.stands_at.Goals as goal

pub returns-then-i-count : goal.returns-then-i-count
unfolding same_clause
returns-then-i-count c e =
    any_of (same_clause _) (get_d_in _ _ empty_clause (omega (arith, c.count.ensures, c.if-i-count.true)))
    (ap (same_clause _) (sym c.at.ensures) ∙ sym c.eq.ensures ∙ e)
