-- `points::next_variable` meets its contract: the trailing zeros of a set that is not empty are its lowest member.
-- Assumes nothing.
use mathlib.Core.Path.{ap, ◌∙◌}
use lib.Count.{count_trailing_zeros, trailing_of_zero}
use Rattle.math.specs.Laws.SetLaws.{trailing_lt, trailing_lowest}
use Rattle.points.specs.Points.{point_digits}
use Rattle.points.proofs.next_variable.Statement.{statement}
use Rattle.points.proofs.next_variable.Tie as tie

returns : tie.Need-returns
unfolding point_digits
returns c =
    record {
      empty = λ e. ap (count_trailing_zeros 64) e ∙ trailing_of_zero 64;
      small = λ ne. trailing_lt 64 c.args.s c.ranges.s.fits ne;
      lowest = λ ne. trailing_lowest 64 c.args.s c.ranges.s.fits ne;
    }

pub next_variable_spec : {M : Type 1} → statement M
next_variable_spec = tie.close (tie.spec returns)
