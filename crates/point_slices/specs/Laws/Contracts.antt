-- What contracts of functions inside the library cite beside the definitions. Assumes nothing.
use Rattle.std.specs.Prelude.{List, ℕ}
use Rattle.points.specs.Points.{Clause}
use Rattle.point_slices.specs.Slices.{points_of, beside}
use Rattle.point_slices.specs.declared.Clauses.{Clauses}

-- the clauses of two slices as they are lent, for functions that read clauses alone
abbrev pub lent_clauses : List ℕ → List ℕ → List Clause
lent_clauses positive negative = beside (points_of positive) (points_of negative)

-- the clauses that a value of the code's type lends
abbrev pub clauses_lent : Clauses → List Clause
clauses_lent c = lent_clauses c.positive.now c.negative.now
