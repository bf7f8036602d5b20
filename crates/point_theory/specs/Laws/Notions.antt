-- What the theory says of points and clauses beside document 01's own words. Definitions alone. Assumes nothing.
use Rattle.std.specs.Prelude.{true, List, ◌≡◌, ℕ, ◌<◌, ◌^◌}
use Rattle.std.specs.Bool.{xor}
use Rattle.math.specs.Bits.{bit}
use Rattle.math.specs.Lists.{◌∈◌}
use Rattle.points.specs.Points.{Clause, Numbered}

-- the points x and y differ in the variable v: what a distance counts
abbrev pub Differ : ℕ → ℕ → ℕ → Type 0
Differ v x y = xor (bit x v) (bit y v) ≡ true

-- a clause lists none but the variables below n: no "bit above n"
pub record ClauseBelow (n : ℕ) (c : Clause) : Type 0 where
  pub positive-below : c.positive < 2 ^ n
  pub negative-below : c.negative < 2 ^ n

-- so does every clause of a formula
abbrev pub ClausesBelow : ℕ → List Numbered → Type 0
ClausesBelow n cs = (c : Numbered) → c ∈ cs → ClauseBelow n c.clause
