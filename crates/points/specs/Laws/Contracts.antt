-- What the leaf functions' contracts cite beside the definitions. Assumes nothing.
use Rattle.std.specs.Prelude.{◌≡◌, ℕ, ◌<◌}
use Rattle.math.specs.Bits.{Lowest}
use Rattle.points.specs.Points.{Clause, point_digits}
use Rattle.points.specs.declared.Clause.{Clause as ClauseValue}

-- r is the lowest member of a set; of the empty set it is the number of digits
pub record NextVariable (s r : ℕ) : Type 0 where
  pub empty : s ≡ 0 → r ≡ point_digits
  pub small : (s ≡ 0 → ⊥) → r < point_digits
  pub lowest : (s ≡ 0 → ⊥) → Lowest s r

-- what a clause of the code means
abbrev pub clause_of : ClauseValue → Clause
clause_of c = record { positive = c.positive; negative = c.negative }
