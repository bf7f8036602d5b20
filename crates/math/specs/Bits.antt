-- The binary digits of a number of any size. Definitions alone; BitLaws has what follows from them.
-- Assumes nothing.
use Rattle.std.specs.Prelude.{Bool, true, false, List, ◌≡◌, ℕ, ◌/◌, ◌%◌, ◌^◌, ◌<◌, eqb}
use Rattle.std.specs.Int.Bits.{bit_xor}
use Rattle.math.specs.Lists.{select, range, below}

-- whether digit i of x is 1; digit 0 is the lowest
unfoldable pub bit : ℕ → ℕ → Bool
bit x i = eqb (x / 2 ^ i % 2) 1

-- x with digit i changed
unfoldable pub flip : ℕ → ℕ → ℕ
flip x i = bit_xor x (2 ^ i)

-- the digits below n that are 1, ascending: a number as a set of numbers below n
unfoldable pub members : ℕ → ℕ → List ℕ
unfolding select range
members n s = select (bit s) (below n)

-- v is the lowest member of the set s
pub record Lowest (s v : ℕ) : Type 0 where
  pub member : bit s v ≡ true
  pub least : (j : ℕ) → j < v → bit s j ≡ false
