-- Numbers by their digits of b bits, the lowest first, and entries that stand without gaps, as `flat_map` puts them.
-- Definitions alone; NumeralLaws has what follows from them. Assumes nothing.
use Rattle.std.specs.Prelude.{List, [], ◌∷◌, ℕ, zero, suc, ◌+◌, ◌*◌, ◌/◌, ◌%◌, ◌^◌, take, drop}

-- the lowest w digits of x, b bits each
unfoldable pub digits_of : ℕ → ℕ → ℕ → List ℕ
digits_of b zero x = []
digits_of b (suc w) x = x % 2 ^ b ∷ digits_of b w (x / 2 ^ b)

-- the number that digits of b bits stand for
unfoldable pub value : ℕ → List ℕ → ℕ
value b [] = 0
value b (d ∷ ds) = d + 2 ^ b * value b ds

module _ {A : Type 0} where
  -- the first k entries of a run of digits, w digits each
  unfoldable pub entries : (List ℕ → A) → ℕ → ℕ → List ℕ → List A
  entries read w zero run = []
  entries read w (suc k) run = read (take w run) ∷ entries read w k (drop w run)
