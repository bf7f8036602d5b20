-- Laws of the digits of a point and of the next variable of a set: one below n is the lowest, and where there is none
-- below n the set of n has none. Assumes nothing.
use Rattle.std.proofs.Common.{true≢false, sym, ap, ◌∙◌, arith}
use Rattle.std.specs.Prelude.{[], ◌≡◌, ℕ, ◌≤◌, ◌<◌, ◌^◌}
use Rattle.std.proofs.Math.Decide.{ℕ_discrete}
use Rattle.math.specs.Laws.BitLaws.{bit_above}
use Rattle.math.specs.Bits.{members, Lowest}
use Rattle.math.specs.Laws.SetLaws.{members-none}
use Rattle.points.specs.Points.{point_digits}
use Rattle.points.specs.Laws.Contracts.{NextVariable}

-- the number of digits is a 32-bit number
pub digits_few : point_digits < 2 ^ 32
unfolding point_digits
digits_few = omega arith

-- where the lowest is not below n, a set of numbers below n is empty
pub next_empty : (n left v : ℕ) → NextVariable left v → left < 2 ^ n → n ≤ v → left ≡ 0
next_empty n left v next within ge = by (ℕ_discrete left 0)
  where
    by : Dec (left ≡ 0) → left ≡ 0
    by (yes e) = e
    by (no ne) = absurd (true≢false (sym (next.lowest ne).member ∙ bit_above n left v within ge))

module _ (n left v : ℕ) (few : n ≤ point_digits) (next : NextVariable left v) where
  pub next_lowest : v < n → Lowest left v
  next_lowest lt = next.lowest (λ e. let z : v ≡ point_digits = next.empty e in omega arith)

  pub next_none : left < 2 ^ n → n ≤ v → members n left ≡ []
  next_none within ge = ap (members n) (next_empty n left v next within ge) ∙ members-none n
