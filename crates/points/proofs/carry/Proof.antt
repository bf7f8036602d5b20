-- `points::carry` meets its contract: a digit shifted by less than 64 places loses nothing. Assumes nothing.
use mathlib.Core.Path.{ap}
use Prim.Native.Nat.{ℕ}
use lib.Bits.{bit_or}
use lib.Pow.{shl_exact}
use borrow.Author.Rules.{rules}
use Rattle.math.specs.Laws.BitLaws.{digit_lt}
use Rattle.points.specs.Points.{point_digits}
use Rattle.points.proofs.carry.Statement.{statement}
use Rattle.points.proofs.carry.Tie as tie

returns : tie.Need-returns
unfolding point_digits
returns c = ap (λ (x : ℕ). bit_or x c.args.r) (shl_exact 1 c.args.v 64 (digit_lt _) (search rules))

pub carry_spec : {M : Type 1} → statement M
unfolding point_digits
carry_spec = tie.close (tie.spec (λ c. search rules) (λ c. search rules) returns)
