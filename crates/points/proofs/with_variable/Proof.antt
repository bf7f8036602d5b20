-- `points::with_variable` meets its contract: below 64 the shifted 1 is 2 ^ v. Assumes nothing.
use mathlib.Core.Path.{ap, ◌∙◌}
use Prim.Native.Nat.{◌^◌}
use native.Mathlib.Nat.{one-mul}
use lib.Bits.{bit_or}
use lib.Pow.{shl_exact}
use borrow.Author.Rules.{rules}
use Rattle.points.specs.Points.{point_digits}
use Rattle.points.proofs.with_variable.Statement.{statement}
use Rattle.points.proofs.with_variable.Tie as tie

returns : tie.Need-returns
unfolding point_digits
returns c = ap (bit_or c.args.s) (shl_exact 1 c.args.v 64 (search rules) (search rules) ∙ one-mul (2 ^ c.args.v))

pub with_variable_spec : {M : Type 1} → statement M
unfolding point_digits
with_variable_spec = tie.close (tie.spec (λ c. search rules) returns)
