-- `points::flip` meets its contract: below 64 the shifted 1 is 2 ^ v. Assumes nothing.
use borrow.Author.Rules.{rules}
use mathlib.Core.Path.{ap, ◌∙◌}
use Prim.Native.Nat.{ℕ, ◌%◌, ◌^◌}
use native.Mathlib.Nat.{one-mul, mod-eq_of_lt}
use lib.Bits.{bit_xor}
use lib.Pow.{pow-lt}
use Rattle.math.specs.Bits.{flip}
use Rattle.points.specs.Points.{point_digits}
use Rattle.points.proofs.flip.Statement.{statement}
use Rattle.points.proofs.flip.Tie as tie

returns : tie.Need-returns
unfolding flip point_digits
returns c =
    ap (bit_xor c.args.x) (ap (λ (p : ℕ). p % 2 ^ 64) (one-mul (2 ^ c.args.v)) ∙ mod-eq_of_lt (pow-lt c.requires))

pub flip_spec : {M : Type 1} → statement M
unfolding point_digits
flip_spec = tie.close (tie.spec (λ c. search rules) returns)
