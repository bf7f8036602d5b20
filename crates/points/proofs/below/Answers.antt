-- `points::below` meets its contract: from 64 on every word is below 2 ^ n, and else the shift leaves 0 exactly where
-- it is. Assumes nothing.
use Rattle.std.proofs.Common.{sym, lt_of_lt_of_le, pow_mono, lt-ltb}
use Rattle.math.specs.Laws.BitLaws.{shifted_out}
use Rattle.points.proofs.below.Goals as goal

pub returns-then-n-ge-DIGITS : goal.returns-then-n-ge-DIGITS
returns-then-n-ge-DIGITS c = sym (lt-ltb _ _ (lt_of_lt_of_le c.ranges.x.fits (pow_mono c.if-n-ge-DIGITS.true)))

pub returns : goal.returns
returns c = shifted_out c.args.x c.args.n
