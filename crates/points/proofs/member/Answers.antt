-- `points::member` meets its contract: past 63 a word has no digit. Assumes nothing.
use Rattle.std.proofs.Common.{refl, sym}
use Rattle.math.specs.Laws.BitLaws.{bit_above}
use Rattle.math.specs.Bits.{bit}
use Rattle.points.proofs.member.Goals as goal

pub returns-then-v-ge-DIGITS : goal.returns-then-v-ge-DIGITS
returns-then-v-ge-DIGITS c = sym (bit_above 64 c.args.s c.args.v c.ranges.s.fits c.if-v-ge-DIGITS.true)

pub returns : goal.returns
unfolding bit
returns c = refl
