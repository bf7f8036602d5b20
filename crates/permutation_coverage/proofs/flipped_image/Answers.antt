-- `permutation_coverage::flipped_image` meets its contract. Assumes nothing.
use Rattle.std.proofs.Common.{arith}
use Rattle.points.specs.Laws.NextLaws.{digits_few}
use Rattle.permutation_coverage.proofs.flipped_image.Goals as goal

-- a digit's number is a 32-bit number
pub overflow_cast-to : goal.overflow_cast-to
overflow_cast-to c = omega (arith, digits_few, c.requires.high)
