-- `permutation_images::with_fixed` meets its contract. Assumes nothing.
use Rattle.std.proofs.Common.{arith}
use Rattle.std.proofs.lemmas.Bool.Decides.{nat_tests}
use Rattle.points.specs.Laws.NextLaws.{digits_few}
use Rattle.permutation_images.proofs.with_fixed.Goals as goal

pub overflow_add-v : goal.overflow_add-v
overflow_add-v c = let few = c.requires in omega (arith, digits_few)

pub returns-then-image-v : goal.returns-then-image-v
returns-then-image-v c = grind (arith, nat_tests)

pub returns-else-image-v : goal.returns-else-image-v
returns-else-image-v c = grind (arith, nat_tests)
