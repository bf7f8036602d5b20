-- `permutation_images::fresh` meets its contract: each test says its part. Assumes nothing.
use Rattle.std.proofs.Common.{arith}
use Rattle.std.proofs.lemmas.Bool.Decides.{nat_tests}
use Rattle.permutation_images.specs.Laws.Contracts.{fresh}
use Rattle.permutation_images.proofs.fresh.Goals as goal

pub returns-then-v-n : goal.returns-then-v-n
unfolding fresh
returns-then-v-n c = grind (arith, nat_tests)

pub returns-else-v-n : goal.returns-else-v-n
unfolding fresh
returns-else-v-n c = grind (arith, nat_tests)
