-- `Guesses::head_of` meets its contract: a hash below 2^32 leaves room for the product. Assumes
-- nothing.
use Rattle.std.proofs.Common.{arith}
use Rattle.point_index.specs.Laws.TreeLaws.{hash_scaled}
use Rattle.permutation_symmetry.proofs.guesses.Guesses.head_of.Goals as goal

pub overflow_mul-result : goal.overflow_mul-result
overflow_mul-result c = omega (arith, hash_scaled _ _ _ c.requires c.args.self.few)
