-- `point_index::head_of` meets its contract: the product does not wrap. Assumes nothing.
use Rattle.std.proofs.Common.{ap, ◌*◌, ◌/◌, arith}
use Rattle.point_index.specs.Laws.Index.{head_of}
use Rattle.point_index.specs.Laws.TreeLaws.{hash_scaled}
use Rattle.point_index.proofs.head_of.Goals as goal

pub overflow_mul-result : goal.overflow_mul-result
overflow_mul-result c = omega (arith, hash_scaled _ _ _ c.hash_of.ensures.1 c.requires.1)

pub returns : goal.returns
unfolding head_of
returns c = ap (λ h. h * c.args.heads / 4294967296) c.hash_of.ensures.0
