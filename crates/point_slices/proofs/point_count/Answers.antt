-- `point_slices::point_count` meets its contract: a point is one word. Assumes nothing.
use Rattle.std.proofs.Common.{refl}
use Rattle.point_slices.specs.Slices.{points_of}
use Rattle.point_slices.proofs.point_count.Goals as goal

pub returns : goal.returns
unfolding points_of
returns c = refl
