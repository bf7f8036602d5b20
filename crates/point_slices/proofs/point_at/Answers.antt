-- `point_slices::point_at` meets its contract: a point is one word. Assumes nothing.
use Rattle.std.proofs.Common.{rules}
use Rattle.point_slices.specs.Slices.{points_of}
use Rattle.point_slices.proofs.point_at.Goals as goal

pub returns : goal.returns
unfolding points_of
returns c = search rules
