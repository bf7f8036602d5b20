-- `point_slices::first_points` meets its contract: a point is one word. Assumes nothing.
use Rattle.std.proofs.Common.{refl, rules}
use Rattle.point_slices.specs.Slices.{points_of, rest_of}
use Rattle.point_slices.proofs.first_points.Goals as goal

pub slice_bounds-result-end : goal.slice_bounds-result-end
unfolding points_of
slice_bounds-result-end c = search rules

pub returns : goal.returns
unfolding points_of rest_of
returns c = (refl, refl)
