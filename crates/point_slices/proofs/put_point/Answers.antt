-- `point_slices::put_point` meets its contract: a point is one word, and past the end `set` changes nothing. Assumes nothing.
use Rattle.std.proofs.Common.{refl, sym, rules}
use lib.Seq.{set_out}
use Rattle.point_slices.specs.Slices.{points_of, rest_of}
use Rattle.point_slices.proofs.put_point.Goals as goal

pub returns-else-i-points : goal.returns-else-i-points
unfolding points_of rest_of
returns-else-i-points c = (sym (set_out c.args.points.now c.args.i c.args.x c.if-i-points.false), refl)

pub returns-then-i-points : goal.returns-then-i-points
unfolding points_of rest_of
returns-then-i-points c = search rules
