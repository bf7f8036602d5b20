-- `points::distance` meets its contract: the ones of x ^ y are the places in which x and y differ. Assumes nothing.
use Rattle.points.specs.Laws.PointLaws.{ones_distance}
use Rattle.points.specs.Points.{point_digits}
use Rattle.points.proofs.distance.Statement.{statement}
use Rattle.points.proofs.distance.Tie as tie

returns : tie.Need-returns
unfolding point_digits
returns c = ones_distance 64 c.args.x c.args.y c.ranges.x.fits c.ranges.y.fits

pub distance_spec : {M : Type 1} → statement M
distance_spec = tie.close (tie.spec returns)
