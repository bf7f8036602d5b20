use Rattle.std.proofs.Common.{◌-◌}
use Rattle.point_slices.specs.Slices.{points_of}
use Rattle.point_index.specs.Laws.Looking.{Seeking}
use Rattle.point_index.proofs.Index.find.Given as goal

abbrev pub invariant-loop-value : goal.invariant-loop-value
invariant-loop-value l = Seeking l.self.heads l.n l.self.count (points_of l.self.points.now) l.self.links.now l.x l.link l.depth l.value

abbrev pub decreases-loop-value : goal.decreases-loop-value
decreases-loop-value l = l.n - l.depth
