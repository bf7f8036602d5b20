use Rattle.std.proofs.Common.{◌≡◌, length}
use Rattle.point_slices.specs.Slices.{points_of}
use Rattle.check_distinct.specs.Laws.Indexing.{Sifting}
use Rattle.check_distinct.proofs.index_points.Given as goal

abbrev pub invariant-loop-i : goal.invariant-loop-i
invariant-loop-i l = (length l.links ≡ length l.initial.links) × Sifting l.heads l.n l.count (points_of l.points) l.links l.i
