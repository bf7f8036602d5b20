use Rattle.std.proofs.Common.{◌≡◌}
use Rattle.math.specs.Laws.OverLaws.{Copying}
use Rattle.point_slices.specs.Slices.{points_of, rest_of}
use Rattle.dimacs_lines.proofs.copy.Given as goal

abbrev pub invariant-loop-i : goal.invariant-loop-i
invariant-loop-i l = Copying l.count (points_of l.from) (points_of l.initial.to) l.i (points_of l.to) × (rest_of l.to ≡ rest_of l.initial.to)
