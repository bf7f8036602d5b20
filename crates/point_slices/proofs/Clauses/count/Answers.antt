-- `Clauses::count` meets its contract: the shorter slice says how many clauses there are. Assumes nothing.
use Rattle.std.proofs.Common.{sym, ◌∙◌}
use Rattle.point_slices.specs.Laws.SliceLaws.{length-clauses}
use Rattle.point_slices.specs.Slices.{points_of}
use Rattle.point_slices.proofs.Clauses.count.Goals as goal

pub returns : goal.returns
unfolding points_of
returns c = c.min.ensures ∙ sym (length-clauses _ _)
