-- `Clauses::first_falsified` meets its contract: what is skipped is satisfied. Assumes nothing.
use Rattle.std.proofs.Common.{sym, ◌∙◌}
use Rattle.point_slices.specs.Laws.SliceLaws.{falsified_from}
use Rattle.point_slices.proofs.Clauses.first_falsified.Goals as goal

pub returns : goal.returns
unfolding falsified_from
returns c = c.falsified_from.ensures ∙ sym c.satisfied_first.ensures
