-- `check_flips::sets_at_hand` meets its contract: as many sets as permutations, or none. Assumes nothing.
use Rattle.std.proofs.Common.{sym, le_of_eq, le_trans, zero-le}
use Rattle.point_slices.specs.Laws.SliceLaws.{same_count}
use Rattle.permutation_coverage.specs.Laws.CoverageLaws.{staying_empty, staying_front}
use Rattle.check_flips.proofs.sets_at_hand.Goals as goal

pub returns-then-count-le-FEW : goal.returns-then-count-le-FEW
returns-then-count-le-FEW c = (zero-le, staying_empty)

pub returns-then-total-all : goal.returns-then-total-all
returns-then-total-all c = (zero-le, staying_empty)

pub returns-else-total-all : goal.returns-else-total-all
returns-else-total-all c = (le_trans c.requires.1 (le_of_eq (sym (same_count _ _ c.staying_sets-total.auto.stay))), staying_front c.staying_sets-total.ensures)
