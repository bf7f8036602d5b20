-- `dimacs_targets::target_line` meets its contract: a second line, a malformed one, a target. Assumes nothing.
use Rattle.dimacs_targets.specs.Laws.TargetScanLaws.{target_second, target_first}
use Rattle.dimacs_targets.proofs.target_line.Goals as goal

pub returns-in-Some : goal.returns-in-Some
returns-in-Some c = rw c.in-Some.is (target_second c.in-Some.field-0)

pub returns-in-None : goal.returns-in-None
returns-in-None c = rw (c.in-None.is, c.ok_or.ensures.value) (target_first c.read_target.result c.read_target.ensures)
