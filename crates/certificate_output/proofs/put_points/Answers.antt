-- `certificate_output::put_points` meets its contract: before turn i the first i are stored. Assumes nothing.
use Rattle.std.proofs.Common.{rules}
use Rattle.certificate_output.specs.Laws.OutputLaws.{storing_begins, storing_goes_on}
use Rattle.certificate_output.proofs.put_points.Goals as goal

pub loop-i-init : goal.loop-i-init
loop-i-init c = search (rules, storing_begins)

pub loop-i-preserved : goal.loop-i-preserved
loop-i-preserved c = search (rules, storing_goes_on)
