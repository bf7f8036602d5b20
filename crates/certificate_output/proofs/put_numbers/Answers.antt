-- `certificate_output::put_numbers` meets its contract: before turn i the first i are stored. Assumes nothing.
use Rattle.std.proofs.Common.{rules}
use Rattle.certificate_output.specs.Laws.OutputLaws.{storing_begins, storing_goes_on}
use Rattle.certificate_output.proofs.put_numbers.Goals as goal

pub loop-next-init : goal.loop-next-init
loop-next-init c = search (rules, storing_begins)

pub loop-next-preserved : goal.loop-next-preserved
loop-next-preserved c = search (rules, storing_goes_on)
