-- `certificate_output::put_contents` meets its contract: before turn i the first i numbers are stored. Assumes nothing.
use Rattle.std.proofs.Common.{refl, le_refl, zero-add}
use Rattle.certificate_output.specs.Laws.OutputLaws.{storing_begins, storing_goes_on, storing_ends, fields_stored}
use Rattle.certificate_output.proofs.put_contents.Goals as goal

pub loop-i-init : goal.loop-i-init
loop-i-init c = storing_begins c.requires.0 (le_refl 8)

pub loop-i-preserved : goal.loop-i-preserved
loop-i-preserved c = storing_goes_on c.loop-i.invariant c.loop-i-test.true refl c.put_number.auto.out (rw zero-add c.put_number.ensures)

pub returns : goal.returns
returns c = fields_stored _ _ _ _ _ _ _ _ c.requires.1 c.requires.2 (storing_ends c.loop-i.invariant c.loop-i-test.false)
