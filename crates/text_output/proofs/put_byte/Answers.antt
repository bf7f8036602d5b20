-- `text_output::put_byte` meets its contract: one byte stored is a text of one byte put. Assumes nothing.
use Rattle.std.proofs.Common.{refl}
use Rattle.text_output.proofs.put_byte.Goals as goal

pub returns : goal.returns
returns c = record { behind = refl; stored = c.store_byte.ensures }
