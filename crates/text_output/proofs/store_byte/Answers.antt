-- `text_output::store_byte` meets its contract: past the end `set` changes nothing. Assumes nothing.
use Rattle.std.proofs.Common.{sym}
use lib.Seq.{set_out}
use Rattle.text_output.proofs.store_byte.Goals as goal

pub returns-else-i-out : goal.returns-else-i-out
returns-else-i-out c = sym (set_out c.args.out.now c.args.i c.args.b c.if-i-out.false)
