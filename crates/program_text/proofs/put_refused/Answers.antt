-- `program_text::put_refused` meets its contract: the line of a refusal. Assumes nothing.
use Rattle.std.proofs.Common.{sym}
use Rattle.program_text.specs.Report.{refused_text}
use Rattle.program_text.proofs.put_refused.Goals as goal

pub returns : goal.returns
unfolding refused_text
returns c = rw (sym c.code.ensures) c.put_pair.ensures
