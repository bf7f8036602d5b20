-- `dimacs_body::opens_apart` meets its contract: the first byte decides, if there is one. Assumes nothing.
use Rattle.std.proofs.Common.{sym, lt-ltb, le-ltb}
use Rattle.dimacs_body.specs.Laws.LineScans.{opens_with}
use Rattle.dimacs_body.proofs.opens_apart.Goals as goal

pub returns-then-at-text : goal.returns-then-at-text
unfolding opens_with
returns-then-at-text c = sym (rw (lt-ltb _ _ c.if-at-text.true))

pub returns-else-at-text : goal.returns-else-at-text
unfolding opens_with
returns-else-at-text c = sym (rw (le-ltb _ _ c.if-at-text.false))
