-- `dimacs_permutations::image_made` meets its contract. Assumes nothing.
use Rattle.std.proofs.Common.{lt-ltb, le-ltb}
use Rattle.dimacs_permutations.proofs.image_made.Goals as goal

pub returns-then-n-value : goal.returns-then-n-value
returns-then-n-value c = rw (lt-ltb _ _ c.if-n-value.true)

pub returns : goal.returns
returns c = rw (le-ltb _ _ c.if-n-value.false)
