-- `dimacs_words::is_blank` meets its contract. Assumes nothing.
use Rattle.std.proofs.Common.{refl}
use Rattle.dimacs_format.specs.Text.{is_blank}
use Rattle.dimacs_words.proofs.is_blank.Goals as goal

pub returns : goal.returns
unfolding is_blank
returns c = refl
