-- `dimacs_words::is_digit` meets its contract. Assumes nothing.
use Rattle.std.proofs.Common.{refl}
use Rattle.dimacs_format.specs.Text.{is_digit}
use Rattle.dimacs_words.proofs.is_digit.Goals as goal

pub returns : goal.returns
unfolding is_digit
returns c = refl
