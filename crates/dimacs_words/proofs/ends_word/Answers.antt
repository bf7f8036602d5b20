-- `dimacs_words::ends_word` meets its contract: a byte above 32 ends no word, byte 32 ends one. Assumes nothing.
use Rattle.std.proofs.Common.{◌||◌, sym, ap, eqb}
use Rattle.dimacs_format.specs.Text.{ends_line}
use Rattle.dimacs_words.specs.Laws.Scans.{ends_word}
use Rattle.dimacs_words.specs.Laws.ScanLaws.{ends_at_32, above_blanks}
use Rattle.dimacs_words.proofs.ends_word.Goals as goal

pub returns-then-b-gt32 : goal.returns-then-b-gt32
returns-then-b-gt32 c = sym (above_blanks _ c.if-b-gt32.true)

pub returns-then-b-eq32 : goal.returns-then-b-eq32
returns-then-b-eq32 c = sym (ends_at_32 c.if-b-eq32.true)

pub returns : goal.returns
unfolding ends_word ends_line
returns c = ap (λ b. b || eqb c.args.b 10) c.is_blank.ensures
