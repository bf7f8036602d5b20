-- `export_words::put_refusal` meets its contract. Assumes nothing.
use Rattle.std.proofs.Common.{sym}
use Rattle.export_words.specs.Words.{words_of}
use Rattle.export_words.proofs.put_refusal.Goals as goal

pub returns : goal.returns
unfolding words_of
returns c = rw (sym c.code.ensures) c.put_words.ensures
