-- `export_formulas::put_formula` meets its contract. Assumes nothing.
use Rattle.std.proofs.Common.{rules}
use Rattle.export_formulas.proofs.put_formula.Goals as goal

pub put_words-requires : goal.put_words-requires
put_words-requires c = search rules

pub put_held-requires : goal.put_held-requires
put_held-requires c = (c.requires.1, c.requires.2)

pub returns : goal.returns
returns c = (c.put_words.ensures, c.put_held.ensures)
