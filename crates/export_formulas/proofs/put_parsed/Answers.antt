-- `export_formulas::put_parsed` meets its contract: the formula is put where the text is read. Assumes nothing.
use Rattle.std.proofs.Common.{refl}
use Rattle.export_words.specs.Words.{words_of}
use Rattle.export_formulas.specs.Formulas.{is_parsed}
use Rattle.export_formulas.proofs.put_parsed.Goals as goal

pub put_formula-requires : goal.put_formula-requires
put_formula-requires c = (c.requires.0, c.requires.1, rw c.in-Ok.is at c.requires.3)

pub returns-in-Ok : goal.returns-in-Ok
unfolding words_of is_parsed
returns-in-Ok c = rw c.in-Ok.is (c.put_formula.ensures.0, c.put_formula.ensures.1, c.put_words.ensures)

pub returns-in-Err : goal.returns-in-Err
unfolding is_parsed
returns-in-Err c = rw c.in-Err.is (refl, refl, c.put_refusal.ensures)
