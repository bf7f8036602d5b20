-- `dimacs_clauses::clause_word` meets its contract: a blank, a word with a minus, a word without. Assumes nothing.
use Rattle.std.proofs.Common.{sym, ◌∙◌}
use Rattle.dimacs_words.specs.Laws.ScanLaws.{word_minus, word-plain}
use Rattle.dimacs_clauses.specs.Laws.ClauseScanLaws.{step_blank}
use Rattle.dimacs_clauses.proofs.clause_word.Goals as goal

pub returns-then-ends_word : goal.returns-then-ends_word
returns-then-ends_word c = let p = c.requires in step_blank p.0 p.1 p.2 (sym c.ends_word.ensures ∙ c.if-ends_word.true)

pub returns-then-first-eq45 : goal.returns-then-first-eq45
returns-then-first-eq45 c =
    let a = c.args in
    let p = c.requires in
    c.take_word.ensures a.text.now p.1 p.2 (sym c.ends_word.ensures ∙ c.if-ends_word.false) (word_minus a.text.now p.1 c.read_digits-word.result c.if-first-eq45.true c.read_digits-word.ensures)

pub returns : goal.returns
returns c =
    let a = c.args in
    let p = c.requires in
    let m = sym c.ends_word.ensures ∙ c.if-ends_word.false in
    c.take_word-2.ensures a.text.now p.1 p.2 m (word-plain a.text.now p.1 c.read_digits-word-2.result m c.if-first-eq45.false c.read_digits-word-2.ensures)
