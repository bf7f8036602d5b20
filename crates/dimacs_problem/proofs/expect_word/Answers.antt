-- `dimacs_problem::expect_word` meets its contract: the part up to the next blank is compared. Assumes nothing.
use Rattle.std.proofs.Common.{sym, ◌∙◌}
use Rattle.dimacs_words.specs.Laws.ScanLaws.{bytes_compared}
use Rattle.dimacs_problem.specs.Laws.ProblemScanLaws.{word-behind, word_other}
use Rattle.dimacs_problem.proofs.expect_word.Goals as goal

pub returns-then-eq : goal.returns-then-eq
returns-then-eq c = word-behind c.args.line.now _ _ _ c.run_end-from.ensures c.run_end-to.ensures c.args.word.now c.requires.1 (sym (bytes_compared _ _) ∙ sym c.eq.ensures ∙ c.if-eq.true)

pub returns-else-eq : goal.returns-else-eq
returns-else-eq c = word_other c.args.line.now _ _ _ c.run_end-from.ensures c.run_end-to.ensures c.args.word.now (sym (bytes_compared _ _) ∙ sym c.eq.ensures ∙ c.if-eq.false)
