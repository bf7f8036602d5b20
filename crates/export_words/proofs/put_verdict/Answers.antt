-- `export_words::put_verdict` meets its contract: of each answer the words that it carries. Assumes nothing.
use Rattle.checker.specs.Contract.{reply_of_verdict}
use Rattle.export_words.specs.Words.{words_of}
use Rattle.export_words.proofs.put_verdict.Goals as goal

pub returns-in-Ok : goal.returns-in-Ok
unfolding words_of reply_of_verdict
returns-in-Ok c = rw c.in-Ok.is c.put_words.ensures

pub returns-in-Err : goal.returns-in-Err
unfolding reply_of_verdict
returns-in-Err c = rw c.in-Err.is c.put_refusal.ensures
