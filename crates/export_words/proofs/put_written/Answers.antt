-- `export_words::put_written` meets its contract: of each answer the words that it carries. Assumes nothing.
use Rattle.certificate_writer.specs.Contract.{reply_of_written}
use Rattle.export_words.specs.Words.{words_of}
use Rattle.export_words.proofs.put_written.Goals as goal

pub returns-in-Ok : goal.returns-in-Ok
unfolding words_of reply_of_written
returns-in-Ok c = rw c.in-Ok.is c.put_words.ensures

pub returns-in-Err : goal.returns-in-Err
unfolding reply_of_written
returns-in-Err c = rw c.in-Err.is c.put_refusal.ensures
