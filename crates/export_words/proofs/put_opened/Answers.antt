-- `export_words::put_opened` meets its contract: of each answer the words that it carries, and the contents where it
-- has some. Assumes nothing.
use Rattle.std.proofs.Common.{sym}
use Rattle.math.specs.Laws.OverLaws.{over_none}
use Rattle.certificate.specs.Contract.{reply_of_opened, handed_out}
use Rattle.export_words.specs.Words.{words_of}
use Rattle.export_words.specs.Replies.{contents_words}
use Rattle.export_words.proofs.put_opened.Goals as goal

pub returns-in-Ok : goal.returns-in-Ok
unfolding words_of reply_of_opened handed_out
returns-in-Ok c = rw c.in-Ok.is (c.put_contents.ensures, c.put_words.ensures)

pub returns-in-Err : goal.returns-in-Err
unfolding reply_of_opened handed_out contents_words
returns-in-Err c = rw c.in-Err.is (sym (over_none _), c.put_refusal.ensures)
