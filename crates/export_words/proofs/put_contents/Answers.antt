-- `export_words::put_contents` meets its contract: eight numbers in front of what was there. Assumes nothing.
use Rattle.std.proofs.Common.{refl}
use Rattle.certificate.specs.Contract.{contents_in}
use Rattle.export_words.specs.Replies.{contents_words}
use Rattle.export_words.specs.Laws.WordLaws.{over_front}
use Rattle.export_words.proofs.put_contents.Goals as goal

pub returns : goal.returns
unfolding contents_words contents_in
returns c = over_front c.copy_from_slice.ensures.after refl c.args.to.now
