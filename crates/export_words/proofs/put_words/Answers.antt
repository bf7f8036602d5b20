-- `export_words::put_words` meets its contract: four words in front of what was there. Assumes nothing.
use Rattle.std.proofs.Common.{refl}
use Rattle.export_words.specs.Laws.WordLaws.{over_front}
use Rattle.export_words.proofs.put_words.Goals as goal

pub returns : goal.returns
returns c = over_front c.copy_from_slice.ensures.after refl c.args.to.now
