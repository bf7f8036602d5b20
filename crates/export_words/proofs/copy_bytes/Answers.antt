-- `export_words::copy_bytes` meets its contract: the front of the slice becomes what is copied. Assumes nothing.
use Rattle.std.proofs.Common.{length-take-le}
use Rattle.export_words.specs.Laws.WordLaws.{over_front}
use Rattle.export_words.proofs.copy_bytes.Goals as goal

pub returns : goal.returns
returns c =
    let a = c.args in
    over_front c.copy_from_slice.ensures.after (length-take-le a.count a.from.now c.requires.1) a.to.now
