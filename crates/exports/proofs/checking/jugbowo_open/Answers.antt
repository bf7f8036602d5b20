-- `exports::checking::jugbowo_open` meets its contract: with room for the answer it tells what the reader of a file
-- answers. Assumes nothing.
use Rattle.exports.specs.Laws.CheckingLaws.{without_reply, without_contents, tells_opening}
use Rattle.exports.proofs.checking.jugbowo_open.Goals as goal
use Rattle.exports.proofs.checking.jugbowo_open.Goals.{then-reply-lt-WORDS-via-then-reply-lt-WORDS}
use Rattle.exports.proofs.checking.jugbowo_open.Goals.{then-reply-lt-WORDS-via-else-reply-lt-WORDS+then-contents-lt-CONTENTS}

pub returns-then-reply-lt-WORDS : goal.returns-then-reply-lt-WORDS
returns-then-reply-lt-WORDS c =
    let a = c.args in
    elim c.then-reply-lt-WORDS.branch [ then-reply-lt-WORDS-via-then-reply-lt-WORDS w ↦ without_reply a.file.now a.contents.now a.reply.now w.if-reply-lt-WORDS.true | then-reply-lt-WORDS-via-else-reply-lt-WORDS+then-contents-lt-CONTENTS w ↦ without_contents a.file.now a.contents.now a.reply.now w.if-reply-lt-WORDS.false w.if-contents-lt-CONTENTS.true ]

pub returns : goal.returns
returns c =
    let a = c.args in
    tells_opening a.file.now a.contents.now a.reply.now c.read.result _ _
    c.if-reply-lt-WORDS.false c.if-contents-lt-CONTENTS.false c.read.ensures c.put_opened.ensures.0 c.put_opened.ensures.1
