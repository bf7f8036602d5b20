-- `exports::reading::jugbowo_read` meets its contract: with room for the answer it tells what the reader answers.
-- Assumes nothing.
use Rattle.std.proofs.Common.{refl}
use Rattle.point_slices.specs.Slices.{clause_slices}
use Rattle.dimacs_lines.specs.Laws.ParsedAs.{parsed_in}
use Rattle.exports.specs.Laws.ReadingLaws.{without_reply, without_numbers, without_images, none_read}
use Rattle.exports.specs.Laws.ReadingLaws.{tells_reading}
use Rattle.exports.proofs.reading.jugbowo_read.Goals as goal
use Rattle.exports.proofs.reading.jugbowo_read.Goals.{then-reply-lt-WORDS-via-then-reply-lt-WORDS}
use Rattle.exports.proofs.reading.jugbowo_read.Goals.{then-reply-lt-WORDS-via-else-reply-lt-WORDS+then-numbers-lt-WORDS}
use Rattle.exports.proofs.reading.jugbowo_read.Goals.{then-reply-lt-WORDS-via-else-reply-lt-WORDS+else-numbers-lt-WORDS+then-images-lt-MAX_IMAGES}

pub returns-then-reply-lt-WORDS : goal.returns-then-reply-lt-WORDS
returns-then-reply-lt-WORDS c =
    let a = c.args in
    let clauses = clause_slices a.positive.now a.negative.now in
    elim c.then-reply-lt-WORDS.branch [ then-reply-lt-WORDS-via-then-reply-lt-WORDS w ↦ without_reply a.text.now clauses a.numbers.now a.images.now a.reply.now w.if-reply-lt-WORDS.true | then-reply-lt-WORDS-via-else-reply-lt-WORDS+then-numbers-lt-WORDS w ↦ without_numbers a.text.now clauses a.numbers.now a.images.now a.reply.now w.if-reply-lt-WORDS.false w.if-numbers-lt-WORDS.true | then-reply-lt-WORDS-via-else-reply-lt-WORDS+else-numbers-lt-WORDS+then-images-lt-MAX_IMAGES w ↦ without_images a.text.now clauses a.numbers.now a.images.now a.reply.now w.if-reply-lt-WORDS.false w.if-numbers-lt-WORDS.false w.if-images-lt-MAX_IMAGES.true ]

pub read_lent-r-requires : goal.read_lent-r-requires
read_lent-r-requires c = refl

pub put_parsed-requires : goal.put_parsed-requires
put_parsed-requires c =
    (c.if-numbers-lt-WORDS.false, c.if-images-lt-MAX_IMAGES.false, c.if-reply-lt-WORDS.false, none_read c.read_lent-r.result c.read_lent-r.new.images c.read_lent-r.ensures)

pub returns : goal.returns
returns c =
    let a = c.args in
    let put = c.put_parsed.ensures in
    tells_reading a.text.now (clause_slices a.positive.now a.negative.now) a.numbers.now a.images.now a.reply.now (parsed_in c.read_lent-r.result c.read_lent-r.new.images) _ _ _ _
    c.if-reply-lt-WORDS.false c.if-numbers-lt-WORDS.false c.if-images-lt-MAX_IMAGES.false c.read_lent-r.ensures put.0 put.1 put.2
