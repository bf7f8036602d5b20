-- `exports::checking::jugbowo_check` meets its contract: with room for the answer it tells what the checker answers.
-- Assumes nothing.
use Rattle.std.proofs.Common.{refl}
use Rattle.point_slices.specs.Slices.{clause_slices}
use Rattle.export_formulas.specs.Formulas.{images_from, formula_from}
use Rattle.exports.specs.Laws.CheckingLaws.{tells_no_verdict, tells_verdict}
use Rattle.exports.proofs.checking.jugbowo_check.Goals as goal

pub returns-then-reply-lt-WORDS : goal.returns-then-reply-lt-WORDS
returns-then-reply-lt-WORDS c =
    let a = c.args in
    tells_no_verdict _ (clause_slices a.positive.now a.negative.now) a.file.now a.reply.now c.if-reply-lt-WORDS.true

pub check_numbers-requires : goal.check_numbers-requires
check_numbers-requires c = tt

pub put_verdict-requires : goal.put_verdict-requires
put_verdict-requires c = c.if-reply-lt-WORDS.false

pub shape_of-reply : goal.shape_of-reply
shape_of-reply c = c.put_verdict.auto.reply

pub returns : goal.returns
unfolding formula_from
returns c =
    let a = c.args in
    tells_verdict _ (clause_slices a.positive.now a.negative.now) a.file.now a.reply.now _ c.check_numbers.result _
    c.if-reply-lt-WORDS.false refl (c.check_numbers.ensures (images_from a.images.now)) c.put_verdict.ensures
