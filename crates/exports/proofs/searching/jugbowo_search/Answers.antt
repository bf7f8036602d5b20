-- `exports::searching::jugbowo_search` meets its contract: with room for the answer it tells what the search answers.
-- Assumes nothing.
use Rattle.point_slices.specs.Slices.{clause_slices, slot_slices}
use Rattle.export_words.specs.Laws.SearchingLaws.{tells_nothing, tells_search}
use Rattle.exports.proofs.searching.jugbowo_search.Goals as goal

pub returns-then-reply-lt-WORDS : goal.returns-then-reply-lt-WORDS
returns-then-reply-lt-WORDS c =
    let a = c.args in
    tells_nothing _ (clause_slices a.positive.now a.negative.now) (slot_slices a.points.now a.falsified.now a.depths.now) a.reply.now c.if-reply-lt-WORDS.true

pub returns-then-images-lt-MAX_IMAGES : goal.returns-then-images-lt-MAX_IMAGES
returns-then-images-lt-MAX_IMAGES c =
    let a = c.args in
    tells_search _ (clause_slices a.positive.now a.negative.now) (slot_slices a.points.now a.falsified.now a.depths.now) a.reply.now _ c.search_lent-r.result _ _
    c.if-reply-lt-WORDS.false c.formula_view-f.ensures c.search_lent-r.ensures c.put_found.ensures

pub returns : goal.returns
returns c =
    let a = c.args in
    tells_search _ (clause_slices a.positive.now a.negative.now) (slot_slices a.points.now a.falsified.now a.depths.now) a.reply.now _ c.search_lent-r-2.result _ _
    c.if-reply-lt-WORDS.false c.whole_view-f.ensures c.search_lent-r-2.ensures c.put_found-2.ensures
