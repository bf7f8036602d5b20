-- `exports::checking::jugbowo_number_at` meets its contract: with room for it, the entry as the reader of the body
-- answers it. Assumes nothing.
use Rattle.exports.specs.Laws.CheckingLaws.{tells_no_entry, tells_entry}
use Rattle.exports.proofs.checking.jugbowo_number_at.Goals as goal

pub returns-then-reply-lt-ENTRY : goal.returns-then-reply-lt-ENTRY
returns-then-reply-lt-ENTRY c = tells_no_entry _ _ c.if-reply-lt-ENTRY.true

pub number_at-requires : goal.number_at-requires
number_at-requires c = tt

pub put_entry-requires : goal.put_entry-requires
put_entry-requires c = c.if-reply-lt-ENTRY.false

pub returns : goal.returns
returns c =
    tells_entry _ _ c.number_at.result _ c.if-reply-lt-ENTRY.false c.number_at.ensures c.put_entry.ensures
