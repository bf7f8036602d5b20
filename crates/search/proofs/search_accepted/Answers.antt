-- `search::search_accepted` meets its contract, by the laws of SearchLaws for a formula that is accepted. Assumes
-- nothing.
use Rattle.search.specs.Laws.SearchLaws.{startable_of, searched_of}
use Rattle.search.proofs.search_accepted.Goals as goal

pub start-answer-requires : goal.start-answer-requires
start-answer-requires c = rw c.permutations.ensures (startable_of c.args.f _ _ c.requires _ c.room.ensures)

pub returns : goal.returns
returns c =
    let e = rw c.permutations.ensures at c.start-answer.ensures in
    searched_of c.args.f _ _ c.requires _ c.room.ensures _ _ _ c.as_found.ensures e
