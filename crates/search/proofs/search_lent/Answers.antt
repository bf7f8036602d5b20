-- `search::search_lent` meets its contract: a refusal leaves the slices as they were. Assumes nothing.
use Rattle.std.proofs.Common.{ap, ◌∙◌}
use Rattle.search.specs.Laws.SearchLaws.{searched_refused}
use Rattle.search.specs.Search.{search_fault}
use Rattle.search.proofs.search_lent.Goals as goal

pub returns-in-Err : goal.returns-in-Err
returns-in-Err c = searched_refused _ _ _ _ (c.in-Err.ensures ∙ ap (search_fault _ _) c.room-lent.ensures)
