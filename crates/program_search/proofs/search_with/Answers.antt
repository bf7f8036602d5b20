-- `program_search::search_with` meets its contract: the parts handed on are the first clauses, and the slots are those
-- lent. Assumes nothing.
use Rattle.std.proofs.Common.{ap₂, ◌∙◌}
use Rattle.point_slices.specs.Laws.SliceLaws.{first_clauses_lem}
use Rattle.search.specs.Search.{search_reply}
use Rattle.program_search.specs.Laws.SettlingLaws.{slots_lent}
use Rattle.program_search.proofs.search_with.Goals as goal

pub returns : goal.returns
returns g c =
    let a = c.args in
    c.search.ensures.reply ∙ ap₂ (search_reply a.f) (first_clauses_lem a.f.clauses a.clauses.positive.now a.clauses.negative.now _ _ c.first_points.ensures c.first_points-2.ensures) (slots_lent g.row.PLACES c.requires.1)
