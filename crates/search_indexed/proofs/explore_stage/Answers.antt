-- `search_indexed::explore_stage` meets its contract: the links become an index of the filled points, and exploring goes
-- on with it. Assumes nothing.
use Rattle.search_indexed.specs.Laws.StageLaws.{staged_explorable}
use Rattle.search_indexed.proofs.explore_stage.Goals as goal

pub explore-requires : goal.explore-requires
explore-requires g c =
    staged_explorable _ c.requires.0 c.requires.2 c.carry.auto.found c.carry.ensures c.index_points.ensures.sifts c.index_points.auto.links
