-- `search_level::test_level` meets its contract. Assumes nothing.
use Rattle.std.proofs.Common.{sym, ◌∙◌}
use Rattle.search_level.specs.Laws.TestingLaws.{tests_opened, tests_unopened}
use Rattle.search_level.proofs.test_level.Goals as goal

pub test_slots-requires : goal.test_slots-requires
test_slots-requires c = c.requires.0

pub returns-then-opens : goal.returns-then-opens
returns-then-opens c = tests_opened _ _ _ _ _ (sym c.opens.ensures ∙ c.if-opens.true) c.test_slots.ensures

pub returns-else-opens : goal.returns-else-opens
returns-else-opens c = tests_unopened _ _ _ _ _ (sym c.opens.ensures ∙ c.if-opens.false) c.requires.1
