-- `search_level::opens` meets its contract. Assumes nothing.
use Rattle.std.proofs.Common.{ℕ, nat_eq, ap, ◌∙◌}
use Rattle.search_level.specs.Laws.TestingLaws.{opens-first, opens_later}
use Rattle.search_level.proofs.opens.Goals as goal

pub returns-then-at-eq0 : goal.returns-then-at-eq0
returns-then-at-eq0 c = ap (λ (i : ℕ). nat_eq i 0) c.if-at-eq0.true ∙ opens-first _ _ c.if-at-eq0.true

pub returns-else-at-eq0 : goal.returns-else-at-eq0
returns-else-at-eq0 c = opens_later _ _ _ _ c.if-at-eq0.false c.number_at.ensures c.number_at-else-at-eq0.ensures
