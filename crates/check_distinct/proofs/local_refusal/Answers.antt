-- `check_distinct::local_refusal` meets its contract: a count over the limit first, then with an array for the count.
-- Assumes nothing.
use Rattle.certificate.specs.Laws.RowLaws.{over_limit}
use Rattle.check_distinct.proofs.local_refusal.Goals as goal

pub returns-then-limit-count : goal.returns-then-limit-count
returns-then-limit-count c = over_limit _ _ _ _ c.if-limit-count.true
