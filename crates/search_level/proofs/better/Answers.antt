-- `search_level::better` meets its contract: a law of TestingLaws for each way. Assumes nothing.
use Rattle.std.proofs.Common.{Some, None, sym, ◌∙◌, ltb-true, ltb-false}
use Rattle.search_level.specs.Laws.TestingLaws.{better_falsified, better_larger, better_new}
use Rattle.search_level.proofs.better.Goals as goal

pub returns-then-number-ne0 : goal.returns-then-number-ne0
returns-then-number-ne0 c = better_falsified _ _ _ c.if-number-ne0.true

pub returns-in-Some : goal.returns-in-Some
returns-in-Some c = better_larger _ _ _ _ c.in-Some.is (ltb-true _ _ (sym c.less.ensures ∙ c.if-less.true))

pub returns-in_default : goal.returns-in_default
returns-in_default c =
    better_new _ (Some c.in-Some.least) _ _ c.if-number-ne0.false c.in-Some.is (ltb-false _ _ (sym c.less.ensures ∙ c.if-less.false))

pub returns-in_default-2 : goal.returns-in_default-2
returns-in_default-2 c = better_new _ None _ _ c.if-number-ne0.false c.in_default.is tt
