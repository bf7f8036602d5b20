-- `check_distinct::points_refusal` meets its contract: a bad count first, then the first point that fails. Assumes
-- nothing.
use Rattle.std.proofs.Common.{refl}
use Rattle.formula.specs.Laws.ReplyLaws.{fault_zero, fault_found}
use Rattle.check_distinct.specs.Laws.IndexingLaws.{refuses_none, refuses_many, refuses_first}
use Rattle.check_distinct.proofs.points_refusal.Goals as goal
use Rattle.check_distinct.proofs.points_refusal.Goals.{then-count-lt1-via-then-count-lt1, then-count-lt1-via-else-count-lt1+then-limit-count}

pub returns-then-count-lt1 : goal.returns-then-count-lt1
returns-then-count-lt1 c =
    elim c.then-count-lt1.branch [ then-count-lt1-via-then-count-lt1 w ↦ refuses_none _ w.if-count-lt1.true | then-count-lt1-via-else-count-lt1+then-limit-count w ↦ refuses_many _ w.if-limit-count.true ]

pub returns-in-None : goal.returns-in-None
returns-in-None c =
    refuses_first _ c.if-count-lt1.false c.if-limit-count.false c.in-None.ensures.sifts _ (fault_zero 16 _ refl)

pub returns-in-Some : goal.returns-in-Some
returns-in-Some c =
    refuses_first _ c.if-count-lt1.false c.if-limit-count.false c.in-Some.ensures.sifts _ (fault_found 16 _ _ refl)
