-- `solver::confirm` meets its contract: the checker does not refuse. Assumes nothing.
use Rattle.std.proofs.Common.{sym, ◌∙◌}
use Rattle.formula.specs.Laws.ReplyLaws.{accepted_not_refused}
use Rattle.checker.specs.Contract.{reply_of_verdict}
use Rattle.solver.proofs.confirm.Goals as goal

pub returns-in_err-check_numbers : goal.returns-in_err-check_numbers
unfolding reply_of_verdict
returns-in_err-check_numbers c =
    absurd (accepted_not_refused _ _ (sym c.requires.1.1 ∙ sym (c.in_err-check_numbers.ensures c.requires.1.0).reply))
