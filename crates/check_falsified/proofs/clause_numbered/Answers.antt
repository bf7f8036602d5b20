-- `check_falsified::clause_numbered` meets its contract: the clause of number k stands at index k − 1. Assumes nothing.
use Rattle.std.proofs.Common.{ap, ◌∙◌, arith}
use Rattle.std.proofs.Math.Option.{some}
use Rattle.check_falsified.specs.Laws.FalsifiedLaws.{number-none, number_past, number-at}
use Rattle.check_falsified.proofs.clause_numbered.Goals as goal
use Rattle.check_falsified.proofs.clause_numbered.Goals.{else-k-gt0-via-then-k-gt0+else-k-count, else-k-gt0-via-else-k-gt0}

pub returns-then-k-count : goal.returns-then-k-count
returns-then-k-count c = ap some c.at.ensures ∙ number-at _ _ (omega arith) (omega arith)

pub returns-else-k-gt0 : goal.returns-else-k-gt0
returns-else-k-gt0 c =
    elim c.else-k-gt0.branch [ else-k-gt0-via-then-k-gt0+else-k-count w ↦ number_past _ _ (omega (arith, w.count.ensures)) | else-k-gt0-via-else-k-gt0 w ↦ number-none _ _ (omega arith) ]
