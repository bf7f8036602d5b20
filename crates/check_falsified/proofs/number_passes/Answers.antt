-- `check_falsified::number_passes` meets its contract. Assumes nothing.
use Rattle.std.proofs.Common.{ap₂, ◌∙◌, ℕ}
use Rattle.point_slices.specs.Laws.Contracts.{clauses_lent}
use Rattle.points.specs.Points.{numbered}
use Rattle.certificate.specs.Rows.{clause_numbered, falsifies, number_passes}
use Rattle.check_falsified.proofs.number_passes.Goals as goal

pub returns : goal.returns
unfolding number_passes
returns c =
    c.falsifies.ensures
    ∙ ap₂ (λ (k x : ℕ). falsifies (clause_numbered (numbered (clauses_lent c.args.clauses)) k) x) c.number_at.ensures c.point_at.ensures
