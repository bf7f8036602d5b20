-- `Clauses::satisfied_at` meets its contract. Assumes nothing.
use Rattle.std.proofs.Common.{ap, ◌∙◌}
use Rattle.points.specs.Points.{satisfies}
use Rattle.point_slices.proofs.Clauses.satisfied_at.Goals as goal

pub returns : goal.returns
returns c = c.satisfies.ensures ∙ ap (λ d. satisfies d c.args.x) c.within.ensures
