-- `points::satisfies` meets its contract. Assumes nothing.
use Rattle.points.specs.Laws.PointLaws.{satisfies_met}
use Rattle.points.proofs.satisfies.Statement.{statement}
use Rattle.points.proofs.satisfies.Tie as tie

returns : tie.Need-returns
returns c = satisfies_met _ _

pub satisfies_spec : {M : Type 1} → statement M
satisfies_spec = tie.close (tie.spec returns)
