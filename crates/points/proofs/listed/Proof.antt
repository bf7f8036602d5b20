-- `points::listed` meets its contract. Assumes nothing.
use mathlib.Core.Path.{refl}
use Rattle.points.specs.Points.{listed}
use Rattle.points.proofs.listed.Statement.{statement}
use Rattle.points.proofs.listed.Tie as tie

returns : tie.Need-returns
unfolding listed
returns c = refl

pub listed_spec : {M : Type 1} → statement M
listed_spec = tie.close (tie.spec returns)
