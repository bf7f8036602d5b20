-- `check_flips::variables_of` meets its contract. Assumes nothing.
use Rattle.std.proofs.Common.{ap, ◌∙◌}
use Rattle.check_flips.specs.Laws.Loops.{listed_by}
use Rattle.check_flips.proofs.variables_of.Goals as goal

pub returns-in-None : goal.returns-in-None
unfolding listed_by
returns-in-None c = ap listed_by c.in-None.ensures

pub returns-in-Some : goal.returns-in-Some
unfolding listed_by
returns-in-Some c = c.listed.ensures ∙ ap listed_by c.in-Some.ensures
