-- `check_falsified::falsifies` meets its contract. Assumes nothing.
use Rattle.std.proofs.Common.{not, ap, ◌∙◌}
use Rattle.certificate.specs.Rows.{falsifies}
use Rattle.check_falsified.proofs.falsifies.Goals as goal

pub returns-in-None : goal.returns-in-None
unfolding falsifies
returns-in-None c = ap (λ o. falsifies o c.args.x) c.in-None.ensures

pub returns-in-Some : goal.returns-in-Some
unfolding falsifies
returns-in-Some c = ap not c.satisfies.ensures ∙ ap (λ o. falsifies o c.args.x) c.in-Some.ensures
