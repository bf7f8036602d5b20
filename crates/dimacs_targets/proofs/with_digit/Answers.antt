-- `dimacs_targets::with_digit` meets its contract. Assumes nothing.
use Rattle.std.proofs.Common.{sym, ap, ◌∙◌, rules}
use Rattle.dimacs_targets.specs.Laws.TargetScans.{with_digit}
use Rattle.dimacs_targets.proofs.with_digit.Goals as goal

pub with_variable-requires : goal.with_variable-requires
with_variable-requires c = search rules

pub returns-then-one : goal.returns-then-one
returns-then-one c = c.with_variable.ensures ∙ ap (with_digit c.args.x c.args.i) (sym c.if-one.true)

pub returns-else-one : goal.returns-else-one
returns-else-one c = ap (with_digit c.args.x c.args.i) (sym c.if-one.false)
