-- `dimacs_clauses::take_number` meets its contract: a zero closes the clause, a variable above n is refused, another
-- one joins its set. Assumes nothing.
use Rattle.std.proofs.Common.{arith, rules}
use Rattle.formula.specs.Laws.RefusalLaws.{digits_suffice}
use Rattle.dimacs_clauses.specs.Laws.ClauseScanLaws.{number_closes, number_above, number_positive}
use Rattle.dimacs_clauses.specs.Laws.ClauseScanLaws.{number_negative}
use Rattle.dimacs_clauses.proofs.take_number.Goals as goal

pub returns-then-word-eq0 : goal.returns-then-word-eq0
returns-then-word-eq0 c = search (rules, number_closes)

pub returns-then-n-word : goal.returns-then-n-word
returns-then-n-word c = search (rules, number_above)

pub with_variable-requires : goal.with_variable-requires
with_variable-requires c = omega (arith, digits_suffice c.requires.variables)

pub with_variable-requires-else-word : goal.with_variable-requires-else-word
with_variable-requires-else-word c = omega (arith, digits_suffice c.requires.variables)

pub returns-then-word : goal.returns-then-word
returns-then-word c = search (rules, number_negative)

pub returns-else-word : goal.returns-else-word
returns-else-word c = search (rules, number_positive)
