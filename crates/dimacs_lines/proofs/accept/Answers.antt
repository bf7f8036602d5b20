-- `dimacs_lines::accept` meets its contract: too few clauses are refused, else the clauses go to the slices. Assumes
-- nothing.
use Rattle.dimacs_lines.specs.Laws.ParsedLaws.{end_refused, answers_accepted}
use Rattle.dimacs_lines.proofs.accept.Goals as goal

pub returns-then-state-sizes : goal.returns-then-state-sizes
returns-then-state-sizes c = end_refused c.args.place c.if-state-sizes.true

pub returns : goal.returns
returns c =
    answers_accepted c.args.place c.if-state-sizes.false c.unwrap_or.ensures c.copy.ensures.points c.copy-2.ensures.points c.copy.ensures.rest c.copy-2.ensures.rest
