-- `dimacs_clauses::take_word` meets its contract: one law for each way out. Assumes nothing.
use Rattle.std.proofs.Common.{subst}
use Rattle.std.proofs.lemmas.Result.{err_from_is_err_and}
use Rattle.dimacs_words.specs.Laws.Scans.{WordRead}
use Rattle.dimacs_clauses.specs.Laws.ClauseScanLaws.{step_over, step_malformed, step_taken, step_refused}
use Rattle.dimacs_clauses.proofs.take_word.Goals as goal

pub returns-then-sizes-begun : goal.returns-then-sizes-begun
returns-then-sizes-begun c =
    let a = c.args in
    λ text h n m k. step_over c.requires h n m a.word k c.if-sizes-begun.true

pub returns-in_default : goal.returns-in_default
returns-in_default c =
    λ text h n m k. step_malformed c.requires h n m (subst (WordRead text c.args.place) c.in_default.is k) c.if-sizes-begun.false

pub returns-in_err-more : goal.returns-in_err-more
returns-in_err-more c =
    λ text h n m k.
    let p = err_from_is_err_and c.from_residual.result c.from_residual.ensures.1 in
    rw (p.1, p.2)
    (step_refused c.requires h n m c.in-Some.word (subst (WordRead text c.args.place) c.in-Some.is k) c.if-sizes-begun.false c.in_err-more.ensures)

pub returns : goal.returns
returns c =
    λ text h n m k.
    step_taken c.requires h n m c.in-Some.word (subst (WordRead text c.args.place) c.in-Some.is k) c.if-sizes-begun.false c.in_ok-more.ensures
