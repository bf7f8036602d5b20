-- `checker::check_numbers` meets its contract: refusal 10 first, then the file's. Assumes nothing.
use Rattle.std.proofs.Common.{[]}
use Rattle.std.proofs.lemmas.Result.{err_from_is_err_and}
use Rattle.point_slices.specs.Slices.{slices_lent}
use Rattle.formula.specs.Laws.Contracts.{formula_with}
use Rattle.checker.proofs.PartLaws.{stops_10, ends_file, clauses_fit_lem}
use Rattle.checker.proofs.check_numbers.Goals as goal

pub returns-in_err-clauses_refusal : goal.returns-in_err-clauses_refusal
returns-in_err-clauses_refusal c images =
    let p = err_from_is_err_and c.from_residual.result c.from_residual.ensures.1 in
    rw (p.1, p.2) (stops_10 _ _ _ _ (c.in_err-clauses_refusal.ensures images))

pub file_refusal-requires : goal.file_refusal-requires
file_refusal-requires c =
    let a = c.args in
    clauses_fit_lem (formula_with a.f []) (slices_lent a.clauses) a.file.now (c.in_ok-clauses_refusal.ensures [])

pub returns : goal.returns
returns c images = ends_file _ _ _ _ (c.in_ok-clauses_refusal.ensures images) c.file_refusal.ensures
