-- `check_entries::lists_refusal` meets its contract: each is tested over everything before the next. Assumes nothing.
use Rattle.std.proofs.Common.{sym}
use Rattle.std.proofs.lemmas.Result.{err_from_is_err_and}
use Rattle.check_entries.specs.Laws.EntryLaws.{stops_16, stops_17, ends_18}
use Rattle.check_entries.proofs.lists_refusal.Goals as goal

pub returns-in_err-points_refusal : goal.returns-in_err-points_refusal
returns-in_err-points_refusal c =
    let p = err_from_is_err_and c.from_residual.result c.from_residual.ensures.1 in
    rw (p.1, p.2) (stops_16 _ _ _ _ _ _ c.requires.indexable.enough _ c.in_err-points_refusal.ensures.tells tt)

pub returns-in_err-numbers_refusal : goal.returns-in_err-numbers_refusal
returns-in_err-numbers_refusal c =
    let p = err_from_is_err_and c.from_residual-in_err-numbers_refusal.result c.from_residual-in_err-numbers_refusal.ensures.1 in
    rw (p.1, p.2) (stops_17 _ _ _ _ _ _ c.requires.indexable.enough _ (sym c.in_ok-points_refusal.ensures.tells) c.in_err-numbers_refusal.ensures tt)

pub returns : goal.returns
returns c =
    ends_18 _ _ _ _ _ _ c.requires.indexable.enough _ (sym c.in_ok-points_refusal.ensures.tells) (sym c.in_ok-numbers_refusal.ensures) c.flips_refusal.ensures
