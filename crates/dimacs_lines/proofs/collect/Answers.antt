-- `dimacs_lines::collect` meets its contract: the lines read into the slices that are the caller's own, then the end of
-- the sheet. Assumes nothing.
use Rattle.std.proofs.Common.{rules}
use Rattle.std.proofs.lemmas.Result.{err_from_is_err_and}
use Rattle.dimacs_lines.specs.Laws.ParsedLaws.{slices_stand, text_ends, text_refused}
use Rattle.dimacs_lines.proofs.collect.Goals as goal

pub read_lines-requires : goal.read_lines-requires
read_lines-requires c = (slices_stand c.requires.0.limited (search rules) c.requires.0.none_yet, c.requires.0.size, c.requires.0.within)

pub returns-in_err-read : goal.returns-in_err-read
returns-in_err-read c =
    let p = err_from_is_err_and c.from_residual.result c.from_residual.ensures.1 in
    rw (p.1, p.2) (text_refused c.in_err-read.ensures)

pub accept-requires : goal.accept-requires
accept-requires c = (c.in_ok-read.ensures.stands.ready, search rules)

pub returns : goal.returns
returns c = text_ends c.accept.result c.in_ok-read.ensures c.accept.ensures
