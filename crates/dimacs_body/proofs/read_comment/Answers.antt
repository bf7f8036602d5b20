-- `dimacs_body::read_comment` meets its contract: one handler a head. Assumes nothing.
use Rattle.std.proofs.Common.{sym, ◌∙◌}
use Rattle.std.proofs.lemmas.Result.{err_from_is_err_and}
use Rattle.dimacs_words.specs.Laws.ScanLaws.{head_stripped}
use Rattle.dimacs_body.specs.Laws.LineScanLaws.{target_read, target_refused, permutation_read, permutation_refused}
use Rattle.dimacs_body.specs.Laws.LineScanLaws.{remark_read}
use Rattle.dimacs_format.specs.Text.{target_head, is_target_line, permutation_head, is_permutation_line}
use Rattle.dimacs_body.proofs.read_comment.Goals as goal

pub returns-in_err-target : goal.returns-in_err-target
unfolding is_target_line
returns-in_err-target c =
    let a = c.args in
    let head = c.in-Some.ensures.cases in
    let p = err_from_is_err_and c.from_residual.result c.from_residual.ensures.1 in
    rw (p.1, p.2)
    (target_refused a.line.now c.requires.0 (sym (head_stripped target_head a.line.now) ∙ head.0)
    head.1 c.in_err-target.ensures)

pub returns-in-Some : goal.returns-in-Some
unfolding is_target_line
returns-in-Some c =
    let a = c.args in
    let head = c.in-Some.ensures.cases in
    target_read a.line.now c.requires.0 (sym (head_stripped target_head a.line.now) ∙ head.0)
    head.1 c.in_ok-target.ensures

pub returns-in_err-permutations : goal.returns-in_err-permutations
unfolding is_permutation_line
returns-in_err-permutations c =
    let a = c.args in
    let head = c.in-Some-strip_prefix.ensures.cases in
    let p = err_from_is_err_and c.from_residual-in_err-permutations.result c.from_residual-in_err-permutations.ensures.1 in
    rw (p.1, p.2)
    (permutation_refused a.line.now c.requires.0 (sym (head_stripped permutation_head a.line.now) ∙ head.0)
    head.1 c.in_err-permutations.ensures)

pub returns-in-Some-strip_prefix : goal.returns-in-Some-strip_prefix
unfolding is_permutation_line
returns-in-Some-strip_prefix c =
    let a = c.args in
    let head = c.in-Some-strip_prefix.ensures.cases in
    permutation_read a.line.now c.requires.0 (sym (head_stripped permutation_head a.line.now) ∙ head.0)
    head.1 c.in_ok-permutations.ensures

pub returns : goal.returns
unfolding is_target_line is_permutation_line
returns c =
    let line = c.args.line.now in
    remark_read line c.requires.0 c.requires.1 (sym (head_stripped target_head line) ∙ c.in_default.ensures.cases)
    (sym (head_stripped permutation_head line) ∙ c.in_default-strip_prefix.ensures.cases)
