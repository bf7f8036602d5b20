-- `checker::file_refusal` meets its contract: a law of PartLaws for each way out. Assumes nothing.
use Rattle.std.proofs.lemmas.Result.{err_from_is_err_and}
use Rattle.certificate.specs.Contract.{reply_of_opened, handed_out}
use Rattle.checker.proofs.PartLaws.{stops_14, other_variables, other_clauses, ends_bodies, readable}
use Rattle.checker.proofs.PartLaws.{opened_file}
use Rattle.checker.proofs.file_refusal.Goals as goal
use Rattle.checker.proofs.file_refusal.Goals.{then-c-f-via-then-c-f, then-c-f-via-else-c-f+then-c-f-2}

pub returns-in_err-c : goal.returns-in_err-c
unfolding reply_of_opened
returns-in_err-c c =
    let p = err_from_is_err_and c.from_residual.result c.from_residual.ensures.1 in
    rw (p.1, p.2) (stops_14 _ _ _ _ _ _ c.in_err-c.ensures.reply)

pub returns-then-c-f : goal.returns-then-c-f
unfolding handed_out
returns-then-c-f c =
    let w = opened_file _ _ c.in_ok-c.ensures.contents in
    elim c.then-c-f.branch [ then-c-f-via-then-c-f v ↦ other_variables _ _ _ _ _ w.0 w.1 v.if-c-f.true | then-c-f-via-else-c-f+then-c-f-2 v ↦ other_clauses _ _ _ _ _ w.0 w.1 v.if-c-f.false v.if-c-f-2.true ]

pub bodies_refusal-requires : goal.bodies_refusal-requires
unfolding handed_out
bodies_refusal-requires c =
    let w = opened_file _ _ c.in_ok-c.ensures.contents in
    readable _ c.args.f.clauses _ _ _ w.0 w.1 c.if-c-f.false c.requires.0 c.requires.1

pub returns : goal.returns
unfolding handed_out
returns c =
    let w = opened_file _ _ c.in_ok-c.ensures.contents in
    ends_bodies _ _ _ _ _ w.0 w.1 c.if-c-f.false c.if-c-f-2.false _ c.bodies_refusal.ensures
