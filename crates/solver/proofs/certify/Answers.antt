-- `solver::certify` meets its contract: what the writer puts out is accepted, and it refuses for want of room alone.
-- Assumes nothing.
use Rattle.certificate_writer.specs.Contract.{reply_of_written}
use Rattle.solver.specs.Laws.SolverLaws.{acceptable, certifies, uncertifies}
use Rattle.solver.proofs.certify.Goals as goal

pub confirm-requires : goal.confirm-requires
unfolding reply_of_written
confirm-requires c =
    let wrote = c.write_lent in
    let w = acceptable _ _ _ _ c.requires _ _ c.in-Ok.ensures.output wrote.auto.out _ c.in-Ok.ensures.reply in
    (w.0, (c.args.f.images.now, w.1))

pub returns-in-Ok : goal.returns-in-Ok
unfolding reply_of_written
returns-in-Ok c =
    certifies _ _ _ _ c.requires _ _ c.in-Ok.ensures.output _ _ c.confirm.ensures c.in-Ok.ensures.reply

pub returns-in-Err : goal.returns-in-Err
unfolding reply_of_written
returns-in-Err c =
    uncertifies _ _ _ _ c.requires _ _ c.in-Err.ensures.output _ _ c.in-Err.ensures.reply
