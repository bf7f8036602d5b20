-- There are places for all the slots that are taken, and the certificate written from the copies is the one of the
-- slots.
use Rattle.std.proofs.Common.{ℕ, arith}
use lib.ListN.{length-replicate}
use Rattle.slot_proofs.proofs.Places.{places_in}
use Rattle.slot_writer_large.proofs.Copied.{used, written_left}
use Rattle.slot_writer_large.proofs.write_on.Goals as goal

pub copy_out-requires : goal.copy_out-requires
copy_out-requires g c =
    let places = g.row.PLACES in
    let full = length-replicate {A = ℕ} places 0 in
    places_in {places = places} (omega arith) _ _ _ _ (used c.args.slots.now c.args.filled c.slots_taken-k.ensures) full full full

pub returns : goal.returns
returns g c =
    written_left c.args.slots.now c.args.filled c.slots_taken-k.ensures _ _ _ _ _ _ c.copy_out.ensures
    c.write_prefix.ensures
