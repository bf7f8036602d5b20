-- No more slots are taken than there can be.
use Rattle.std.proofs.Common.{refl, arith}
use Rattle.slot_writer_large.proofs.Copied.{few}
use Rattle.slot_writer_large.proofs.write_many.Goals as goal

pub write_on-requires-else-slots_taken-le-MANY_PLACES : goal.write_on-requires-else-slots_taken-le-MANY_PLACES
write_on-requires-else-slots_taken-le-MANY_PLACES c = (few c.args.slots.now c.args.filled refl, omega arith)
