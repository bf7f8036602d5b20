-- `dimacs_arrays::collected` meets its contract: its arrays have room for the clauses. Assumes nothing.
use Rattle.dimacs_lines.specs.Laws.ParsedLaws.{blank_room}
use Rattle.dimacs_arrays.proofs.collected.Goals as goal

pub collect-requires : goal.collect-requires
collect-requires g c = (c.requires.collectable, blank_room _ g.row.CLAUSES c.requires.roomy)
