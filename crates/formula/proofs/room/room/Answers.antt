-- `formula::room::room` meets its contract: the smallest of four numbers, in another order. Assumes nothing.
use Rattle.std.proofs.Common.{arith}
use Rattle.formula.specs.Limits.{capacity}
use Rattle.formula.proofs.room.room.Goals as goal

pub returns : goal.returns
unfolding capacity
returns c = omega (arith, c.min.ensures, c.min-shortest.ensures, c.min-beside.ensures, c.point_count.ensures)
