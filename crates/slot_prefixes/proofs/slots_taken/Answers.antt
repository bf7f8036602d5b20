-- Both answers are the laws of what is taken.
use Rattle.std.proofs.Common.{arith}
use Rattle.slot_prefixes.specs.Laws.PrefixLaws.{taken-all, taken_none}
use Rattle.slot_prefixes.proofs.slots_taken.Goals as goal

pub returns-then-many-min : goal.returns-then-many-min
returns-then-many-min c =
    taken-all c.args.filled c.args.lent c.min.result c.min.ensures (omega arith)

pub returns-else-many-min : goal.returns-else-many-min
returns-else-many-min c =
    taken_none c.args.filled c.args.lent c.min.result c.min.ensures (omega arith)
