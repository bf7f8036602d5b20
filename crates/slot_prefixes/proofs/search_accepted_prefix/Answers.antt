-- On the k places that are lent on, nothing is refused.
use Rattle.std.proofs.Common.{sym}
use Rattle.point_slices.specs.Slices.{slices_lent}
use Rattle.slot_prefixes.specs.Laws.PrefixLaws.{prefix_accepted}
use Rattle.slot_prefixes.proofs.search_accepted_prefix.Goals as goal

pub search_accepted-requires : goal.search_accepted-requires
search_accepted-requires c =
    rw (c.view.ensures)
    (prefix_accepted c.args.k c.args.f (slices_lent c.args.clauses) c.args.points.now c.args.falsified.now
    c.args.depths.now c.requires.0 c.requires.1)
