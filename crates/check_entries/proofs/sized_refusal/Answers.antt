-- `check_entries::sized_refusal` meets its contract: arrays of zeros are what the test is to be lent. Assumes nothing.
use Rattle.std.proofs.Common.{◌-◌, ◌*◌}
use Rattle.check_distinct.specs.Laws.IndexingLaws.{zeros_links}
use Rattle.check_entries.specs.Laws.EntryLaws.{zeros-lent, decodable_within}
use Rattle.check_entries.proofs.sized_refusal.Goals as goal

pub copied_refusal-requires : goal.copied_refusal-requires
copied_refusal-requires g c =
    let pre = c.requires in
    let most = g.row.POINTS in
    let heads = g.row.LINKS - 2 * most in
    (decodable_within pre.0 (zeros_links heads most g.row.LINKS pre.1).most_slots, zeros-lent heads most g.row.LINKS _ pre.1 pre.0.most)
