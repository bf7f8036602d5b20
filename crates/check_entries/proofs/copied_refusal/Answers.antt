-- `check_entries::copied_refusal` meets its contract: the first entries of the slices are those of the bodies. Assumes
-- nothing.
use Rattle.std.proofs.Common.{ap₂, ◌∙◌}
use Rattle.point_slices.specs.Laws.Contracts.{clauses_lent}
use Rattle.point_slices.specs.Laws.SliceLaws.{same_count}
use Rattle.points.specs.Points.{numbered}
use Rattle.permutation_images.specs.Laws.Contracts.{permutations_of}
use Rattle.certificate.specs.Bytes.{point_width, number_width}
use Rattle.check_entries.specs.Laws.EntryLaws.{copied, lent_ready}
use Rattle.check_entries.specs.Laws.Entries.{lists_fault}
use Rattle.check_entries.proofs.copied_refusal.Goals as goal

pub lists_refusal-requires : goal.lists_refusal-requires
lists_refusal-requires c = let pre = c.requires in lent_ready pre.0 pre.1 _ (same_count _ _ c.points_into.auto.to)

pub returns : goal.returns
returns c =
    let a = c.args in
    c.lists_refusal.ensures
    ∙ ap₂ (lists_fault a.permutations.variables (numbered (clauses_lent a.clauses)) (permutations_of a.permutations))
    (copied point_width _ _ _ _ c.points_into.ensures.0) (copied number_width _ _ _ _ c.numbers_into.ensures)
