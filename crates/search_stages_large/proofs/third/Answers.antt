-- `search_stages_large::third` meets its contract: where it pauses, the last stage answers for both. Assumes nothing.
use Rattle.std.proofs.Common.{ℕ, refl, le_of_eq, le_trans, leb-true}
use Rattle.std.proofs.lemmas.List.{length-replicate}
use Rattle.formula.specs.Limits.{max_slots}
use Rattle.search_indexed.specs.Laws.StageLaws.{many_heads, paused_staged}
use Rattle.search_stages_large.proofs.third.Goals as goal

pub last-requires : goal.last-requires
last-requires c =
    let p = c.in-Err.ensures in
    let kept = c.explore_stage.auto in (
      le_trans p.headed (le_trans (le_of_eq (length-replicate {A = ℕ} many_heads 0)) (leb-true many_heads max_slots refl)),
      paused_staged _ _ p c.requires.1.resumable kept.points kept.falsified kept.depths kept.found,
    )
