-- `search_stages::second` meets its contract: where it pauses, the stage behind it answers for both. Assumes nothing.
use Rattle.std.proofs.Common.{ℕ, refl, le_of_eq, le_trans, leb-true}
use Rattle.std.proofs.lemmas.List.{length-replicate}
use Rattle.search_indexed.specs.Laws.StageLaws.{few_heads, many_heads, paused_staged}
use Rattle.search_stages.proofs.second.Goals as goal

pub third-requires : goal.third-requires
third-requires c =
    let p = c.in-Err.ensures in
    let kept = c.explore_stage.auto in (
      le_trans p.headed (le_trans (le_of_eq (length-replicate {A = ℕ} few_heads 0)) (leb-true few_heads many_heads refl)),
      paused_staged _ _ p c.requires.1.resumable kept.points kept.falsified kept.depths kept.found,
    )
