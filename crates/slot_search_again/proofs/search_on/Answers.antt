-- There are places for all the slots that can be used, so that no more are filled, and what is copied back is what the
-- search leaves.
use Rattle.std.proofs.Common.{◌∙◌, ℕ, length, arith}
use lib.ListN.{length-replicate}
use Rattle.point_slices.specs.Slices.{slices_lent}
use Rattle.slot_proofs.proofs.Places.{places_in}
use Rattle.slot_search_again.specs.Laws.SearchLaws.{same_all, places_accepted}
use Rattle.slot_search_again.proofs.Fresh.{filled_few, searched_left}
use Rattle.slot_search_again.proofs.search_on.Goals as goal

pub search_accepted_prefix-r-requires : goal.search_accepted_prefix-r-requires
search_accepted_prefix-r-requires g c =
    let places = g.row.PLACES in
    let full = length-replicate {A = ℕ} places 0 in
    let a = c.args in (
      places_in {places = places} (omega arith) c.min-k.result _ _ _ (omega arith) full full full,
      places_accepted a.f (slices_lent a.clauses) a.slots.now c.min-k.result places (omega arith)
          (omega arith) c.requires.accepted,
    )

pub copy_back-requires : goal.copy_back-requires
copy_back-requires g c =
    let places = g.row.PLACES in
    let full = length-replicate {A = ℕ} places 0 in
    let new = c.search_accepted_prefix-r.auto in
    let few = filled_few _ _ _ _ _ _ places (omega arith) (omega arith) full full full c.search_accepted_prefix-r.ensures in
    places_in {places = places} (omega arith) (length c.args.slots.now) _ _ _ (omega arith) (new.points ∙ full) (new.falsified ∙ full) (new.depths ∙ full)

pub returns : goal.returns
returns g c =
    let places = g.row.PLACES in
    let full = length-replicate {A = ℕ} places 0 in
    let new = c.search_accepted_prefix-r.auto in
    let a = c.args in
    searched_left _ _ _ _ _ _ places (omega arith) (omega arith) full full full c.search_accepted_prefix-r.ensures a.slots.now
    (same_all a.f (slices_lent a.clauses) a.slots.now c.min-k.result (omega arith)) (new.points ∙ full) (new.falsified ∙ full) (new.depths ∙ full) c.filled.ensures c.copy_back.ensures
