-- Where the first places are too few for a formula that is accepted, it is searched again; else the search on them is
-- the one on all the slots, and what is copied back is what it leaves.
use Rattle.std.proofs.Common.{◌≤◌, length, refl, arith}
use Rattle.search.specs.Contract.{reply_of_found}
use Rattle.search_theory.specs.Laws.Promised.{reported}
use Rattle.slot_proofs.proofs.Places.{places_in}
use Rattle.slot_search_again.proofs.Fresh.{met, filled_few, outgrown_accepted, same_few, searched_left}
use Rattle.slot_search.proofs.search_slots.Goals as goal

pub search_many-requires : goal.search_many-requires
search_many-requires c =
    outgrown_accepted _ _ _ _ _ _ 256 (omega arith) (omega arith) refl refl refl c.search_prefix-r.ensures
    c.args.slots.now (omega arith) (met _ _ c.if-outgrown.ensures)

pub copy_back-requires : goal.copy_back-requires
copy_back-requires c =
    let few : reported (reply_of_found c.search_prefix-r.result) ≤ c.min-k.result =
    filled_few _ _ _ _ _ _ 256 (omega arith) (omega arith) refl refl refl c.search_prefix-r.ensures in
    places_in {places = 256} (omega arith) (length c.args.slots.now) _ _ _ (omega arith) (omega arith) (omega arith)
    (omega arith)

pub returns : goal.returns
returns c =
    searched_left _ _ _ _ _ _ 256 (omega arith) (omega arith) refl refl refl c.search_prefix-r.ensures
    c.args.slots.now
    (same_few _ _ _ _ _ _ 256 (omega arith) (omega arith) refl refl refl c.search_prefix-r.ensures c.args.slots.now
    (omega arith) (omega arith) c.if-outgrown.ensures) c.search_prefix-r.auto.points
    c.search_prefix-r.auto.falsified c.search_prefix-r.auto.depths c.filled.ensures c.copy_back.ensures
