-- What a search on arrays of its own comes to: no more slots are filled than were searched, and the slots, once those
-- filled are copied back, are as the search leaves them. Assumes nothing.
use Rattle.std.proofs.Common.{Bool, true, false, ◌&&◌, ◌≡◌, refl, sym, ap, subst, ◌∙◌, le_trans, arith}
use Rattle.std.proofs.Common.{ℕ, ◌<◌, ◌≤◌, List, [], length, min, ltb}
use Rattle.point_slices.specs.Slices.{ClauseSlices, slot_slices}
use Rattle.std.proofs.Math.ListN.{take}
use Rattle.formula.specs.declared.Formula.{Formula}
use Rattle.formula.specs.Limits.{max_slots, capacity}
use Rattle.formula.specs.Reply.{no_fault}
use Rattle.search.specs.declared.Found.{Found}
use Rattle.search.specs.Contract.{reply_of_found, Searched}
use Rattle.search.specs.Search.{search_fault, search_reply}
use Rattle.search_theory.specs.Laws.Promised.{reported}
use Rattle.slot_columns.specs.declared.Slot.{Slot}
use Rattle.slot_columns.specs.Slots.{slots_in}
use Rattle.slot_columns.specs.Laws.Copies.{joined, front}
use Rattle.slot_prefixes.specs.Laws.PrefixLaws.{no_room}
use Rattle.slot_proofs.proofs.Places.{places_many}
use Rattle.slot_search_again.specs.Laws.FilledLaws.{SameSearch}
use Rattle.slot_search_again.specs.Laws.SearchLaws.{told, fresh_few, searched_fresh, same_some, no_room_accepted}

-- the first of two tests that were met
pub met : (a b : Bool) → true ≡ (a && b) → a ≡ true
met true b e = refl
met false b e = sym e

-- k slots are searched, of arrays that have so many places
module _ {f : Formula} {clauses : ClauseSlices} {k : ℕ} (ps₀ fs₀ ds₀ ps fs ds : List ℕ) {r : Found} (places : ℕ)
    (few : places ≤ max_slots) (held : k ≤ places) (e₁ : length ps₀ ≡ places) (e₂ : length fs₀ ≡ places)
    (e₃ : length ds₀ ≡ places)
    (s : Searched f clauses (slot_slices (take k ps₀) (take k fs₀) (take k ds₀)) r
    (slot_slices (take k ps) (take k fs) (take k ds))) where
  pub reply : reply_of_found r ≡ search_reply f clauses k
  reply = told f clauses [] k ps₀ fs₀ ds₀ ps fs ds r (le_trans held few) (places_many held ps₀ e₁)
      (places_many held fs₀ e₂) (places_many held ds₀ e₃) s

  pub filled_few : reported (reply_of_found r) ≤ k
  filled_few = fresh_few f clauses [] k ps₀ fs₀ ds₀ ps fs ds r (le_trans held few) (places_many held ps₀ e₁)
      (places_many held fs₀ e₂) (places_many held ds₀ e₃) s

  pub never_more : {n : ℕ} → n ≡ reported (reply_of_found r) → k < n → ⊥
  never_more filled more = let at_most = filled_few in omega arith

  -- the places were too few
  pub outgrown_accepted : (ys : List Slot) → k ≤ length ys → no_room (reply_of_found r) ≡ true
      → search_fault f clauses (capacity (slots_in ys)) ≡ no_fault
  outgrown_accepted ys used full = no_room_accepted f clauses ys k (ap no_room (sym reply) ∙ full) used

  -- they were enough
  pub same_few : (ys : List Slot) → 1 ≤ places → k ≡ min places (length ys)
      → false ≡ (no_room (reply_of_found r) && ltb k (length ys)) → SameSearch f clauses k (capacity (slots_in ys))
  same_few ys some is enough =
      same_some f clauses ys k places some few is
      (ap (λ q. no_room q && ltb k (length ys)) (sym reply) ∙ sym enough)

  -- n are copied back to the slots that are lent
  pub searched_left : (ys : List Slot) {zs : List Slot} {n : ℕ} → SameSearch f clauses k (capacity (slots_in ys))
      → length ps ≡ places → length fs ≡ places → length ds ≡ places → n ≡ reported (reply_of_found r)
      → zs ≡ front n (joined ps fs ds) ys → Searched f clauses (slots_in ys) r (slots_in zs)
  searched_left ys {zs} {n} same l₁ l₂ l₃ filled copied =
      subst (λ (m : List Slot). Searched f clauses (slots_in ys) r (slots_in m))
      (sym (copied ∙ (λ i. front (filled i) (joined ps fs ds) ys)))
      (searched_fresh f clauses ys k ps₀ fs₀ ds₀ ps fs ds r (le_trans held few) (places_many held ps₀ e₁)
      (places_many held fs₀ e₂) (places_many held ds₀ e₃) s same (places_many held ps l₁) (places_many held fs l₂)
      (places_many held ds l₃))
