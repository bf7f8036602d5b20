-- Laws of the search on arrays of its own: what they held does not matter, and where as many slots are copied back as
-- it says that it filled, the slots are what the search leaves in them. Assumes nothing.
use Rattle.std.specs.Prelude.{Bool, true, false, ◌&&◌, List, [], ◌∷◌, ◌++◌, map, ◌≡◌, refl, ℕ, zero, suc, ◌≤◌, min, ltb, length, take, drop}
use Rattle.std.proofs.Common.{true≢false, ◌∙◌, le_trans, le_of_eq, le_of_suc-le-suc, not-suc-le-zero, arith, length-take-le, take-take, ltb-true, ltb-false}
use Rattle.std.proofs.Math.Path.{sym, ap}
use Rattle.std.proofs.lemmas.List.{length-map}
use Rattle.math.specs.Lists.{over}
use Rattle.math.specs.Laws.OverLaws.{over_none}
use Rattle.math.specs.Laws.PartLaws.{over-front}
use Rattle.math.specs.Laws.SplitLaws.{map-append}
use Rattle.point_slices.specs.Slices.{ClauseSlices, SlotSlices, slot_slices, whole_slots}
use Rattle.formula.specs.declared.Formula.{Formula}
use Rattle.formula.specs.Limits.{max_slots, capacity}
use Rattle.formula.specs.Reply.{Fault, no_fault, fault, point_in, unless_kept}
use Rattle.search.specs.declared.Found.{Found}
use Rattle.search.specs.Search.{search_reply, search_fault, search_slots, search_slices}
use Rattle.search.specs.Contract.{reply_of_found, Searched}
use Rattle.search.specs.Laws.Accepted.{lent_of_faults, some_passes}
use Rattle.search_theory.specs.Filled.{filled_with}
use Rattle.search_theory.specs.Laws.Promised.{reported}
use Rattle.search_theory.specs.Walk as W
use Rattle.slot_columns.specs.declared.Slot.{Slot}
use Rattle.slot_columns.specs.Slots.{points_in, falsified_in, depths_in, slots_in}
use Rattle.slot_columns.specs.Laws.Copies.{joined, front}
use Rattle.slot_columns.specs.Laws.SlotLaws.{words-whole, min_thrice}
use Rattle.slot_prefixes.specs.Laws.PrefixLaws.{no_room}
use Rattle.slot_search_again.specs.Laws.FilledLaws.{count-filled, count_refused, count-lent, SameSearch}
use Rattle.slot_search_again.specs.Laws.FilledLaws.{same_lent, same_settled, room_refused}

map-take : (part : Slot → ℕ) (k : ℕ) (xs : List Slot) → map part (take k xs) ≡ take k (map part xs)
map-take part zero xs = refl
map-take part (suc k) [] = refl
map-take part (suc k) (x ∷ xs) = ap (λ l. part x ∷ l) (map-take part k xs)

map-drop : (part : Slot → ℕ) (k : ℕ) (xs : List Slot) → map part (drop k xs) ≡ drop k (map part xs)
map-drop part zero xs = refl
map-drop part (suc k) [] = refl
map-drop part (suc k) (x ∷ xs) = map-drop part k xs

-- a part of copied slots is the part, copied
pub column_front : (part : Slot → ℕ) (k : ℕ) (xs old : List Slot)
    → map part (front k xs old) ≡ front k (map part xs) (map part old)
unfolding over
column_front part k xs old =
    map-append part (take k xs) (drop (length (take k xs)) old)
    ∙ ap (λ l. map part (take k xs) ++ l) (map-drop part (length (take k xs)) old)
    ∙ ap (λ n. map part (take k xs) ++ drop n (map part old)) (sym (length-map (take k xs) part))
    ∙ ap (λ l. l ++ drop (length l) (map part old)) (map-take part k xs)

-- the parts of three lists joined
pub joined-parts : (k : ℕ) (xs ns ds : List ℕ) → k ≤ length xs → k ≤ length ns → k ≤ length ds
    → (take k (points_in (joined xs ns ds)) ≡ take k xs)
    × ((take k (falsified_in (joined xs ns ds)) ≡ take k ns) × (take k (depths_in (joined xs ns ds)) ≡ take k ds))
joined-parts zero xs ns ds h₁ h₂ h₃ = (refl, (refl, refl))
joined-parts (suc k) [] ns ds h₁ h₂ h₃ = absurd (not-suc-le-zero h₁)
joined-parts (suc k) (x ∷ xs) [] ds h₁ h₂ h₃ = absurd (not-suc-le-zero h₂)
joined-parts (suc k) (x ∷ xs) (n ∷ ns) [] h₁ h₂ h₃ = absurd (not-suc-le-zero h₃)
joined-parts (suc k) (x ∷ xs) (n ∷ ns) (d ∷ ds) h₁ h₂ h₃ =
    let rest = joined-parts k xs ns ds (le_of_suc-le-suc h₁) (le_of_suc-le-suc h₂) (le_of_suc-le-suc h₃) in
    (ap (λ l. x ∷ l) rest.0, (ap (λ l. n ∷ l) rest.1.0, ap (λ l. d ∷ l) rest.1.1))

-- ---- the room

-- three lists of k places are k slots
front_room : (k : ℕ) (p n d : List ℕ) → k ≤ max_slots → k ≤ length p → k ≤ length n → k ≤ length d
    → capacity (whole_slots (take k p) (take k n) (take k d)) ≡ k
unfolding capacity
front_room k p n d few hp hn hd =
    (λ i. min max_slots (min (length-take-le k p hp i) (min (length-take-le k n hn i) (length-take-le k d hd i))))
    ∙ ap (min max_slots) (min_thrice k) ∙ (let z : min max_slots k ≡ k = omega (arith, few) in z)

slots_room : (ys : List Slot) → capacity (slots_in ys) ≡ min max_slots (length ys)
unfolding capacity
slots_room ys = (λ i. min max_slots (min (length-map ys (λ (s : Slot). s.point) i)
    (min (length-map ys (λ (s : Slot). s.falsified) i) (length-map ys (λ (s : Slot). s.depth) i))))
    ∙ ap (min max_slots) (min_thrice (length ys))

-- ---- the search on k places

module _ (f : Formula) (clauses : ClauseSlices) (ys : List Slot) (k : ℕ) where
  -- all the slots that can be used
  pub same_all : k ≡ min max_slots (length ys) → SameSearch f clauses k (capacity (slots_in ys))
  same_all is = same_lent f clauses (is ∙ sym (slots_room ys))

  -- some of them, where that was not too few
  pub same_some : (places : ℕ) → 1 ≤ places → places ≤ max_slots → k ≡ min places (length ys)
      → (no_room (search_reply f clauses k) && ltb k (length ys)) ≡ false
      → SameSearch f clauses k (capacity (slots_in ys))
  same_some places some few is = by (ltb k (length ys)) refl (no_room (search_reply f clauses k)) refl
    where
      by : (b : Bool) → ltb k (length ys) ≡ b → (c : Bool) → no_room (search_reply f clauses k) ≡ c → (c && b) ≡ false
          → SameSearch f clauses k (capacity (slots_in ys))
      by false e c h t = same_all (let l = ltb-false k (length ys) e in omega (arith, l, is, few))
      by true e false h t =
          let l = ltb-true k (length ys) e in
          same_settled f clauses k (capacity (slots_in ys)) (omega (arith, l, is, some))
          (le_trans (let z : k ≤ min max_slots (length ys) = omega (arith, l, is, few) in z)
          (le_of_eq (sym (slots_room ys)))) h
      by true e true h t = absurd (true≢false t)

  -- what is accepted with all the slots is accepted with those of them that there are places for
  pub places_accepted : (places : ℕ) → 1 ≤ places → k ≡ min places (length ys)
      → search_fault f clauses (capacity (slots_in ys)) ≡ no_fault → search_fault f clauses k ≡ no_fault
  places_accepted places some is h =
      let lent : 1 ≤ capacity (slots_in ys) = lent_of_faults f clauses (capacity (slots_in ys)) h in
      let room : 1 ≤ min max_slots (length ys) = le_trans lent (le_of_eq (slots_room ys)) in
      some_passes f clauses (capacity (slots_in ys)) k (let z : 1 ≤ k = omega (arith, room, some, is) in z) h

  -- and an answer 'no room' is one for a formula that is accepted
  pub no_room_accepted : no_room (search_reply f clauses k) ≡ true → k ≤ length ys
      → search_fault f clauses (capacity (slots_in ys)) ≡ no_fault
  no_room_accepted full used = by (search_fault f clauses k) refl
    where
      by : (t : Fault) → search_fault f clauses k ≡ t → search_fault f clauses (capacity (slots_in ys)) ≡ no_fault
      by no_fault h =
          let lent : 1 ≤ k = lent_of_faults f clauses k h in
          some_passes f clauses k (capacity (slots_in ys))
          (le_trans (let z : 1 ≤ min max_slots (length ys) = omega (arith, lent, used) in z)
          (le_of_eq (sym (slots_room ys)))) h
      by (fault code place) h = absurd (true≢false (sym full ∙ room_refused f clauses k code place h))

  module _ (ps₀ fs₀ ds₀ ps fs ds : List ℕ) (r : Found) (few : k ≤ max_slots)
      (long₁ : k ≤ length ps₀) (long₂ : k ≤ length fs₀) (long₃ : k ≤ length ds₀)
      (s : Searched f clauses (slot_slices (take k ps₀) (take k fs₀) (take k ds₀)) r
      (slot_slices (take k ps) (take k fs) (take k ds))) where
    abbrev n : ℕ
    n = reported (reply_of_found r)

    abbrev before : SlotSlices
    before = whole_slots (take k ps₀) (take k fs₀) (take k ds₀)

    room : capacity (slot_slices (take k ps₀) (take k fs₀) (take k ds₀)) ≡ k
    room = ap capacity (words-whole (take k ps₀) (take k fs₀) (take k ds₀))
        ∙ front_room k ps₀ fs₀ ds₀ few long₁ long₂ long₃

    pub told : reply_of_found r ≡ search_reply f clauses k
    told = s.reply ∙ ap (search_reply f clauses) room

    -- no more slots are said to be filled than there were places
    pub fresh_few : n ≤ k
    fresh_few = le_trans (le_of_eq (ap reported told)) (count-lent f clauses k (search_fault f clauses k) refl)

    left : whole_slots (take k ps) (take k fs) (take k ds)
        ≡ unless_kept (search_fault f clauses k) (filled_with (search_slots f clauses k) before) before
    unfolding search_slices
    left = sym (words-whole (take k ps) (take k fs) (take k ds)) ∙ s.slots
        ∙ ap (search_slices f clauses) (words-whole (take k ps₀) (take k fs₀) (take k ds₀))
        ∙ ap (λ j. unless_kept (search_fault f clauses j) (filled_with (search_slots f clauses j) before) before)
        (front_room k ps₀ fs₀ ds₀ few long₁ long₂ long₃)

    -- the first n places of an array are a part of the slots filled
    filled-first : (part : W.Slot → ℕ) (new old : List ℕ) → search_fault f clauses k ≡ no_fault
        → take k new ≡ over (map part (search_slots f clauses k)) (take k old)
        → take n new ≡ map part (search_slots f clauses k)
    filled-first part new old h e = sym (take-take n k new fresh_few) ∙ ap (take n) e
        ∙ over-front n (map part (search_slots f clauses k)) (take k old)
        (length-map (search_slots f clauses k) part ∙ sym (ap reported told ∙ count-filled f clauses k h))

    module _ (same : SameSearch f clauses k (capacity (slots_in ys))) where
      abbrev whole : Fault → SlotSlices
      whole t = unless_kept t (filled_with (search_slots f clauses (capacity (slots_in ys))) (slots_in ys)) (slots_in ys)

      -- n slots copied back, part by part
      copied : (t : Fault) → search_fault f clauses k ≡ t
          → whole_slots (over (take n ps) (points_in ys)) (over (take n fs) (falsified_in ys))
          (over (take n ds) (depths_in ys)) ≡ search_slices f clauses (slots_in ys)
      unfolding search_slices unless_kept
      copied no_fault h =
          let e = left ∙ ap (λ t. unless_kept t (filled_with (search_slots f clauses k) before) before) h in
          (λ i. whole_slots
          (over (filled-first (λ (t : W.Slot). t.point) ps ps₀ h (λ j. (e j).points) i) (points_in ys))
          (over (filled-first (λ (t : W.Slot). t.falsified) fs fs₀ h (λ j. (e j).falsified) i) (falsified_in ys))
          (over (filled-first (λ (t : W.Slot). t.depth) ds ds₀ h (λ j. (e j).depths) i) (depths_in ys)))
          ∙ ap (λ l. filled_with l (slots_in ys)) (same.same_slots h)
          ∙ ap whole (sym h ∙ same.same_fault)
      copied (fault code place) h =
          let none : n ≡ 0 = ap reported told ∙ count_refused f clauses k code place h in
          (λ i. whole_slots (over (take (none i) ps) (points_in ys)) (over (take (none i) fs) (falsified_in ys))
          (over (take (none i) ds) (depths_in ys)))
          ∙ (λ i. whole_slots (over_none (points_in ys) i) (over_none (falsified_in ys) i) (over_none (depths_in ys) i))
          ∙ ap whole (sym h ∙ same.same_fault)

      -- W10: "Slots beyond those filled are unchanged."
      pub searched_fresh : k ≤ length ps → k ≤ length fs → k ≤ length ds
          → Searched f clauses (slots_in ys) r (slots_in (front n (joined ps fs ds) ys))
      searched_fresh h₁ h₂ h₃ =
          let parts = joined-parts n ps fs ds (le_trans fresh_few h₁) (le_trans fresh_few h₂)
          (le_trans fresh_few h₃) in
          let lent = same.same_reply in
          record {
            reply = told ∙ lent;
            point = s.point ∙ ap (λ j. point_in (search_reply f clauses j)) room ∙ ap point_in lent;
            slots = (λ i. whole_slots (column_front (λ (t : Slot). t.point) n (joined ps fs ds) ys i)
                (column_front (λ (t : Slot). t.falsified) n (joined ps fs ds) ys i)
                (column_front (λ (t : Slot). t.depth) n (joined ps fs ds) ys i))
                ∙ (λ i. whole_slots (over (parts.0 i) (points_in ys)) (over (parts.1.0 i) (falsified_in ys))
                (over (parts.1.1 i) (depths_in ys)))
                ∙ copied (search_fault f clauses k) refl;
          }
