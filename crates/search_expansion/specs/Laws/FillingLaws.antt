-- Laws of filling flips: it begins, one flip is covered, fills a slot or finds no room, and such steps follow one
-- another. Assumes nothing.
use Rattle.std.specs.Prelude.{Bool, true, false, List, [], map, ◌∷◌, ◌++◌, refl, ◌≡◌, ℕ, suc, ◌+◌, ◌^◌, ◌≤◌, ◌<◌, length, take, drop, set}
use Rattle.std.proofs.Common.{true≢false, append_assoc, sym, ap, subst, ◌∙◌, le_trans, le_of_eq, add-one, arith, length-append, length-drop}
use Rattle.std.proofs.lemmas.List.{length-map}
use Rattle.math.specs.Laws.BitLaws.{flip-lt}
use Rattle.math.specs.Bits.{flip}
use Rattle.math.specs.Laws.ListLaws.{not-true-false, or_left}
use Rattle.math.specs.Lists.{has, over}
use Rattle.math.specs.Laws.OverLaws.{over_none, over_snoc}
use Rattle.math.specs.Laws.PartLaws.{over-front}
use Rattle.math.specs.Laws.QueueLaws.{length_snoc}
use Rattle.math.specs.Laws.SplitLaws.{map-append}
use Rattle.point_slices.specs.Laws.SliceLaws.{same_count}
use Rattle.permutation_theory.specs.Laws.PermutationLaws.{covered_sound, covered_complete}
use Rattle.permutation_theory.specs.Permutations.{Permutation, Covered, covered}
use Rattle.point_index.specs.Laws.Index.{Indexed}
use Rattle.point_index.specs.Laws.IndexLaws.{index_stored}
use Rattle.point_index.specs.Laws.Looking.{Addable, Adds}
use Rattle.search_expansion.specs.declared.Frame.{Frame}
use Rattle.search_expansion.specs.declared.Visit.{Visit}
use Rattle.search_expansion.specs.Laws.Filling.{visited, SlotsIndexed, Fillable, Headed, Follows, Reaches}
use Rattle.search_expansion.specs.Laws.Filling.{Advances}
use Rattle.point_slices.specs.Slices.{SlotSlices, slot_slices}
use Rattle.search_expansion.specs.Laws.Memory.{Holds, Lends, SameSizes, Stored}
use Rattle.search_theory.specs.Walk.{Slot, slot, points_in, Expansion, complete, full, Fills, no_more, skipped}
use Rattle.search_theory.specs.Walk.{filled_next, no_room}

-- ---- the memory

pub sizes_refl : (points falsified depths links : List ℕ)
    → SameSizes points falsified depths links points falsified depths links
sizes_refl points falsified depths links = record {
  points_size = refl;
  falsified_size = refl;
  depths_size = refl;
  links_size = refl;
}

pub sizes_trans : {points₀ falsified₀ depths₀ links₀ points falsified depths links points' falsified' depths'
    links' : List ℕ} → SameSizes points₀ falsified₀ depths₀ links₀ points falsified depths links
    → SameSizes points falsified depths links points' falsified' depths' links'
    → SameSizes points₀ falsified₀ depths₀ links₀ points' falsified' depths' links'
sizes_trans a b =
    record {
      points_size = b.points_size ∙ a.points_size;
      falsified_size = b.falsified_size ∙ a.falsified_size;
      depths_size = b.depths_size ∙ a.depths_size;
      links_size = b.links_size ∙ a.links_size;
    }

-- slices of as many words have room for as many slots
pub lends_still : {k : ℕ} {falsified₀ depths₀ falsified depths : List ℕ} (points₀ points : List ℕ)
    → Lends k (slot_slices points₀ falsified₀ depths₀) → length points ≡ length points₀
    → length falsified ≡ length falsified₀ → length depths ≡ length depths₀
    → Lends k (slot_slices points falsified depths)
lends_still points₀ points a p f d =
    record {
      points_room = le_trans a.points_room (le_of_eq (same_count points₀ points (sym p)));
      falsified_room = le_trans a.falsified_room (le_of_eq (sym f));
      depths_room = le_trans a.depths_room (le_of_eq (sym d));
    }

-- fewer slots have room too
pub lends_fewer : {j filled : ℕ} {m : SlotSlices} → j ≤ filled → Lends filled m → Lends j m
lends_fewer le r = record {
  points_room = le_trans le r.points_room;
  falsified_room = le_trans le
      r.falsified_room;
  depths_room = le_trans le r.depths_room;
}

-- the points of the slots are the first of the slice
pub held_points : {old : SlotSlices} {l : List Slot} {m : SlotSlices} (filled : ℕ) → Holds old l m → length l ≡ filled
    → take filled m.points ≡ points_in l
held_points {old} {l} filled h e = ap (λ (t : SlotSlices). take filled t.points) h.held
    ∙ over-front filled (points_in l) old.points (length-map l (λ (s : Slot). s.point) ∙ e)

-- one of the slices has the same length before and after, and so room for a slot more
slice_room : (part : Slot → ℕ) (l : List Slot) (old now : List ℕ) (filled : ℕ) → now ≡ over (map part l) old
    → length l ≡ filled → filled < length now → filled < length old
unfolding over
slice_room part l old now filled e n lt =
    let m = length-map l part in
    omega (
      arith,
      ap length e,
      length-append (map part l) (drop (length (map part l)) old),
      length-drop
          (length (map part l)) old,
    )

-- one of the slices, with a slot more
slice_more : (part : Slot → ℕ) (l : List Slot) (s : Slot) (old now : List ℕ) (filled : ℕ) → now ≡ over (map part l) old
    → length l ≡ filled → filled < length now
    → set now filled (part s) ≡ over (map part (l ++ s ∷ [])) old
slice_more part l s old now filled e n lt =
    ap (λ xs. set xs filled (part s)) e
    ∙ over_snoc filled (map part l) old (part s) (length-map l part ∙ n) (slice_room part l old now filled e n lt)
    ∙ ap (λ xs. over xs old) (sym (map-append part l (s ∷ [])))

-- a slot stored behind those held is held too
pub held_more : {old : SlotSlices} {l : List Slot} {m m' : SlotSlices} {s : Slot} (filled : ℕ) → Holds old l m
    → length l ≡ filled → Lends (suc filled) m → Stored m filled s m'
    → Holds old (l ++ s ∷ []) m'
held_more {old} {l} {m} {s = s} filled h n room st =
    let points = st.points_stored
    ∙ slice_more (λ (s : Slot). s.point) l s old.points m.points filled
    (ap (λ (t : SlotSlices). t.points) h.held) n room.points_room in
    let rest = st.rest_stored ∙ ap (λ (t : SlotSlices). t.points_rest) h.held in
    let falsified = st.falsified_stored
    ∙ slice_more (λ (s : Slot). s.falsified) l s old.falsified m.falsified filled
    (ap (λ (t : SlotSlices). t.falsified) h.held) n room.falsified_room in
    let depths = st.depths_stored
    ∙ slice_more (λ (s : Slot). s.depth) l s old.depths m.depths filled
    (ap (λ (t : SlotSlices). t.depths) h.held) n room.depths_room in
    record {
      held = λ i. record { points = points i; points_rest = rest i; falsified = falsified i; depths = depths i };
    }

-- the first slot stored, nothing is held but it
pub held_first : {m m' : SlotSlices} {s : Slot} → Lends 1 m → Stored m 0 s m' → Holds m (s ∷ []) m'
held_first {m} room st =
    let none : Holds m [] m = record {
      held = λ i. record {
        points = sym (over_none m.points) i;
        points_rest = m.points_rest;
        falsified = sym (over_none m.falsified) i;
        depths = sym (over_none m.depths) i;
      };
    } in
    held_more {l = []} 0 none refl room st

-- ---- the index

-- what is not covered is not among the points
uncovered_new : (es : List Permutation) (ps : List ℕ) (y : ℕ) → covered es ps y ≡ false → has y ps ≡ false
unfolding covered
uncovered_new es ps y c = not-true-false (has y ps) (λ h. true≢false (sym (or_left (has y ps) _ h) ∙ c))

-- nothing filled, the links are an index of the same points
pub follows_same : {g : Frame} {filled : ℕ} {slots : SlotSlices} {links : List ℕ} → SlotsIndexed g slots links filled
    → Follows g filled slots links filled
follows_same t = record { indexed = t; one = omega arith }

-- a point that is not covered, added to the links and stored behind the points
pub follows_added : {g : Frame} {filled : ℕ} {slots slots' : SlotSlices} {s : Slot} {held : Bool}
    {links links' : List ℕ}
    (es : List Permutation) → covered es (take filled slots.points) s.point ≡ false
    → filled < length slots.points
    → Adds g.heads g.permutations.variables (take filled slots.points) links s.point held links'
    → Stored slots filled s slots' → Follows g filled slots' links' (filled + 1)
follows_added {g} {filled} {slots} {s = s} {links' = links'} es new lt a stored =
    record {
      indexed = subst (λ (l : List ℕ). Indexed g.heads g.permutations.variables (take (filled + 1) l) links')
          (sym stored.points_stored)
          (index_stored g.heads g.permutations.variables filled slots.points links' s.point lt
          (a.grown (a.tells ∙ uncovered_new es (take filled slots.points) s.point new)));
      one = omega arith;
    }

-- what lets the flip be added: a slot that there is has a head
pub fillable_addable : {g : Frame} {slots : SlotSlices} {links moved : List ℕ} {filled : ℕ}
    {from : Visit} → Fillable g slots links moved filled from
    → Headed g (filled + 1) → filled < g.room → (v y : ℕ) → v < g.permutations.variables → y ≡ flip from.point v
    → Addable g.heads g.permutations.variables filled slots.points links y
fillable_addable {g} {links = links} {filled = filled} {from = from} f headed lt v y small q =
    let few : filled < g.heads = headed filled (omega arith) lt in
    let linked = f.linked in
    let most = f.most in
    let long = f.room.points_room in
    record {
      askable = record {
        few = f.coverable.askable.few;
        indexed = f.coverable.askable.indexed;
        narrow = subst (λ (z : ℕ). z < 2 ^ g.permutations.variables) (sym q)
            (flip-lt g.permutations.variables from.point v f.coverable.askable.narrow small);
      };
      enough = omega arith;
      small = omega arith;
      room = omega arith;
    }

-- ---- the flips

-- how the filling ended
abbrev pub ended : Bool → List Slot → Expansion
ended true w = complete w
ended false w = full w

module _ (es : List Permutation) (capacity : ℕ) (from : Visit) where
  pub advances_begins : (vs : List ℕ) (filled : ℕ) (m : SlotSlices)
      → Advances es capacity from vs filled m true vs filled m
  advances_begins vs filled m old known w₀ h e = record { waiting = w₀; holds = h; number = e; onward = λ r f. f }

  pub advances_on : {vs₀ vs vs' : List ℕ} {filled₀ filled filled' : ℕ} {m₀ m m' : SlotSlices} {enough : Bool}
      → Advances es capacity from vs₀ filled₀ m₀ true vs filled m
      → Advances es capacity from vs filled m enough vs' filled' m'
      → Advances es capacity from vs₀ filled₀ m₀ enough vs' filled' m'
  advances_on a b old known w₀ h e =
      let first = a old known w₀ h e in
      let then = b old known first.waiting first.holds first.number in
      record {
        waiting = then.waiting;
        holds = then.holds;
        number = then.number;
        onward = λ r f. first.onward r
            (then.onward r f);
      }

  module _ (v : ℕ) (vs : List ℕ) (filled : ℕ) (m : SlotSlices) where
    -- W7: ".. if not covered by the filled slots"
    pub flip-covered : covered es (take filled m.points) (flip from.point v) ≡ true
        → Advances es capacity from (v ∷ vs) filled m true vs filled m
    flip-covered c old known w₀ h e =
        record {
          waiting = w₀;
          holds = h;
          number = e;
          onward = λ r f. skipped (subst (λ ps. Covered es ps (flip from.point v)) (held_points filled h e)
              (covered_sound es (take filled m.points) (flip from.point v) c)) f;
        }

    uncovered : (l : List Slot) → take filled m.points ≡ points_in l
        → covered es (take filled m.points) (flip from.point v) ≡ false
        → Covered es (points_in l) (flip from.point v) → ⊥
    uncovered l e c h = true≢false (sym (covered_complete es (take filled m.points) (flip from.point v)
        (subst (λ ps. Covered es ps (flip from.point v)) (sym e) h)) ∙ c)

    -- W8: "If P are filled already: answer no room"
    pub flip_full : covered es (take filled m.points) (flip from.point v) ≡ false → capacity ≤ filled
        → Advances es capacity from (v ∷ vs) filled m false vs filled m
    flip_full c none old known w₀ h e =
        record {
          waiting = w₀;
          holds = h;
          number = e;
          onward = λ r f. subst (Fills es capacity known from.point from.depth (v ∷ vs) w₀) (sym f)
              (no_room (uncovered (known ++ w₀) (held_points filled h e) c) (le_trans none (le_of_eq (sym e))));
        }

    -- W7: ".. fills the next slot with rule 0 and depth one more"
    pub flip-filled : {m' : SlotSlices} (y : ℕ) → covered es (take filled m.points) (flip from.point v) ≡ false
        → filled < capacity → Lends capacity m → y ≡ flip from.point v
        → Stored m filled (visited (record { point = y; depth = from.depth + 1 })) m'
        → Advances es capacity from (v ∷ vs) filled m true vs (filled + 1) m'
    flip-filled {m'} y c lt room q given old known w₀ h e =
        record {
          waiting = w₀ ++ new ∷ [];
          holds = subst (λ l. Holds old l m') (append_assoc known w₀ (new ∷ []))
              (held_more filled h e (lends_fewer lt room) (same given));
          number = ap length (sym (append_assoc known w₀ (new ∷ []))) ∙ length_snoc (known ++ w₀) new ∙ ap suc e
              ∙ sym (add-one filled);
          onward = λ r f. filled_next (uncovered (known ++ w₀) (held_points filled h e) c)
              (subst (λ (j : ℕ). j < capacity) (sym e) lt) f;
        }
      where
        new : Slot
        new = slot (flip from.point v) 0 (suc from.depth)

        same : Stored m filled (visited (record { point = y; depth = from.depth + 1 })) m' → Stored m filled new m'
        same st =
            record {
              points_stored = st.points_stored ∙ ap (set m.points filled) q;
              rest_stored = st.rest_stored;
              falsified_stored = st.falsified_stored;
              depths_stored = st.depths_stored ∙ ap (set m.depths filled) (add-one from.depth);
            }

  -- once a flip found no room, those to come do not matter
  pub advances_stuck : {vs₀ vs : List ℕ} {filled₀ filled : ℕ} {m₀ m : SlotSlices} (vs' : List ℕ)
      → Advances es capacity from vs₀ filled₀ m₀ false vs filled m
      → Advances es capacity from vs₀ filled₀ m₀ false vs' filled m
  advances_stuck vs' a old known w₀ h e =
      let b = a old known w₀ h e in record {
        waiting = b.waiting;
        holds = b.holds;
        number = b.number;
        onward = b.onward;
      }

  -- ---- the end of the flips

  pub advances_ends : {vs₀ : List ℕ} {filled : ℕ} {m : SlotSlices} {enough : Bool} {old : SlotSlices}
      {known w₀ : List Slot}
      → (a : Reaches es capacity from old known w₀ vs₀ enough [] filled m)
      → Fills es capacity known from.point from.depth vs₀ w₀ (ended enough a.waiting)
  advances_ends {enough = true} a = a.onward (complete a.waiting) no_more
  advances_ends {enough = false} a = a.onward (full a.waiting) refl
