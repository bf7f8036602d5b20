-- Laws of a level's test where the search stands at a slot: a point that it finds is the answer, else none that is
-- tested satisfies, and the numbers that it keeps are at hand after the step. Assumes nothing.
use Rattle.std.specs.Prelude.{Option, None, Some, true, false, List, [], ◌∷◌, ◌++◌, ◌≡◌, ℕ, zero, suc, ◌+◌, ◌≤◌, ◌<◌, ◌^◌, ltb, length, drop}
use Rattle.std.proofs.Common.{⊎_elim, sym, ap, ap₂, ◌∙◌, subst, le_refl, arith, length-append, drop_at, lt-ltb, ltb-true}
use mathlib.Core.List.Memᴰ
use Rattle.std.proofs.Math.Path.{refl}
use Rattle.std.proofs.Math.Decide.{dec_lt}
use Rattle.std.proofs.Math.ListN.{get_or, get_or-append}
use Rattle.std.proofs.lemmas.List.{length-map}
use Rattle.math.specs.Laws.ListLaws.{true-or-false, same_tests, all-at, all_of, get_d_in, in_get_d, map_out}
use Rattle.math.specs.Laws.SplitLaws.{map-append}
use Rattle.math.specs.Lists.{◌∈◌}
use Rattle.points.specs.Points.{Clause, point_digits, distance, Smallest, NoneSatisfies}
use Rattle.point_slices.specs.Slices.{SlotSlices}
use Rattle.point_theory.specs.Laws.Distance.{distance_wider}
use Rattle.formula.specs.Problem.{Problem}
use Rattle.formula.specs.Reply.{satisfiable}
use Rattle.search_theory.specs.Laws.Invariants.{slot_at}
use Rattle.search_theory.proofs.LevelLaws.{tested-all, untested_fails}
use Rattle.search_theory.specs.Walk.{Slot, slot, points_in, opens, tested, state, Walks, met}
use Rattle.search_expansion.specs.declared.Frame.{Frame}
use Rattle.search_expansion.specs.Laws.FillingLaws.{held_points}
use Rattle.search_level.specs.Laws.Testing.{number_for, between, opens_at, NumberFound, Tests}
use Rattle.search_level.specs.declared.Position.{Position}
use Rattle.search_step.specs.Laws.Stepping.{framed, Searchable, position, Stands, Midway, Unmet, Ended, Kept}
use Rattle.search_step.specs.Laws.SteppingLaws.{slot_at_lem, slot_read, one_waits}
use Rattle.search_loop.specs.Laws.Exploring.{Concludes, Numbers}

-- the number of each waiting slot is at hand that is no deeper than the one that is next
abbrev pub AtHand : List Clause → SlotSlices → Position → List ℕ → Type 0
AtHand clauses m q found = (k : ℕ) → q.at ≤ k → k < q.filled → get_or m.depths k 0 ≤ get_or m.depths q.at 0
    → NumberFound clauses m.points found k

module _ {pb : Problem} {capacity : ℕ} {old : SlotSlices} {p w : List Slot} {m : SlotSlices} {q : Position}
    (st : Stands pb capacity old p w m q) where
  -- the depth of the slot of index i
  depth_at : (i : ℕ) → i < q.filled → get_or m.depths i 0 ≡ (slot_at (p ++ w) i).depth
  depth_at i lt = slot_at_lem (λ (t : Slot). t.depth) (p ++ w) old.depths m.depths
      (ap (λ (n : SlotSlices). n.depths) st.holds.held) i (omega (arith, st.number))

  -- depths ascend
  depths_ascend : (i j : ℕ) → i ≤ j → j < q.filled → get_or m.depths i 0 ≤ get_or m.depths j 0
  depths_ascend i j le lt =
      let a : (slot_at (p ++ w) i).depth ≤ (slot_at (p ++ w) j).depth =
      st.invariants.filled.ascending i j le (omega (arith, st.number)) in
      let lower : i < q.filled = omega arith in
      omega (arith, depth_at i lower, depth_at j lt)

-- ---- after the step

-- a slot no deeper than the one processed was there before, and its number is at hand
pub numbers_on : (clauses : List Clause) (found : List ℕ) {pb : Problem} {capacity : ℕ} {m : SlotSlices} {q : Position}
    {filled : ℕ} {m' : SlotSlices} → Midway pb capacity m q → q.at < q.filled
    → AtHand clauses m q found → Kept m q filled m' → Numbers clauses m' (position (q.at + 1) filled) found
numbers_on clauses found {m = m} {q} {filled} {m'} at lt hand kept k j before from to le = by (dec_lt k q.filled)
  where
    -- the slot of index j was processed, so it is no deeper than the last one that was
    shallow : get_or m'.depths j 0 ≤ get_or m.depths q.at 0
    shallow =
        let a : get_or m.depths j 0 ≤ get_or m.depths q.at 0 =
        depths_ascend at.stands j q.at (omega arith) lt in
        let b : get_or m'.depths j 0 ≡ get_or m.depths j 0 = kept.depths j (omega arith) in
        omega arith

    by : Dec (k < q.filled) → NumberFound clauses m'.points found k
    by (yes there) =
        let d : get_or m'.depths k 0 ≡ get_or m.depths k 0 = kept.depths k there in
        let s : get_or m'.depths j 0 ≤ get_or m.depths q.at 0 = shallow in
        hand k (omega arith) there (omega arith) ∙ ap (number_for clauses) (sym (kept.points k there))
    by (no new) =
        let s : get_or m'.depths j 0 ≤ get_or m.depths q.at 0 = shallow in
        let d : get_or m.depths q.at 0 < get_or m'.depths k 0 = kept.deeper k (omega arith) to in
        absurd (let z : ⊥ = omega arith in z)

-- ---- the test

some-ne-none : {x : ℕ} → Some x ≡ None → ⊥
some-ne-none e = cc

no_slot : (p : List Slot) (s : Slot) → length p ≡ 0 → opens p s ≡ true
unfolding opens
no_slot [] s e = refl
no_slot (t ∷ p) s e = absurd (let z : ⊥ = omega arith in z)

module _ (g : Frame) (clauses : List Clause) (ok : Searchable g clauses) where
  abbrev pb : Problem
  pb = framed g clauses

  module _ {old : SlotSlices} {p w : List Slot} {s : Slot} {m : SlotSlices} {q : Position}
      (st : Stands pb g.room old p (s ∷ w) m q) where
    -- the slot before the one that is next is the deepest that is processed: it tells whether the depth is new
    opens_read : opens p s ≡ opens_at m.depths q.at
    unfolding opens opens_at
    opens_read = by q.at refl
      where
        own : get_or m.depths q.at 0 ≡ s.depth
        own = slot_read (λ (t : Slot). t.depth) p w s old.depths m.depths q.at
            (ap (λ (n : SlotSlices). n.depths) st.holds.held) st.processed

        whole : length (p ++ s ∷ w) ≡ length p + suc (length w)
        whole = length-append p (s ∷ w)

        -- the depth of a processed slot
        front : (i : ℕ) → i < length p → get_or m.depths i 0 ≡ (slot_at p i).depth
        front i lt = depth_at st i (omega (arith, st.number, whole))
            ∙ ap (λ (t : Slot). t.depth) (get_or-append p (s ∷ w) (slot 0 0 0) i lt)

        by : (k : ℕ) → q.at ≡ k → opens p s ≡ opens_at m.depths k
        by zero e = no_slot p s (st.processed ∙ e)
        by (suc k) e = same_tests (opens p s) (opens_at m.depths (suc k)) there back
          where
            last : k < length p
            last = omega (arith, st.processed)

            next : get_or m.depths (suc k) 0 ≡ s.depth
            next = ap (λ (i : ℕ). get_or m.depths i 0) (sym e) ∙ own

            there : opens p s ≡ true → opens_at m.depths (suc k) ≡ true
            there all = lt-ltb (get_or m.depths k 0) (get_or m.depths (suc k) 0)
                (let a : (slot_at p k).depth < s.depth = ltb-true (slot_at p k).depth s.depth
                (all-at (λ (t : Slot). ltb t.depth s.depth) all (get_d_in p k (slot 0 0 0) last)) in
                let b : get_or m.depths k 0 ≡ (slot_at p k).depth = front k last in
                let z : get_or m.depths k 0 < get_or m.depths (suc k) 0 = omega (arith, next) in z)

            back : opens_at m.depths (suc k) ≡ true → opens p s ≡ true
            back new = all_of (λ (t : Slot). ltb t.depth s.depth) p shallower
              where
                deep : get_or m.depths k 0 < get_or m.depths (suc k) 0
                deep = ltb-true (get_or m.depths k 0) (get_or m.depths (suc k) 0) new

                shallower : (t : Slot) → t ∈ p → ltb t.depth s.depth ≡ true
                shallower t h =
                    let i = in_get_d (slot 0 0 0) h in
                    let a : get_or m.depths i.0 0 ≤ get_or m.depths k 0 =
                    depths_ascend st i.0 k (omega (arith, i.1)) (omega (arith, st.number, whole)) in
                    let b : get_or m.depths i.0 0 ≡ (slot_at p i.0).depth = front i.0 i.1 in
                    let c : (slot_at p i.0).depth ≡ t.depth = ap (λ (u : Slot). u.depth) i.2 in
                    lt-ltb t.depth s.depth (let z : t.depth < s.depth = omega (arith, next, deep) in z)

    -- the points between the slot that is next and the last one filled are those of the slots that wait
    waiting_points : between q.at q.filled m.points ≡ points_in (s ∷ w)
    waiting_points =
        ap (drop q.at) (held_points q.filled st.holds st.number
        ∙ map-append (λ (t : Slot). t.point) p (s ∷ w))
        ∙ drop_at (points_in p) (points_in (s ∷ w)) q.at (length-map p (λ (t : Slot). t.point) ∙ st.processed)

    -- at a new depth the test is one of all points that the walk tests
    tested_points : opens_at m.depths q.at ≡ true → between q.at q.filled m.points ≡ tested p s w
    tested_points new = waiting_points ∙ sym (tested-all pb g.room p w s st.invariants (opens_read ∙ new))

    -- Q03.2: "the one smallest as a number is now handed back"
    found_ends : {x d : ℕ} {found : List ℕ} → Tests clauses m.points m.depths q.at q.filled (Some x) found
        → d ≡ distance point_digits x g.target
        → Ended pb g.room old p (s ∷ w) (satisfiable x d q.filled) m
    found_ends {x} {d} t far =
        ⊎_elim new (λ e. absurd (some-ne-none (t.unopened e))) (true-or-false (opens_at m.depths q.at))
      where
        new : opens_at m.depths q.at ≡ true → Ended pb g.room old p (s ∷ w) (satisfiable x d q.filled) m
        new e =
            let best : Smallest pb.clauses (tested p s w) x =
            subst (λ l. Smallest pb.clauses l x) (tested_points e) (t.opened e) in
            let o = map_out (λ (t : Slot). t.point) (s ∷ w)
            (subst (λ l. x ∈ l) waiting_points (t.opened e).among) in
            let below : x < 2 ^ g.permutations.variables = subst (λ y. y < 2 ^ g.permutations.variables) (sym o.2)
            (st.invariants.filled.below o.0 (Memᴰ.append_right p o.1)) in
            let near : distance g.permutations.variables x g.target ≡ d =
            sym (distance_wider g.permutations.variables point_digits x g.target below ok.ready.target_below
            ok.permuting.few) ∙ sym far in
            record {
              slots = p ++ s ∷ w;
              holds = st.holds;
              walks = subst (λ r. Walks pb g.room (state p (s ∷ w)) r (p ++ s ∷ w))
                  (ap₂ (λ a b. satisfiable x a b) near st.number) (met best);
            }

    none_found : {found : List ℕ} → Tests clauses m.points m.depths q.at q.filled None found
        → NoneSatisfies pb.clauses (tested p s w)
    none_found t = ⊎_elim new old_depth (true-or-false (opens_at m.depths q.at))
      where
        new : opens_at m.depths q.at ≡ true → NoneSatisfies pb.clauses (tested p s w)
        new e = subst (NoneSatisfies pb.clauses) (tested_points e) (t.opened e)

        old_depth : opens_at m.depths q.at ≡ false → NoneSatisfies pb.clauses (tested p s w)
        old_depth e = untested_fails pb g.room p w s st.invariants (opens_read ∙ e)

  module _ (m : SlotSlices) (q : Position) {found : List ℕ} where
    pub level_met : {x d : ℕ} → Tests clauses m.points m.depths q.at q.filled (Some x) found → q.at < q.filled
        → d ≡ distance point_digits x g.target → Concludes pb g.room m q (satisfiable x d q.filled) m
    level_met t lt far old p [] st = absurd (one_waits g clauses ok lt st)
    level_met t lt far old p (s ∷ w) st = found_ends st t far

    pub level_unmet : Tests clauses m.points m.depths q.at q.filled None found → Unmet pb g.room m q
    level_unmet t old p w s st = none_found st t

    -- the number of the slot that is next
    pub next_number : {b : Option ℕ} → Tests clauses m.points m.depths q.at q.filled b found → q.at < q.filled
        → get_or found q.at 0 ≡ number_for clauses (get_or m.points q.at 0)
    next_number t lt = t.numbers q.at (le_refl q.at) lt (le_refl (get_or m.depths q.at 0))
