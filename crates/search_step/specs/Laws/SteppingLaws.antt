-- Laws of one step of the search: its slot is taken, the flips of its clause's variables are tried, and then it goes
-- on or answers 'unknown'. Assumes nothing.
use Rattle.std.specs.Prelude.{Ok, Err, Bool, true, false, refl, ◌≡◌, ℕ, suc, ◌+◌, ◌-◌, ◌≤◌, ◌<◌, ◌^◌, length, get_or, set, drop}
use mathlib.Core.List.Memᴰ
use mathlib.Core.List.{List, [], map, append-nil, append_assoc, ◌∷◌, ◌++◌}
use Rattle.std.proofs.Common.{sym, ap, ap₂, ◌∙◌, le_trans, le_of_eq, lt_of_lt_of_le, add-one, arith, length-append, length-set, get_or-append-add}
use Rattle.std.proofs.Math.Path.{subst}
use Rattle.std.proofs.lemmas.Nat.{or_lt}
use Rattle.std.proofs.lemmas.List.{length-map, get_or_at}
use Rattle.std.proofs.Math.ListN.{get_or-append}
use Rattle.formula.specs.Laws.RefusalLaws.{digits_suffice}
use Rattle.math.specs.Bits.{members}
use Rattle.math.specs.Lists.{over}
use Rattle.math.specs.Laws.ListLaws.{here, get_d_in}
use Rattle.math.specs.Laws.OverLaws.{over_change, over-at}
use Rattle.math.specs.Laws.QueueLaws.{length_snoc, length_moved, map-moved, get_d_moved}
use Rattle.math.specs.Laws.SplitLaws.{map-append, map_at}
use Rattle.points.specs.Points.{Clause, listed, variables, Numbered, SatisfiesAll, FirstFalsified, NoneSatisfies}
use Rattle.points.specs.Points.{empty_clause}
use Rattle.point_slices.specs.Slices.{SlotSlices}
use Rattle.formula.specs.Limits.{max_slots}
use Rattle.formula.specs.Problem.{Problem}
use Rattle.formula.specs.Reply.{unknown}
use Rattle.search_expansion.specs.declared.Frame.{Frame}
use Rattle.search_expansion.specs.declared.Visit.{Visit}
use Rattle.search_level.specs.declared.Position.{Position}
use Rattle.search_step.specs.declared.Conclusion.TheVariants.{Unknown}
use Rattle.search_step.specs.declared.Turn.{Turn}
use Rattle.permutation_coverage.specs.Laws.Coverage.{Imaged}
use Rattle.search_expansion.specs.Laws.Filling.{Fillable, Advances, Expands}
use Rattle.search_expansion.specs.Laws.FillingLaws.{ended, advances_ends}
use Rattle.search_expansion.specs.Laws.Memory.{Holds, Lends}
use Rattle.search_level.specs.Laws.NumberLaws.{number_none, number_found}
use Rattle.search_level.specs.Laws.Testing.{number_for}
use Rattle.search_step.specs.Laws.Stepping.{framed, Searchable, Linked, position, next_point, Next, Stands, Midway}
use Rattle.search_step.specs.Laws.Stepping.{Unmet, GoesOn, Ended, Steps, Kept, Processable}
use Rattle.search_theory.proofs.ExpansionLaws.{invariants_step}
use Rattle.search_theory.specs.Laws.InvariantLaws.{first_in}
use Rattle.search_theory.specs.Laws.Invariants.{slot_at}
use Rattle.search_theory.specs.Filled.{filled_with}
use Rattle.search_theory.proofs.LevelLaws.{tested-first}
use Rattle.search_theory.specs.Walk.{Slot, slot, with_number, state, Expansion, Fills, tested, Walks, stuck, goes_on}
use Rattle.search_theory.proofs.WalkLaws.{Added, fills_adds, fills_room}

-- ---- a slot in the memory

-- what a slice has at the index of one of the slots l
pub slot_at_lem : (part : Slot → ℕ) (l : List Slot) (old now : List ℕ) → now ≡ over (map part l) old → (i : ℕ)
    → i < length l → get_or now i 0 ≡ part (slot_at l i)
unfolding over
slot_at_lem part l old now e i lt =
    ap (λ n. get_or n i 0) e
    ∙ get_or-append (map part l) (drop (length (map part l)) old) 0 i
    (lt_of_lt_of_le lt (le_of_eq (sym (length-map l part))))
    ∙ map_at part l i (slot 0 0 0) 0 lt

-- what it has at the index of the slot s, behind the slots p
pub slot_read : (part : Slot → ℕ) (p w : List Slot) (s : Slot) (old now : List ℕ) (i : ℕ)
    → now ≡ over (map part (p ++ s ∷ w)) old → length p ≡ i → get_or now i 0 ≡ part s
slot_read part p w s old now i e n =
    ap (λ l. get_or l i 0) (e ∙ ap (λ l. over l old) (map-append part p (s ∷ w)))
    ∙ over-at i (map part p) (map part w) old (part s) 0 (length-map p part ∙ n)

-- the memory once the number is stored in the slot of index i
abbrev pub numbered_in : ℕ → ℕ → SlotSlices → SlotSlices
numbered_in i number m = record {
  points = m.points;
  points_rest = m.points_rest;
  falsified = set m.falsified i number;
  depths = m.depths;
}

-- W6: "that number goes into its slot first"
number_stored : (old : SlotSlices) (p w : List Slot) (s : Slot) (c : Numbered) (i : ℕ) (m : SlotSlices)
    → Holds old (p ++ s ∷ w) m → length p ≡ i
    → Holds old ((p ++ with_number s c ∷ []) ++ w) (numbered_in i c.number m)
number_stored old p w s c i m h n =
    let points = ap (λ (t : SlotSlices). t.points) h.held ∙ ap (λ l. over l old.points)
    (sym (map-moved (λ (s : Slot). s.point) p w (with_number s c) s refl)) in
    let falsified = ap (λ (t : SlotSlices). set t.falsified i c.number) h.held
    ∙ ap (λ l. set (over l old.falsified) i c.number) (map-append part p (s ∷ w))
    ∙ over_change i (map part p) (map part w) old.falsified s.falsified c.number (length-map p part ∙ n)
    ∙ ap (λ l. over l old.falsified) (sym (map-append part p (with_number s c ∷ w))
    ∙ sym (map-moved part p w (with_number s c) (with_number s c) refl)) in
    let depths = ap (λ (t : SlotSlices). t.depths) h.held ∙ ap (λ l. over l old.depths)
    (sym (map-moved (λ (s : Slot). s.depth) p w (with_number s c) s refl)) in
    record {
      held = λ j. record {
        points = points j;
        points_rest = (h.held j).points_rest;
        falsified = falsified j;
        depths = depths j;
      };
    }
  where
    part : Slot → ℕ
    part t = t.falsified

-- ---- one step

module _ (g : Frame) (clauses : List Clause) (ok : Searchable g clauses) where
  abbrev pb : Problem
  pb = framed g clauses

  -- a slot is taken, at the front of those that wait, and its point falsifies a clause first, the one of that number
  pub record Taken (old : SlotSlices) (p w : List Slot) (m₀ : SlotSlices) (q : Position) (from : Visit) (number : ℕ)
      : Type 0 where
    pub taken : Slot
    pub rest : List Slot
    pub falsified : Numbered
    pub split : w ≡ taken ∷ rest
    pub point : from.point ≡ taken.point
    pub depth : from.depth ≡ taken.depth
    pub none : NoneSatisfies pb.clauses (tested p taken rest)
    pub first : FirstFalsified pb.clauses taken.point falsified
    pub place : falsified.clause ≡ get_or clauses (number - 1) empty_clause
    pub stands : Stands pb g.room old p (taken ∷ rest) m₀ q
    pub holds : Holds old ((p ++ with_number taken falsified ∷ []) ++ rest) (numbered_in q.at number m₀)

  module _ {old : SlotSlices} {p : List Slot} {m₀ : SlotSlices} {q : Position} where
    -- before the last of the filled slots one waits
    pub one_waits : q.at < q.filled → Stands pb g.room old p [] m₀ q → ⊥
    one_waits lt st =
        let a : length (p ++ []) ≡ length p = ap length (append-nil p) in
        omega (arith, st.processed, st.number)

    module _ (x number : ℕ) (read : x ≡ next_point m₀ q)
        (found : number ≡ number_for clauses x) (lt : q.at < q.filled) (unmet : Unmet pb g.room m₀ q) where
      -- the point read is the first waiting slot's
      point_of : (s : Slot) (w : List Slot) → Stands pb g.room old p (s ∷ w) m₀ q → x ≡ s.point
      point_of s w st = read ∙ slot_read (λ (s : Slot). s.point) p w s old.points m₀.points q.at
          (ap (λ (t : SlotSlices). t.points) st.holds.held) st.processed

      -- it was tested, so it falsifies a clause
      pub taken_fails : (w : List Slot) → Stands pb g.room old p w m₀ q → number ≡ 0 → ⊥
      taken_fails [] st z = one_waits lt st
      taken_fails (s ∷ w) st z = unmet old p w s st s.point (tested-first p w s)
          (subst (SatisfiesAll pb.clauses) (point_of s w st) (number_none x clauses number found z))

      pub taken_of : (w : List Slot) (d : ℕ) → d ≡ get_or m₀.depths q.at 0 → Stands pb g.room old p w m₀ q
          → Taken old p w m₀ q (record { point = x; depth = d }) number
      taken_of [] d deep st = absurd (one_waits lt st)
      taken_of (s ∷ w) d deep st =
          let same = point_of s w st in
          let f = number_found x clauses number found (taken_fails (s ∷ w) st) in
          record {
            taken = s;
            rest = w;
            falsified = f.0;
            split = refl;
            point = same;
            depth = deep ∙ slot_read (λ (s : Slot). s.depth) p w s old.depths m₀.depths q.at
                (ap (λ (t : SlotSlices). t.depths) st.holds.held) st.processed;
            none = unmet old p w s st;
            first = subst (λ y. FirstFalsified pb.clauses y f.0) same f.1;
            place = f.3;
            stands = st;
            holds = subst (λ j. Holds old ((p ++ with_number s f.0 ∷ []) ++ w) (numbered_in q.at j m₀)) (sym f.2)
                (number_stored old p w s f.0 q.at m₀ st.holds st.processed);
          }

  -- the point of the next slot is one of n digits, as those of all filled slots are
  pub next_narrow : {m₀ : SlotSlices} {q : Position} → q.at < q.filled → Midway pb g.room m₀ q
      → next_point m₀ q < 2 ^ g.permutations.variables
  next_narrow {m₀} {q} lt at = by at.front at.back at.stands
    where
      by : (p w : List Slot) → Stands pb g.room at.old p w m₀ q → next_point m₀ q < 2 ^ g.permutations.variables
      by p [] st = absurd (one_waits lt st)
      by p (s ∷ w) st =
          subst (λ (y : ℕ). y < 2 ^ g.permutations.variables)
          (sym (slot_read (λ (t : Slot). t.point) p w s at.old.points
          m₀.points q.at (ap (λ (t : SlotSlices). t.points) st.holds.held) st.processed))
          (st.invariants.filled.below s (Memᴰ.append_right p (here s w)))

  -- the number that the test has kept for it is one of a clause
  pub turn_numbered : {m₀ : SlotSlices} {q : Position} {number : ℕ} → q.at < q.filled → Midway pb g.room m₀ q
      → Unmet pb g.room m₀ q → number ≡ number_for clauses (next_point m₀ q) → number ≡ 0 → ⊥
  turn_numbered {m₀} {q} {number} lt at unmet found = taken_fails (next_point m₀ q) number refl found lt unmet at.back
      at.stands

  -- ---- the slot that is taken, and its flips

  module _ {old : SlotSlices} {p w : List Slot} {m₀ : SlotSlices} {q : Position} {from : Visit} {number : ℕ}
      (t : Taken old p w m₀ q from number) where
    abbrev known : List Slot
    known = p ++ with_number t.taken t.falsified ∷ []

    -- a slot's depth is at most its index
    pub taken_shallow : q.at < q.filled → from.depth < max_slots
    taken_shallow lt =
        let st = t.stands in
        let at = get_or_at p t.taken t.rest (slot 0 0 0) q.at st.processed in
        let e : (slot_at (p ++ t.taken ∷ t.rest) q.at).depth ≡ from.depth =
        ap (λ (s : Slot). s.depth) at ∙ sym t.depth in
        omega (
          arith,
          st.invariants.filled.depth_index q.at (subst (λ (j : ℕ). q.at < j) (sym st.number) lt),
          ok.most,
          st.number,
          st.invariants.filled.room,
        )

    -- the variables of the clause: a set of variables below n
    clause-listed : (c : Clause) (s : ℕ) → c ≡ get_or clauses (number - 1) empty_clause → s ≡ listed c
        → s ≡ listed t.falsified.clause
    clause-listed c s e l = l ∙ ap listed (e ∙ sym t.place)

    pub taken-below : (c : Clause) (s : ℕ) → c ≡ get_or clauses (number - 1) empty_clause → s ≡ listed c
        → s < 2 ^ g.permutations.variables
    unfolding listed
    taken-below c s e l =
        let b = ok.ready.clauses-below t.falsified (first_in t.first) in
        subst (λ (y : ℕ). y < 2 ^ g.permutations.variables) (sym (clause-listed c s e l))
        (or_lt g.permutations.variables t.falsified.clause.positive t.falsified.clause.negative
        b.positive-below b.negative-below)

    -- the flips are tried, and the memory holds the slots that wait then
    pub record Flipped (enough : Bool) (filled' : ℕ) (m : SlotSlices) : Type 0 where
      pub waiting : List Slot
      pub holds : Holds old (known ++ waiting) m
      pub counted : length (known ++ waiting) ≡ filled'
      pub fills : Fills pb.permutations g.room known t.taken.point t.taken.depth
          (variables g.permutations.variables t.falsified.clause) t.rest (ended enough waiting)

    pub flipped_of : {enough : Bool} {filled' : ℕ} {m : SlotSlices} (c : Clause) (s : ℕ)
        → c ≡ get_or clauses (number - 1) empty_clause → s ≡ listed c
        → Advances pb.permutations g.room from (members g.permutations.variables s) q.filled
        (numbered_in q.at number m₀) enough [] filled' m → Flipped enough filled' m
    unfolding variables
    flipped_of {enough = enough} c s e l adv =
        let a = adv old known t.rest t.holds (length_moved p t.rest (with_number t.taken t.falsified)
        t.taken ∙ t.stands.number) in
        let f = advances_ends pb.permutations g.room from a in
        record {
          waiting = a.waiting;
          holds = a.holds;
          counted = a.number;
          fills = alike t.point t.depth (ap (members g.permutations.variables) (clause-listed c s e l)) f;
        }
      where
        alike : {y z : ℕ} {us vs : List ℕ} {r : Expansion} → from.point ≡ y → from.depth ≡ z → us ≡ vs
            → Fills pb.permutations g.room known from.point from.depth us t.rest r
            → Fills pb.permutations g.room known y z vs t.rest r
        alike {y} {z} {us} {vs} {r} p q u f =
            subst (λ x. Fills pb.permutations g.room known x z vs t.rest r) p
            (subst (λ d. Fills pb.permutations g.room known from.point d vs t.rest r) q
            (subst (λ us. Fills pb.permutations g.room known from.point from.depth us t.rest r) u f))

    pub flipped_room : {filled' : ℕ} {m : SlotSlices} (enough : Bool) → Flipped enough filled' m → filled' ≤ g.room
    flipped_room enough f = by enough f
      where
        start : length (known ++ t.rest) ≤ g.room
        start = le_trans (le_of_eq (length_moved p t.rest (with_number t.taken t.falsified) t.taken))
            t.stands.invariants.filled.room

        by : {filled' : ℕ} {m : SlotSlices} (enough : Bool) → Flipped enough filled' m → filled' ≤ g.room
        by true f = le_trans (le_of_eq (sym f.counted))
            (fills_room pb.permutations g.room known t.taken.point t.taken.depth f.fills start)
        by false f = le_trans (le_of_eq (sym f.counted))
            (fills_room pb.permutations g.room known t.taken.point t.taken.depth f.fills start)

    -- all flips are tried: on to the next slot
    pub step_goes : {filled' : ℕ} {m : SlotSlices} → Flipped true filled' m
        → GoesOn pb g.room old p w m (position (q.at + 1) filled')
    step_goes {filled'} {m} f =
        subst (λ u. GoesOn pb g.room old p u m (position (q.at + 1) filled')) (sym t.split)
        (record {
          front = known;
          back = f.waiting;
          stands = record {
            holds = f.holds;
            processed = length_snoc p (with_number t.taken t.falsified) ∙ ap suc t.stands.processed
                ∙ sym (add-one q.at);
            number = f.counted;
            invariants = invariants_step pb g.room p t.rest t.taken t.falsified t.first
                t.stands.invariants t.none f.fills;
          };
          onward = λ r l u. goes_on t.none t.first f.fills u;
        })

    -- Q03.4: "On 'no room' the number carried is the depth being processed plus one"
    pub step_stuck : {filled' : ℕ} {m : SlotSlices} → Flipped false filled' m
        → Ended pb g.room old p w (unknown (from.depth + 1) filled') m
    step_stuck {filled'} {m} f =
        let a : suc t.taken.depth ≡ from.depth + 1 = ap suc (sym t.depth) ∙ sym (add-one from.depth) in
        let e : unknown (suc t.taken.depth) (length (known ++ f.waiting)) ≡ unknown (from.depth + 1) filled' =
        ap₂ unknown a f.counted in
        subst (λ u. Ended pb g.room old p u (unknown (from.depth + 1) filled') m) (sym t.split)
        (record {
          slots = known ++ f.waiting;
          holds = f.holds;
          walks = subst (λ r. Walks pb g.room (state p (t.taken ∷ t.rest)) r (known ++ f.waiting)) e
              (stuck t.none t.first f.fills);
        })

    -- the slots that were filled stand where they stood, and those filled since are deeper than the one taken
    pub step_keeps : {filled' : ℕ} {m : SlotSlices} → Flipped true filled' m → Kept m₀ q filled' m
    step_keeps {filled'} {m} f =
        record {
          points = λ i lt. same (λ (s : Slot). s.point) refl old.points m.points m₀.points
              (ap (λ (k : SlotSlices). k.points) f.holds.held) (ap (λ (k : SlotSlices). k.points) before) i lt;
          depths = λ i lt. same (λ (s : Slot). s.depth) refl old.depths m.depths m₀.depths
              (ap (λ (k : SlotSlices). k.depths) f.holds.held) (ap (λ (k : SlotSlices). k.depths) before) i lt;
          deeper = deeper;
        }
      where
        added : Added t.taken.depth t.rest f.waiting
        added = fills_adds pb.permutations g.room known t.taken.point t.taken.depth f.fills

        before : m₀ ≡ filled_with (p ++ t.taken ∷ t.rest) old
        before = t.stands.holds.held

        -- those of before, with the number stored, and the new ones
        split : known ++ f.waiting ≡ (known ++ t.rest) ++ added.new
        split = ap (λ l. known ++ l) added.extends ∙ sym (append_assoc known t.rest added.new)

        long : length (known ++ t.rest) ≡ q.filled
        long = length_moved p t.rest (with_number t.taken t.falsified) t.taken ∙ t.stands.number

        grown : length (known ++ f.waiting) ≡ length (known ++ t.rest) + length added.new
        grown = ap length split ∙ length-append (known ++ t.rest) added.new

        same : (part : Slot → ℕ) → part (with_number t.taken t.falsified) ≡ part t.taken
            → (behind now now₀ : List ℕ) → now ≡ over (map part (known ++ f.waiting)) behind
            → now₀ ≡ over (map part (p ++ t.taken ∷ t.rest)) behind → (i : ℕ) → i < q.filled
            → get_or now i 0 ≡ get_or now₀ i 0
        same part alike behind now now₀ e e₀ i lt =
            slot_at_lem part (known ++ f.waiting) behind now e i (omega (arith, grown, long))
            ∙ ap (λ l. part (slot_at l i)) split
            ∙ ap part (get_or-append (known ++ t.rest) added.new (slot 0 0 0) i (omega (arith, long)))
            ∙ get_d_moved part p t.rest (with_number t.taken t.falsified) t.taken (slot 0 0 0) alike i
            ∙ sym (slot_at_lem part (p ++ t.taken ∷ t.rest) behind now₀ e₀ i (omega (arith, t.stands.number)))

        deeper : (i : ℕ) → q.filled ≤ i → i < filled' → get_or m₀.depths q.at 0 < get_or m.depths i 0
        deeper i lo hi =
            let at : get_or m.depths i 0 ≡ (slot_at (known ++ f.waiting) i).depth =
            slot_at_lem (λ (s : Slot). s.depth) (known ++ f.waiting) old.depths m.depths
            (ap (λ (k : SlotSlices). k.depths) f.holds.held) i (omega (arith, f.counted)) in
            let new : slot_at (known ++ f.waiting) i ≡ slot_at added.new (i - q.filled) =
            ap (λ l. slot_at l i) split
            ∙ ap (λ (j : ℕ). slot_at ((known ++ t.rest) ++ added.new) j)
            (let z : i ≡ length (known ++ t.rest) + (i - q.filled) = omega (arith, long) in z)
            ∙ get_or-append-add (known ++ t.rest) added.new (i - q.filled) (slot 0 0 0) in
            let deep : (slot_at added.new (i - q.filled)).depth ≡ suc t.taken.depth =
            added.deeper (slot_at added.new (i - q.filled))
            (get_d_in added.new (i - q.filled) (slot 0 0 0) (omega (arith, grown, long, f.counted))) in
            let own : get_or m₀.depths q.at 0 ≡ t.taken.depth =
            slot_read (λ (s : Slot). s.depth) p t.rest t.taken old.depths m₀.depths q.at
            (ap (λ (k : SlotSlices). k.depths) before) t.stands.processed in
            let whole : get_or m.depths i 0 ≡ suc t.taken.depth =
            at ∙ ap (λ (s : Slot). s.depth) new ∙ deep in
            omega (arith, own, whole)

  -- ---- what the code knows when the flips are to be tried: it has read the slot that is next, and its point falsifies
  -- the clause c first

  pub record Read (m₀ : SlotSlices) (q : Position) (from : Visit) (number s : ℕ) (c : Clause) : Type 0 where
    pub point_read : from.point ≡ next_point m₀ q
    pub depth_read : from.depth ≡ get_or m₀.depths q.at 0
    pub number_read : number ≡ number_for clauses from.point
    pub unmet : Unmet pb g.room m₀ q
    pub clause_read : c ≡ get_or clauses (number - 1) empty_clause
    pub listed_read : s ≡ listed c

  module _ {m₀ : SlotSlices} {q : Position} {from : Visit} {number s : ℕ} {c : Clause} (lt : q.at < q.filled)
      (a : Read m₀ q from number s c) where
    taken_read : {old : SlotSlices} {p w : List Slot} → Stands pb g.room old p w m₀ q
        → Taken old p w m₀ q from number
    taken_read {w = w} st = taken_of from.point number a.point_read a.number_read lt a.unmet w
        from.depth a.depth_read st

    pub read_shallow : Midway pb g.room m₀ q → from.depth < max_slots
    read_shallow at = taken_shallow (taken_read at.stands) lt

    -- what lets its flips be tried, where its images are at hand
    pub read_fillable : {links moved : List ℕ} → Midway pb g.room m₀ q → Linked g m₀ links q.filled
        → Lends g.room m₀ → Next g m₀ moved q
        → Fillable g (numbered_in q.at number m₀) links moved q.filled from
    read_fillable {moved = moved} at l room e =
        let own = subst (λ (y : ℕ). Imaged g.permutations.variables g.permutations.count g.permutations.images.now y moved)
        (sym a.point_read) e in
        record {
          coverable = record {
            askable = record { few = digits_suffice ok.few; indexed = l.indexed; narrow = own.narrow };
            permuting = ok.permuting;
            imaged = own.imaged;
          };
          room = record {
            points_room = room.points_room;
            falsified_room = le_trans room.falsified_room
                (le_of_eq (sym (length-set m₀.falsified q.at number)));
            depths_room = room.depths_room;
          };
          most = ok.most;
          shallow = read_shallow at;
          linked = le_of_eq (sym l.linked);
        }

    pub read_below : Midway pb g.room m₀ q → s < 2 ^ g.permutations.variables
    read_below at = taken-below (taken_read at.stands) c s a.clause_read a.listed_read

    module _ {enough : Bool} {filled' : ℕ} {m : SlotSlices}
        (adv : Advances pb.permutations g.room from (members g.permutations.variables s) q.filled
        (numbered_in q.at number m₀) enough [] filled' m) where
      flipped_read : {old : SlotSlices} {p w : List Slot} (st : Stands pb g.room old p w m₀ q)
          → Flipped (taken_read st) enough filled' m
      flipped_read st = flipped_of (taken_read st) c s a.clause_read a.listed_read adv

      pub read_room : Midway pb g.room m₀ q → filled' ≤ g.room
      read_room at = flipped_room (taken_read at.stands) enough (flipped_read at.stands)

    module _ {filled' : ℕ} {m : SlotSlices} where
      pub read_goes : Expands pb.permutations g.room from (members g.permutations.variables s) q.filled
          (numbered_in q.at number m₀) (Ok filled') m → Steps pb g.room m₀ q (Ok filled') m
      read_goes adv old p w st = step_goes (taken_read st) (flipped_read adv st)

      pub read_keeps : Expands pb.permutations g.room from (members g.permutations.variables s) q.filled
          (numbered_in q.at number m₀) (Ok filled') m → Midway pb g.room m₀ q → Kept m₀ q filled' m
      read_keeps adv at = step_keeps (taken_read at.stands) (flipped_read adv at.stands)

      pub read_stuck : Expands pb.permutations g.room from (members g.permutations.variables s) q.filled
          (numbered_in q.at number m₀) (Err filled') m
          → Steps pb g.room m₀ q (Err (Unknown (from.depth + 1) filled')) m
      read_stuck adv old p w st = step_stuck (taken_read st) (flipped_read adv st)

-- what `process` has read of a slot that can be processed
pub read_of : {g : Frame} {clauses : List Clause} {m : SlotSlices} {links moved : List ℕ} {turn : Turn} {x s : ℕ}
    {c : Clause} → (p : Processable g clauses m links moved turn) → x ≡ next_point m turn.position
    → c ≡ get_or clauses (turn.number - 1) empty_clause → s ≡ listed c
    → Read g clauses p.resumable.searchable m turn.position
    (record { point = x; depth = get_or m.depths turn.position.at 0 }) turn.number s c
read_of {clauses = clauses} p point clause set =
    record {
      point_read = point;
      depth_read = refl;
      number_read = p.number ∙ ap (number_for clauses) (sym point);
      unmet = p.unmet;
      clause_read = clause;
      listed_read = set;
    }
