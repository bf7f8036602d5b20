-- The certificate of an unsatisfiable formula: the slots that the search leaves pass the writer's tests, and what the
-- writer then puts out is a stable set, so the checker accepts it. Assumes nothing.
use Rattle.std.proofs.Math.Bool.{true}
use Rattle.std.specs.Prelude.{◌&&◌, ◌≡◌, ℕ, ◌≤◌, ◌<◌, ◌^◌, length, take}
use mathlib.Core.List.Memᴰ
use mathlib.Core.List.{List, [], ◌++◌, map}
use Rattle.std.proofs.Math.Path.{refl, sym, ap, subst}
use Rattle.std.proofs.Common.{◌∙◌, le_trans, le_of_eq, lt_of_lt_of_le, get_or-take, le-leb}
use native.Mathlib.Omega.{arith}
use Rattle.std.proofs.Math.Dec.{leb}
use Rattle.std.proofs.Math.ListN.{get_or, drop, get_or-map}
use Rattle.std.proofs.lemmas.List.{length-map}
use Rattle.std.proofs.lemmas.Bool.{lt-leb}
use Rattle.math.specs.Bits.{flip}
use Rattle.math.specs.Laws.ListLaws.{here, and_join, get_d_in, map_out}
use Rattle.math.specs.Lists.{◌∈◌, first_failing, below, over}
use Rattle.math.specs.Laws.PartLaws.{over-front, over-length}
use Rattle.points.specs.Laws.PointLaws.{falsified as unsatisfied}
use Rattle.points.specs.Points.{Numbered, Satisfies, satisfies, variables, FirstFalsified}
use Rattle.point_slices.specs.Slices.{ClauseSlices, SlotSlices, clauses_of}
use Rattle.permutation_theory.specs.Permutations.{Covered}
use Rattle.formula.specs.declared.Formula.{Formula}
use Rattle.formula.specs.Limits.{max_slots, capacity}
use Rattle.formula.specs.Problem.{Problem, problem_of}
use Rattle.formula.specs.Laws.RefusalLaws.{formula_passes, permutation_passes, symmetry_passes, fits_complete}
use Rattle.formula.specs.Refusals.{clauses_fault, formula_fault, permutation_fault, symmetry_fault, room_fault}
use Rattle.formula.specs.Reply.{Reply, refused, unsatisfiable, written, accepted, no_fault, fault, first, fault_at}
use Rattle.formula.specs.Reply.{unless, unless_kept, Fault}
use Rattle.formula.specs.Laws.ReplyLaws.{first_skips, first_stops, test_passed, passes_below}
use Rattle.formula.specs.Laws.ReplyLaws.{unsatisfiable_not_refused}
use Rattle.search.specs.Laws.Accepted.{rows, no_faults, answered}
use Rattle.search.specs.Laws.Left.{search_left}
use Rattle.search_theory.specs.Laws.Promised.{ClosedSlots}
use Rattle.search.specs.Laws.WalkAnswers.{WalkAnswers}
use Rattle.search.specs.Search.{search_fault, search_reply, search_slots, search_slices}
use Rattle.search.specs.Laws.Theorems.{search_closed, slots_filled}
use Rattle.search_theory.specs.Filled.{filled_with}
use Rattle.search_theory.specs.Walk.{Slot, slot}
use Rattle.certificate.specs.Certificate.{file_points, file_numbers}
use Rattle.certificate.specs.Laws.RowLaws.{points_pass, point_passes-take, clause_of_lem, numbered-own, number_passes_lem}
use Rattle.certificate.specs.Laws.RowLaws.{OwnNumbers}
use Rattle.certificate.specs.Rows.{point_passes, points_fault, clause_numbered, number_passes, numbers_fault}
use Rattle.certificate.specs.Writer.{length_needed, certificate_of, write_fault, write_reply, write_output}
use Rattle.certificate.specs.Laws.WriterLaws.{write_rows, passed_writer, reply_written, reads_back, past_unchanged}
use Rattle.checker.specs.Checker.{check_reply}
use Rattle.checker.proofs.CheckerLaws.{accepts_complete}
use Rattle.check_theory.specs.Stable.{Transported, Stable}

-- ---- lists of slots, part by part

slot_d : Slot
slot_d = slot 0 0 0

-- the part of the slot of index i
part_at : (part : Slot → ℕ) → part (slot 0 0 0) ≡ 0 → (l : List Slot) (i : ℕ)
    → get_or (map part l) i 0 ≡ part (get_or l i (slot 0 0 0))
part_at part e l i = ap (get_or (map part l) i) (sym e) ∙ get_or-map part l i (slot 0 0 0)

-- a clause that is the first falsified one is among the clauses
first_member : (cs : List Numbered) (x : ℕ) (c : Numbered) → FirstFalsified cs x c → c ∈ cs
first_member cs x c f = subst (λ l. c ∈ l) (sym f.place) (Memᴰ.append_right f.before (here c f.after))

module _ (f : Formula) (clauses : ClauseSlices) (slots : SlotSlices) where
  abbrev pb : Problem
  pb = problem_of f clauses

  abbrev lent : ℕ
  lent = capacity slots

  abbrev l : List Slot
  l = search_slots f clauses lent

  module _ (filled : ℕ) (reply : search_reply f clauses lent ≡ unsatisfiable filled) where
    answer : WalkAnswers f clauses lent (unsatisfiable filled)
    answer = answered f clauses lent (unsatisfiable filled) reply unsatisfiable_not_refused

    passed : search_fault f clauses lent ≡ no_fault
    passed = no_faults f clauses lent (unsatisfiable filled) reply unsatisfiable_not_refused

    closed : ClosedSlots pb l
    closed = (search_closed f clauses lent filled reply).0

    counted : filled ≡ length l
    counted = (search_closed f clauses lent filled reply).1

    few : length l ≤ lent
    few = slots_filled pb lent answer.ready answer.room answer.walks

    -- ---- the slices as the search leaves them

    abbrev slots' : SlotSlices
    slots' = filled_with l slots

    after_is : search_slices f clauses slots ≡ slots'
    after_is = search_left f clauses slots (unsatisfiable filled) reply unsatisfiable_not_refused

    abbrev after : (Slot → ℕ) → List ℕ → List ℕ
    after part old = over (map part l) old

    after-length : (part : Slot → ℕ) (old : List ℕ) → lent ≤ length old → length (after part old) ≡ length old
    after-length part old h =
        over-length (map part l) old (le_trans (le_of_eq (length-map l part)) (le_trans few h))

    after_front : (part : Slot → ℕ) (old : List ℕ) → take filled (after part old) ≡ map part l
    after_front part old =
        over-front filled (map part l) old (length-map l part ∙ sym counted)

    abbrev points' : List ℕ
    points' = slots'.points

    abbrev falsified' : List ℕ
    falsified' = slots'.falsified

    lent-parts : (lent ≤ length slots.points) × (lent ≤ length slots.falsified) × (lent ≤ length slots.depths)
        × (lent ≤ max_slots)
    unfolding capacity
    lent-parts = (omega arith, omega arith, omega arith, omega arith)

    same_lent : capacity slots' ≡ lent
    unfolding capacity
    same_lent =
        let e = after-length (λ (s : Slot). s.point) slots.points lent-parts.0 in
        let g = after-length (λ (s : Slot). s.falsified) slots.falsified lent-parts.1 in
        let h = after-length (λ (s : Slot). s.depth) slots.depths lent-parts.2 in
        rw (e, g, h)

    -- ---- the writer's tests

    -- the rows 10, 11 and 12 are the search's
    sheet_passed : (formula_fault f clauses ≡ no_fault)
        × (permutation_fault pb.variables pb.permutations ≡ no_fault)
        × (symmetry_fault pb.clauses pb.permutations ≡ no_fault)
    unfolding problem_of
    sheet_passed = let r = rows f clauses lent passed in (r.0, r.1, r.2)

    abbrev cs : List Numbered
    cs = pb.clauses

    abbrev xs : List ℕ
    xs = map (λ (s : Slot). s.point) l

    abbrev ks : List ℕ
    ks = map (λ (s : Slot). s.falsified) l

    points_below : (x : ℕ) → x ∈ xs → x < 2 ^ pb.variables
    points_below x m = let w = map_out (λ (s : Slot). s.point) l m in subst (λ y. y < 2 ^ pb.variables) (sym w.2)
        (closed.below w.0 w.1)

    own_numbers : OwnNumbers cs
    unfolding problem_of
    own_numbers = numbered-own 1 (clauses_of clauses)

    -- an entry of a slice among the first k is that of the slots
    front_at : (part : Slot → ℕ) → part (slot 0 0 0) ≡ 0 → (old : List ℕ) (i : ℕ) → i < filled
        → get_or (after part old) i 0 ≡ part (get_or l i (slot 0 0 0))
    front_at part e old i lt = sym (get_or-take filled (after part old) i 0 lt)
        ∙ ap (λ q. get_or q i 0) (after_front part old)
        ∙ part_at part e l i

    within : (i : ℕ) → i < filled → i < length l
    within i lt = subst (λ m. i < m) counted lt

    row16 : points_fault (capacity slots') pb.variables filled points' ≡ no_fault
    unfolding points_fault
    row16 =
        let some : 1 ≤ filled = subst (λ m. 1 ≤ m) (sym counted) closed.nonempty in
        let most : filled ≤ capacity slots' = subst (λ m. m ≤ capacity slots')
        (sym counted) (le_trans few (le_of_eq (sym same_lent))) in
        test_passed (leb 1 filled && leb filled (capacity slots'))
        (fault_at 16 (first_failing (point_passes pb.variables points') (below filled))) 16 0
        (and_join (leb 1 filled) (leb filled (capacity slots')) (le-leb 1 filled some)
        (le-leb filled (capacity slots') most))
        (passes_below 16 (point_passes pb.variables points') filled each)
      where
        each : (i : ℕ) → i < filled → point_passes pb.variables points' i ≡ true
        each i lt =
            sym (point_passes-take pb.variables points' filled i lt)
            ∙ ap (λ q. point_passes pb.variables q i) (after_front (λ (s : Slot). s.point) slots.points)
            ∙ points_pass pb.variables xs points_below closed.distinct i
            (lt_of_lt_of_le (within i lt) (le_of_eq (sym (length-map l (λ (s : Slot). s.point)))))

    row17 : numbers_fault cs filled points' falsified' ≡ no_fault
    unfolding numbers_fault
    row17 = passes_below 17 (number_passes cs points' falsified') filled each
      where
        each : (i : ℕ) → i < filled → number_passes cs points' falsified' i ≡ true
        each i lt =
            let t = get_or l i (slot 0 0 0) in
            let m = (closed.settled t (get_d_in l i (slot 0 0 0) (within i lt))).moved in
            let number : get_or falsified' i 0
            ≡ m.clause.number = front_at (λ (s : Slot). s.falsified) refl slots.falsified i lt ∙ m.number in
            let point : get_or points' i 0 ≡ t.point = front_at (λ (s : Slot). s.point) refl slots.points i lt in
            number_passes_lem cs points' falsified' i m.clause.clause
            (ap (clause_numbered cs) number
            ∙ clause_of_lem cs own_numbers m.clause (first_member cs t.point m.clause m.first))
            (ap (satisfies m.clause.clause) point
            ∙ unsatisfied m.clause.clause t.point m.first.falsified)

    -- ---- what the writer answers and puts out

    abbrev size : ℕ
    size = length_needed pb filled

    module _ (out : List ℕ) where
      abbrev faults : Fault
      faults = write_fault f clauses slots' filled out

      abbrev reply_of : SlotSlices → Reply
      reply_of s = write_reply f clauses s filled out

      abbrev output : SlotSlices → List ℕ
      output s = write_output f clauses s filled out

      abbrev left : SlotSlices
      left = search_slices f clauses slots

      -- C7: "there the writer refuses by 19 only"
      short_fault : length out < size → faults ≡ fault 19 size
      unfolding room_fault
      short_fault lt =
          let r = sheet_passed in
          write_rows f clauses slots' filled out
          ∙ first_skips _ _ r.0 ∙ first_skips _ _ r.1 ∙ first_skips _ _ r.2 ∙ first_skips _ _ row16
          ∙ first_skips _ _ row17
          ∙ first_stops (room_fault size (length out)) [] 19 size (rw (lt-leb size (length out) lt))

      pub short_reply : length out < size → reply_of left ≡ refused 19 size
      unfolding write_reply
      short_reply lt = ap reply_of after_is ∙ ap (λ t. unless t (written size)) (short_fault lt)

      pub short_output : length out < size → output left ≡ out
      unfolding write_output
      short_output lt = ap output after_is ∙ ap (λ t. unless_kept t (certificate_of pb slots' filled ++ drop size out)
          out)
          (short_fault lt)

      long_passes : size ≤ length out → faults ≡ no_fault
      unfolding room_fault
      long_passes le =
          let r = sheet_passed in
          passed_writer f clauses slots' filled out
          (record {
            row10 = r.0;
            row11 = r.1;
            row12 = r.2;
            row16 = row16;
            row17 = row17;
            row19 = rw
                (le-leb size (length out) le);
          })

      long_written : size ≤ length out → reply_of slots' ≡ written size
      long_written le = reply_written f clauses slots' filled out (long_passes le)

      pub long_reply : size ≤ length out → reply_of left ≡ written size
      long_reply le = ap reply_of after_is ∙ long_written le

      pub long_rest : size ≤ length out → drop size (output left) ≡ drop size out
      long_rest le = ap (λ s. drop size (output s)) after_is
          ∙ past_unchanged f clauses slots' filled out size (long_written le)

    -- ---- the slots are a stable set, in the checker's form

    transported : (i : ℕ) → i < length xs
        → Transported pb.variables cs pb.permutations xs (get_or xs i 0) (get_or ks i 0)
    transported i lt =
        let at : i < length l = subst (λ m. i < m) (length-map l (λ (s : Slot). s.point)) lt in
        let t = get_or l i (slot 0 0 0) in
        let s = closed.settled t (get_d_in l i (slot 0 0 0) at) in
        let point : get_or xs i 0 ≡ t.point = part_at (λ (s : Slot). s.point) refl l i in
        record {
          own = s.moved.clause;
          member = first_member cs t.point s.moved.clause s.moved.first;
          named = sym s.moved.number ∙ sym (part_at (λ (s : Slot). s.falsified) refl l i);
          falsified = λ h. s.moved.first.falsified (subst (Satisfies s.moved.clause.clause) point h);
          flips = λ v m. subst (λ x. Covered pb.permutations xs (flip x v)) (sym point) (s.flips v m);
        }

    stable : Stable pb.variables cs pb.permutations xs ks
    stable =
        let r = sheet_passed in
        let e = permutation_passes pb.variables pb.permutations r.1 in
        let many : length xs ≡ length l = length-map l (λ (s : Slot). s.point) in
        record {
          few_permutations = e.0;
          are_permutations = e.1;
          keep_clauses = symmetry_passes cs pb.permutations r.2;
          some_point = le_trans closed.nonempty (le_of_eq (sym many));
          few_points = le_trans (le_of_eq many) (le_trans few lent-parts.3);
          within = points_below;
          distinct = closed.distinct;
          paired = length-map l (λ (s : Slot). s.falsified) ∙ sym many;
          transported = transported;
        }

    clauses_sound : clauses_fault f clauses ≡ no_fault
    unfolding clauses_fault
    clauses_sound = rw (fits_complete f.variables f.clauses clauses
        (formula_passes f clauses sheet_passed.0).0)

    -- D3.4: "Its certificate is then accepted."
    pub long_accepted : (out : List ℕ) → size ≤ length out
        → check_reply f clauses (take size (output out (left out))) ≡ accepted
    long_accepted out le =
        let w = reads_back f clauses slots' filled out size (long_written out le) in
        let same_points : file_points (take size (output out slots')) ≡ xs = w.reads_points
        ∙ after_front (λ (s : Slot). s.point) slots.points in
        let same_numbers : file_numbers (take size (output out slots')) ≡ ks = w.reads_numbers
        ∙ after_front (λ (s : Slot). s.falsified) slots.falsified in
        ap (λ s. check_reply f clauses (take size (output out s))) after_is
        ∙ accepts_complete f clauses (take size (output out slots'))
        (record {
          clauses_pass = clauses_sound;
          in_order = w.in_order;
          same_variables = w.reads_variables;
          same_total = w.reads_total;
          stable = rw (w.reads_permutations, same_points, same_numbers) stable;
        })
