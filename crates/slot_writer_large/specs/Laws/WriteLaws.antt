-- Laws of the writer on copies of the slots: what it answers and leaves on the first places, where they are as many as
-- are taken, is what it does on all. Assumes nothing.
use Rattle.std.specs.Prelude.{Result, Ok, Err, Bool, true, false, cond, ◌&&◌, ◌≡◌, T, leb, length, take}
use mathlib.Core.List.{List, [], ◌∷◌, ◌++◌}
use Rattle.std.proofs.Math.Path.{refl, sym, ap}
use Rattle.std.proofs.Common.{subst, ◌∙◌, arith, leb→le, take-take, length-take-le, leb-true}
use Prim.Native.Nat.{ℕ, ◌≤◌, min, zero-le}
use Rattle.std.proofs.Math.ListN.{drop}
use Rattle.std.proofs.lemmas.List.{length-map}
use Rattle.math.specs.Lists.{first_failing, below}
use Rattle.points.specs.Points.{Numbered}
use Rattle.point_slices.specs.Slices.{ClauseSlices, SlotSlices, slot_slices, whole_slots}
use Rattle.formula.specs.declared.Formula.{Formula}
use Rattle.formula.specs.Limits.{max_slots, capacity}
use Rattle.formula.specs.Problem.{problem_of}
use Rattle.formula.specs.Refusals.{formula_fault, permutation_fault, symmetry_fault, room_fault}
use Rattle.formula.specs.Reply.{Fault, no_fault, fault, first, unless, unless_kept, written, fault_at}
use Rattle.formula.specs.Laws.ReplyLaws.{IsFault, first_stops, first_split, first_last, tested, written_not_refused}
use Rattle.formula.specs.declared.reasons.Refusal.{Refusal}
use Rattle.certificate.specs.Certificate.{encode}
use Rattle.certificate.specs.Rows.{point_passes, points_fault, numbers_fault}
use Rattle.certificate.specs.Laws.RowLaws.{points_fault-take, numbers_fault-take}
use Rattle.certificate.specs.Writer.{write_fault, write_reply, write_output, certificate_of, length_needed}
use Rattle.certificate_writer.specs.Contract.{reply_of_written, Wrote}
use Rattle.slot_columns.specs.declared.Slot.{Slot}
use Rattle.slot_columns.specs.Slots.{points_in, falsified_in, depths_in, slots_in}
use Rattle.slot_columns.specs.Laws.Copies.{front}
use Rattle.slot_columns.specs.Laws.SlotLaws.{words-whole, column_long, front-take, min_thrice}
use Rattle.slot_prefixes.specs.Laws.PrefixLaws.{Takes, bytes_in}

-- ---- tests in order

first_same : (t : Fault) (ts us : List Fault) → first ts ≡ first us → first (t ∷ ts) ≡ first (t ∷ us)
unfolding first
first_same no_fault ts us e = e
first_same (fault code place) ts us e = refl

first_fault : (t : Fault) (ts : List Fault) → IsFault (first ts) → IsFault (first (t ∷ ts))
unfolding first
first_fault no_fault ts e = e
first_fault (fault code place) ts e = tt

kept_same : (t : Fault) (new new' old : List ℕ) → IsFault t → unless_kept t new old ≡ unless_kept t new' old
unfolding unless_kept
kept_same no_fault new new' old e = absurd e
kept_same (fault code place) new new' old e = refl

-- ---- row 16 and row 17

no_conjunct : (b : Bool) → (b && false) ≡ false
no_conjunct true = refl
no_conjunct false = refl

too_many : (limit n filled : ℕ) (xs : List ℕ) → leb filled limit ≡ false → points_fault limit n filled xs ≡ fault 16 0
unfolding points_fault
too_many limit n filled xs e = ap (λ b. cond b (fault_at 16 (first_failing (point_passes n xs) (below filled)))
    (fault 16 0)) (ap (λ b. leb 1 filled && b) e ∙ no_conjunct (leb 1 filled))

-- of the limit only counts whether so many are within it
points_limit : (limit limit' n filled : ℕ) (xs : List ℕ) → leb filled limit ≡ leb filled limit'
    → points_fault limit n filled xs ≡ points_fault limit' n filled xs
unfolding points_fault
points_limit limit limit' n filled xs e = ap (λ b. cond (leb 1 filled && b)
    (fault_at 16 (first_failing (point_passes n xs) (below filled))) (fault 16 0)) e

points_same : (limit n filled k : ℕ) (xs : List ℕ) → filled ≤ k
    → points_fault limit n filled (take k xs) ≡ points_fault limit n filled xs
points_same limit n filled k xs h =
    sym (points_fault-take n (take k xs) limit filled)
    ∙ ap (λ l. points_fault limit n filled l) (take-take filled k xs h) ∙ points_fault-take n xs limit filled

numbers_same : (cs : List Numbered) (filled k : ℕ) (xs ns : List ℕ) → filled ≤ k
    → numbers_fault cs filled (take k xs) (take k ns) ≡ numbers_fault cs filled xs ns
numbers_same cs filled k xs ns h =
    sym (numbers_fault-take cs (take k xs) (take k ns) filled)
    ∙ (λ i. numbers_fault cs filled (take-take filled k xs h i) (take-take filled k ns h i))
    ∙ numbers_fault-take cs xs ns filled

-- ---- the writer on the first k places of each part

module _ (f : Formula) (clauses : ClauseSlices) (ys : List Slot) (filled k : ℕ) (takes : Takes filled (length ys) k)
    (out : List ℕ) where
  abbrev P : List ℕ
  P = points_in ys

  abbrev N : List ℕ
  N = falsified_in ys

  abbrev D : List ℕ
  D = depths_in ys

  abbrev fronts : SlotSlices
  fronts = whole_slots (take k P) (take k N) (take k D)

  used : k ≤ length ys
  used = let u : k ≤ min max_slots (length ys) = takes.taken_used in (let z : k ≤ length ys = omega (arith, u) in z)

  long_p : k ≤ length P
  long_p = column_long (λ (s : Slot). s.point) k ys used

  long_n : k ≤ length N
  long_n = column_long (λ (s : Slot). s.falsified) k ys used

  long_d : k ≤ length D
  long_d = column_long (λ (s : Slot). s.depth) k ys used

  -- as many are filled as the limit of row 16 allows, on all places and on the first, or on neither
  limit : leb filled (capacity (slots_in ys)) ≡ leb filled k
  unfolding capacity
  limit = ap (leb filled) ((λ i. min max_slots (min (length-map ys (λ (s : Slot). s.point) i)
      (min (length-map ys (λ (s : Slot). s.falsified) i) (length-map ys (λ (s : Slot). s.depth) i))))
      ∙ ap (min max_slots) (min_thrice (length ys))) ∙ sym takes.taken_enough

  front_limit : leb filled (capacity fronts) ≡ leb filled k
  unfolding capacity
  front_limit =
      let u : k ≤ min max_slots (length ys) = takes.taken_used in
      ap (leb filled) ((λ i. min max_slots (min (length-take-le k P long_p i)
      (min (length-take-le k N long_n i) (length-take-le k D long_d i))))
      ∙ ap (min max_slots) (min_thrice k) ∙ (let z : min max_slots k ≡ k = omega (arith, u) in z))

  abbrev Faults : SlotSlices → Fault
  Faults slots = write_fault f clauses slots filled out

  abbrev Rest : SlotSlices → List Fault
  Rest slots =
      let pb = problem_of f clauses in
      points_fault (capacity slots) pb.variables filled slots.points
      ∷ numbers_fault pb.clauses filled slots.points slots.falsified
      ∷ room_fault (length_needed pb filled) (length out) ∷ []

  -- where no more slots are asked for than there are
  faults_few : filled ≤ k → Faults fronts ≡ Faults (slots_in ys)
  unfolding write_fault
  faults_few h =
      let pb = problem_of f clauses in
      let e₁ : points_fault (capacity fronts) pb.variables filled (take k P)
      ≡ points_fault (capacity (slots_in ys)) pb.variables filled P =
      points_limit (capacity fronts) (capacity (slots_in ys)) pb.variables filled (take k P)
      (front_limit ∙ sym limit)
      ∙ points_same (capacity (slots_in ys)) pb.variables filled k P h in
      let e₂ : numbers_fault pb.clauses filled (take k P) (take k N)
      ≡ numbers_fault pb.clauses filled P N = numbers_same pb.clauses filled k P N h in
      (λ i. first (formula_fault f clauses ∷ permutation_fault pb.variables pb.permutations
      ∷ symmetry_fault pb.clauses pb.permutations ∷ e₁ i ∷ e₂ i ∷ room_fault (length_needed pb filled) (length out)
      ∷ []))

  -- where more are: row 16, if nothing before it
  over_limit : (slots : SlotSlices) → leb filled (capacity slots) ≡ leb filled k → leb filled k ≡ false
      → first (Rest slots) ≡ fault 16 0
  over_limit slots c e = first_stops _ _ 16 0 (too_many (capacity slots) (problem_of f clauses).variables filled
      slots.points (c ∙ e))

  faults_many : leb filled k ≡ false → Faults fronts ≡ Faults (slots_in ys)
  unfolding write_fault
  faults_many e =
      let pb = problem_of f clauses in
      let row11 = permutation_fault pb.variables pb.permutations in
      let row12 = symmetry_fault pb.clauses pb.permutations in
      let those = Rest fronts in
      let these = Rest (slots_in ys) in
      first_same (formula_fault f clauses) (row11 ∷ row12 ∷ those) (row11 ∷ row12 ∷ these)
      (first_same row11 (row12 ∷ those) (row12 ∷ these) (first_same row12 those these
      (over_limit fronts front_limit e ∙ sym (over_limit (slots_in ys) limit e))))

  fault_many : leb filled k ≡ false → IsFault (Faults (slots_in ys))
  unfolding write_fault
  fault_many e =
      let pb = problem_of f clauses in
      let row11 = permutation_fault pb.variables pb.permutations in
      let row12 = symmetry_fault pb.clauses pb.permutations in
      let these = Rest (slots_in ys) in
      first_fault (formula_fault f clauses) (row11 ∷ row12 ∷ these)
      (first_fault row11 (row12 ∷ these) (first_fault row12 these
      (subst IsFault (sym (over_limit (slots_in ys) limit e)) tt)))

  certificate_few : filled ≤ k → certificate_of (problem_of f clauses) fronts filled
      ≡ certificate_of (problem_of f clauses) (slots_in ys) filled
  unfolding certificate_of
  certificate_few h =
      let pb = problem_of f clauses in
      (λ i. encode pb.variables pb.total pb.permutations (take-take filled k P h i)
      (take-take filled k N h i))

  -- both at once
  abbrev Same : Type 0
  Same = (Faults fronts ≡ Faults (slots_in ys))
      × (write_output f clauses fronts filled out ≡ write_output f clauses (slots_in ys) filled out)

  same : Same
  unfolding write_output
  same = by (leb filled k) refl
    where
      contents : SlotSlices → List ℕ
      contents slots = certificate_of (problem_of f clauses) slots filled
          ++ drop (length_needed (problem_of f clauses) filled) out

      by : (b : Bool) → leb filled k ≡ b → Same
      by true e = let h : filled ≤ k = leb→le filled k (subst T (sym e) tt) in (
        faults_few h,
        (λ i. unless_kept (faults_few h i)
            (certificate_few h i ++ drop (length_needed (problem_of f clauses) filled) out) out),
      )
      by false e = (
        faults_many e,
        ap (λ t. unless_kept t (contents fronts) out) (faults_many e)
            ∙ kept_same (Faults (slots_in ys)) (contents fronts) (contents (slots_in ys)) out (fault_many e),
      )

  -- copied out and written from the copies
  pub wrote_whole : (ps₀ ns₀ ds₀ : List ℕ) (r : Result ℕ Refusal) (out₁ : List ℕ)
      → Wrote f clauses (slot_slices (take k (front k P ps₀)) (take k (front k N ns₀)) (take k (front k D ds₀))) filled
      out r out₁
      → Wrote f clauses (slots_in ys) filled out r out₁
  unfolding write_reply
  wrote_whole ps₀ ns₀ ds₀ r out₁ w =
      let copies : slot_slices (take k (front k P ps₀)) (take k (front k N ns₀)) (take k (front k D ds₀)) ≡ fronts =
      words-whole (take k (front k P ps₀)) (take k (front k N ns₀)) (take k (front k D ds₀))
      ∙ (λ i. whole_slots (front-take k P ps₀ long_p i) (front-take k N ns₀ long_n i) (front-take k D ds₀ long_d i)) in
      record {
        reply = w.reply ∙ ap (λ (s : SlotSlices). write_reply f clauses s filled out) copies
            ∙ ap (λ t. unless t (written (length_needed (problem_of f clauses) filled))) same.0;
        output = w.output ∙ ap (λ (s : SlotSlices). write_output f clauses s filled out) copies ∙ same.1;
      }

-- ---- no certificate is longer than the output

room_passed : (f : Formula) (clauses : ClauseSlices) (slots : SlotSlices) (filled : ℕ) (out : List ℕ)
    → write_fault f clauses slots filled out ≡ no_fault → length_needed (problem_of f clauses) filled ≤ length out
unfolding write_fault room_fault
room_passed f clauses slots filled out e =
    let pb = problem_of f clauses in
    let row11 = permutation_fault pb.variables pb.permutations in
    let row12 = symmetry_fault pb.clauses pb.permutations in
    let row16 = points_fault (capacity slots) pb.variables filled slots.points in
    let row17 = numbers_fault pb.clauses filled slots.points slots.falsified in
    let row19 = room_fault (length_needed pb filled) (length out) in
    let passed = (first_split row17 (row19 ∷ []) (first_split row16 (row17 ∷ row19 ∷ [])
    (first_split row12 (row16 ∷ row17 ∷ row19 ∷ []) (first_split row11 (row12 ∷ row16 ∷ row17 ∷ row19 ∷ [])
    (first_split (formula_fault f clauses) (row11 ∷ row12 ∷ row16 ∷ row17 ∷ row19 ∷ []) e).1).1).1).1).1 in
    leb-true (length_needed pb filled) (length out)
    (tested (leb (length_needed pb filled) (length out)) no_fault 19 (length_needed pb filled)
    (sym (first_last row19) ∙ passed)).0

bytes_told : (size needed lent : ℕ) (t : Fault) → written size ≡ unless t (written needed)
    → (t ≡ no_fault → needed ≤ lent) → size ≤ lent
unfolding unless
bytes_told size needed lent no_fault e h =
    let s : size ≡ needed = cc in
    let l : needed ≤ lent = h refl in
    (let z : size ≤ lent = omega (arith, s, l) in z)
bytes_told size needed lent (fault code place) e h = absurd (written_not_refused size code place e)

module _ (f : Formula) (clauses : ClauseSlices) (slots : SlotSlices) (filled : ℕ) (out : List ℕ) where
  pub wrote_fits : (r : Result ℕ Refusal) (out₁ : List ℕ) → Wrote f clauses slots filled out r out₁ → bytes_in r ≤ length out
  unfolding write_reply reply_of_written
  wrote_fits (Ok size) out₁ w =
      bytes_told size (length_needed (problem_of f clauses) filled) (length out) (write_fault f clauses slots filled out)
      w.reply (room_passed f clauses slots filled out)
  wrote_fits (Err r) out₁ w = zero-le
