-- Laws of the writer: what its tests leave certain, and that what it puts out is well formed and reads back. Assumes
-- nothing.
use Rattle.std.specs.Prelude.{◌&&◌, List, [], ◌∷◌, ◌++◌, ◌≡◌, ℕ, ◌*◌, ◌^◌, ◌≤◌, ◌<◌, take}
use Rattle.std.proofs.Math.Path.{refl, sym, ap, subst}
use Rattle.std.proofs.Common.{◌∙◌, pow_mono, length-take-le, take_at, drop_at}
use Rattle.std.proofs.Math.Nat.{lt_of_lt_of_le, mul-le-mul}
use native.Mathlib.Omega.{arith}
use Rattle.std.proofs.Math.Dec.{leb}
use Rattle.std.proofs.Math.ListN.{length, get_or, drop}
use Rattle.std.proofs.Math.Seq.{get_or-take}
use borrow.Author.Tests.{leb-true, eqb-true}
use Rattle.math.specs.Laws.ListLaws.{and_split, in_get_d}
use Rattle.math.specs.Lists.{◌∈◌, Distinct}
use Rattle.point_slices.specs.Slices.{ClauseSlices, SlotSlices, clauses_of}
use Rattle.permutation_theory.specs.Permutations.{Permutation, is_permutation}
use Rattle.formula.specs.declared.Formula.{Formula}
use Rattle.formula.specs.Limits.{max_variables, max_clauses, max_permutations, max_slots, capacity}
use Rattle.formula.specs.Problem.{Problem, problem_of}
use Rattle.formula.specs.Refusals.{Fits, formula_fault, permutation_fault, symmetry_fault, room_fault}
use Rattle.formula.specs.Laws.RefusalLaws.{fits_count, formula_passes, room_passes}
use Rattle.formula.specs.Reply.{unless_kept, no_fault, first, written}
use Rattle.certificate.specs.Certificate.{FileContents, layout, certificate_length, Encodable}
use Rattle.certificate.specs.Laws.CertificateLaws.{length-encode, contents_encode, encode-well_formed}
use Rattle.certificate.specs.Laws.CertificateLaws.{encode-permutations, encode_points, encode_numbers}
use Rattle.formula.specs.Laws.ReplyLaws.{first-none, first_join, first_split, tested, each_passed, below_passed}
use Rattle.formula.specs.Laws.ReplyLaws.{not_refused, written_not_refused, unless-none}
use Rattle.certificate.specs.Laws.RowLaws.{points_counted, points_passed, point_passes-take, clause_found}
use Rattle.certificate.specs.Laws.RowLaws.{numbered-range, number_passed}
use Rattle.certificate.specs.Rows.{point_passes, points_fault, number_passes, numbers_fault}
use Rattle.certificate.specs.Writer.{length_needed, write_fault, write_reply, certificate_of, write_output, ReadsAs}

-- ---- the writer's rows

module _ (f : Formula) (clauses : ClauseSlices) (slots : SlotSlices) (filled : ℕ) (out : List ℕ) where
  abbrev pb : Problem
  pb = problem_of f clauses

  abbrev lent : ℕ
  lent = capacity slots

  pub record WriterPassed : Type 0 where
    pub row10 : formula_fault f clauses ≡ no_fault
    pub row11 : permutation_fault pb.variables pb.permutations ≡ no_fault
    pub row12 : symmetry_fault pb.clauses pb.permutations ≡ no_fault
    pub row16 : points_fault lent pb.variables filled slots.points ≡ no_fault
    pub row17 : numbers_fault pb.clauses filled slots.points slots.falsified ≡ no_fault
    pub row19 : room_fault (length_needed pb filled) (length out) ≡ no_fault

  -- the writer's rows, in their order
  pub write_rows : write_fault f clauses slots filled out
      ≡ first (formula_fault f clauses ∷ permutation_fault pb.variables pb.permutations
      ∷ symmetry_fault pb.clauses pb.permutations
      ∷ points_fault lent pb.variables filled slots.points
      ∷ numbers_fault pb.clauses filled slots.points slots.falsified ∷ room_fault (length_needed pb filled)
      (length out)
      ∷ [])
  unfolding write_fault
  write_rows = refl

  pub writer_passed : write_fault f clauses slots filled out ≡ no_fault → WriterPassed
  writer_passed h =
      let a = first_split _ _ (sym write_rows ∙ h) in
      let b = first_split _ _ a.1 in
      let c = first_split _ _ b.1 in
      let d = first_split _ _ c.1 in
      let e = first_split _ _ d.1 in
      let g = first_split _ _ e.1 in
      record { row10 = a.0; row11 = b.0; row12 = c.0; row16 = d.0; row17 = e.0; row19 = g.0 }

  pub passed_writer : WriterPassed → write_fault f clauses slots filled out ≡ no_fault
  passed_writer w =
      write_rows
      ∙ first_join _ _ w.row10 (first_join _ _ w.row11
      (first_join _ _ w.row12 (first_join _ _ w.row16
      (first_join _ _ w.row17 (first_join _ _ w.row19 first-none)))))

  -- the points and the clause numbers of the slots given
  abbrev xs : List ℕ
  xs = take filled slots.points

  abbrev ks : List ℕ
  ks = take filled slots.falsified

  -- row 16: the slots given are among those lent
  pub few_slots : points_fault lent pb.variables filled slots.points ≡ no_fault
      → (filled ≤ max_slots) × (filled ≤ length slots.points) × (filled ≤ length slots.falsified)
  unfolding capacity
  few_slots h =
      let w = (points_counted lent pb.variables filled slots.points h).1 in
      (omega arith, omega arith, omega arith)

  module _ (passed : WriterPassed) where
    limited : Fits f.variables f.clauses clauses
    limited = (formula_passes f clauses passed.row10).0

    few : (filled ≤ max_slots) × (filled ≤ length slots.points) × (filled ≤ length slots.falsified)
    few = few_slots passed.row16

    length-xs : length xs ≡ filled
    length-xs = length-take-le filled slots.points few.1

    length-ks : length ks ≡ filled
    length-ks = length-take-le filled slots.falsified few.2

    -- row 11
    permutations_fit : (length pb.permutations ≤ max_permutations)
        × ((e : Permutation) → e ∈ pb.permutations → length e.images ≡ f.variables)
    unfolding permutation_fault is_permutation problem_of
    permutations_fit =
        let t = tested (leb (length pb.permutations) max_permutations) _ 11 17 passed.row11 in (
          leb-true (length pb.permutations) max_permutations t.0,
          λ e m. eqb-true (length e.images) f.variables
              (and_split _ _ (each_passed 11 (is_permutation f.variables) pb.permutations t.1 e m)).0,
        )

    -- row 16
    pub slots_passed : ((x : ℕ) → x ∈ xs → x < 2 ^ f.variables) × Distinct xs
    unfolding points_fault problem_of
    slots_passed =
        let t = tested (leb 1 filled && leb filled lent) _ 16 0 passed.row16 in
        points_passed f.variables xs (λ i lt. let h : i < filled = subst (λ (k : ℕ). i < k) length-xs lt in
        point_passes-take f.variables slots.points filled i h
        ∙ below_passed 16 (point_passes f.variables slots.points) filled t.1 i h)

    -- row 17
    numbers_fit : (k : ℕ) → k ∈ ks → k ≤ max_clauses
    unfolding numbers_fault problem_of
    numbers_fit k m =
        let w = in_get_d 0 m in
        let lt : w.0 < filled = subst (λ (j : ℕ). w.0 < j) length-ks w.1 in
        let found = number_passed pb.clauses slots.points slots.falsified w.0
        (below_passed 17 (number_passes pb.clauses slots.points slots.falsified) filled passed.row17 w.0
        lt) in
        let r = clause_found pb.clauses (get_or slots.falsified w.0 0) found.0 found.1 in
        let named : r.0.number ≡ get_or slots.falsified w.0 0 = r.2 in
        let here : get_or ks w.0 0 ≡ get_or slots.falsified w.0 0 = get_or-take filled slots.falsified w.0
        0 lt in
        let same : get_or ks w.0 0 ≡ k = w.2 in
        let within = numbered-range 1 (clauses_of clauses) r.0 r.1 in
        let l = limited in
        let size : length (clauses_of clauses) ≡ f.clauses = fits_count f.variables f.clauses clauses l in
        omega arith

    -- what passes the writer's tests fits into a certificate
    pub writer_encodable : Encodable pb.variables pb.total pb.permutations xs ks
    unfolding problem_of
    writer_encodable =
        let l = limited in
        let few_variables : f.variables ≤ max_variables = l.few_variables in
        let few_clauses_lem : f.clauses ≤ max_clauses = l.few_clauses_lem in
        let e = permutations_fit in
        let few_permutations_lem : length pb.permutations ≤ max_permutations = e.0 in
        let area : length pb.permutations * f.variables
        ≤ max_permutations * max_variables = mul-le-mul few_permutations_lem few_variables in
        let many : length xs ≡ filled = length-xs in
        let limit : filled ≤ max_slots = few.0 in
        record {
          variables_fit = omega arith;
          clauses_fit = omega arith;
          count_fits = omega arith;
          images_fit = e.1;
          points_fit = λ x m. lt_of_lt_of_le (slots_passed.0 x m) (pow_mono few_variables);
          numbers_fit = λ k m. let small : k ≤ max_clauses = numbers_fit k m in omega arith;
          paired = length-xs ∙ sym length-ks;
          offsets_fit = omega arith;
        }

    room : length_needed pb filled ≤ length out
    room = room_passes (length_needed pb filled) (length out) passed.row19

    pub certificate_length_lem : length (certificate_of pb slots filled) ≡ length_needed pb filled
    unfolding certificate_of length_needed
    certificate_length_lem =
        length-encode pb.variables pb.total pb.permutations xs ks writer_encodable
        ∙ ap (certificate_length pb.variables (length pb.permutations)) length-xs

    certificate_reads : ReadsAs pb xs ks (certificate_of pb slots filled)
    unfolding certificate_of layout
    certificate_reads =
        let n = pb.variables in
        let m = pb.total in
        let es = pb.permutations in
        let fit = writer_encodable in
        let same = contents_encode n m es xs ks fit in
        record {
          in_order = encode-well_formed n m es xs ks fit;
          reads_variables = ap (λ (c : FileContents). c.variables) same;
          reads_total = ap (λ (c : FileContents). c.clauses) same;
          reads_permutations = encode-permutations n m es xs ks fit;
          reads_points = encode_points n m es xs ks fit;
          reads_numbers = encode_numbers n m es xs ks fit;
        }

  -- the writer puts out exactly where its tests find nothing
  pub output_written : write_fault f clauses slots filled out ≡ no_fault
      → write_output f clauses slots filled out
      ≡ certificate_of pb slots filled ++ drop (length_needed pb filled) out
  unfolding write_output
  output_written h = ap (λ t. unless_kept t (certificate_of pb slots filled
      ++ drop (length_needed pb filled) out) out) h

  pub reply_written : write_fault f clauses slots filled out ≡ no_fault
      → write_reply f clauses slots filled out ≡ written (length_needed pb filled)
  unfolding write_reply
  reply_written h = unless-none (write_fault f clauses slots filled out) h
      (written (length_needed pb filled))

  pub written_sound : (size : ℕ) → write_reply f clauses slots filled out ≡ written size
      → (write_fault f clauses slots filled out ≡ no_fault) × (size ≡ length_needed pb filled)
  unfolding write_reply
  written_sound size h =
      let s = not_refused (write_fault f clauses slots filled out)
      (written (length_needed pb filled)) (written size) h (written_not_refused size) in
      let r = reply_written s in
      (s, cc)

  -- D2.4: "a written certificate reads back to the same points and rules"
  pub reads_back : (size : ℕ) → write_reply f clauses slots filled out ≡ written size
      → ReadsAs pb xs ks (take size (write_output f clauses slots filled out))
  reads_back size h =
      let w = written_sound size h in
      let passed = writer_passed w.0 in
      let front : take size (write_output f clauses slots filled out)
      ≡ certificate_of pb slots filled =
      ap (take size) (output_written w.0)
      ∙ take_at (certificate_of pb slots filled) (drop (length_needed pb filled) out) size
      (certificate_length_lem passed ∙ sym w.1) in
      rw front (certificate_reads passed)

  -- C6: "Output past the certificate is unchanged."
  pub past_unchanged : (size : ℕ) → write_reply f clauses slots filled out ≡ written size
      → drop size (write_output f clauses slots filled out) ≡ drop size out
  past_unchanged size h =
      let w = written_sound size h in
      let passed = writer_passed w.0 in
      ap (drop size) (output_written w.0)
      ∙ drop_at (certificate_of pb slots filled) (drop (length_needed pb filled) out) size
      (certificate_length_lem passed ∙ sym w.1)
      ∙ ap (λ (k : ℕ). drop k out) (sym w.1)
