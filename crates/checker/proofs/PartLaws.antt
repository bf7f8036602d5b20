-- Laws of the checker's parts: one for each way out of each of its functions. Assumes nothing.
use Rattle.std.specs.Prelude.{Result, Ok, Err, Bool, true, false, ◌&&◌, List, [], ◌∷◌, ◌≡◌, refl, ℕ, ◌+◌, ◌-◌, ◌*◌, ◌≤◌, ◌<◌, length, take, drop}
use Rattle.std.proofs.Math.Bool.{cond}
use Rattle.std.proofs.Math.Option.{some, none, some-ne-none}
use Rattle.std.proofs.Common.{sym, ◌∙◌, subst, le_refl, le_of_eq, lt_of_lt_of_le, arith, length-take, length-drop, eq-eqb, ne_eqb}
use Rattle.std.proofs.Math.Path.{ap, ap₂}
use Rattle.std.proofs.Math.Dec.{eqb}
use Rattle.points.specs.Points.{Clause, Numbered, numbered}
use Rattle.point_slices.specs.Slices.{clauses_of, ClauseSlices}
use Rattle.point_theory.specs.Laws.Notions.{ClausesBelow}
use Rattle.permutation_images.specs.Laws.Contracts.{Listed}
use Rattle.permutation_theory.specs.Permutations.{Permutation, permutations_in}
use Rattle.formula.specs.declared.Formula.{Formula}
use Rattle.formula.specs.Limits.{max_variables, max_slots}
use Rattle.formula.specs.Problem.{problem_of}
use Rattle.formula.specs.Laws.RefusalLaws.{passes_few, passes_listed, permutation_passes, fits_sound, fits_below}
use Rattle.formula.specs.Refusals.{fits, clauses_fault, permutation_fault, symmetry_fault, fault_of}
use Rattle.formula.specs.declared.reasons.Refusal.{Refusal}
use Rattle.formula.specs.Reply.{Fault, no_fault, fault, first, refused, opened, accepted, unless}
use Rattle.formula.specs.Laws.ReplyLaws.{IsFault, answers-first, answers-rest, tested, opened_not_refused}
use Rattle.formula.specs.Laws.ReplyLaws.{refused_fault}
use Rattle.certificate.specs.declared.Contents.{Contents}
use Rattle.certificate.specs.Bytes.{number_from, numbers_in, point_width, number_width}
use Rattle.math.specs.Laws.NumeralLaws.{length-entries}
use Rattle.certificate.specs.Certificate.{FileContents, contents_of, well_formed, file_permutations, file_points}
use Rattle.certificate.specs.Certificate.{file_numbers}
use Rattle.certificate.specs.Laws.CertificateLaws.{well_formed_sound}
use Rattle.certificate.specs.Reader.{opened_reply, opened_contents}
use Rattle.certificate.specs.Contract.{contents_in}
use Rattle.certificate.specs.Laws.ReaderLaws.{permutations_part_lem, points_part_lem, numbers_part_lem}
use Rattle.certificate.specs.Laws.RowLaws.{over_limit}
use Rattle.certificate.specs.Rows.{file_fault, points_fault, numbers_fault}
use Rattle.check_flips.specs.Flips.{flips_fault}
use Rattle.check_flips.specs.Laws.Loops.{Proper}
use Rattle.check_entries.specs.Laws.Entries.{lists_fault}
use Rattle.checker.specs.Contract.{reply_of_verdict, CheckedAs}
use Rattle.checker.specs.Checker.{same_sizes, sizes_fault, check_fault, check_reply}
use Rattle.checker.proofs.CheckerLaws.{check_rows}
use Rattle.checker.specs.Laws.Parts.{bodies_fault, file_rows, Readable}

-- a part of a list between two places is as long as they lie apart
part_long : (i j k : ℕ) (l : List ℕ) → i + k ≤ j → j ≤ length l → k ≤ length (take (j - i) (drop i l))
part_long i j k l apart end = omega (arith, length-take (j - i) (drop i l), length-drop i l)

-- ---- the bodies of a file

module _ (c : Contents) (clauses : List Clause) (file : List ℕ) (ok : Readable c clauses file) where
  abbrev cs : List Numbered
  cs = numbered clauses

  abbrev es : List Permutation
  es = file_permutations file

  abbrev images : List ℕ
  images = take (c.points_at - c.permutations_at) (drop c.permutations_at file)

  -- C8: the three parts that are handed on
  pub listed_part : permutations_in c.variables c.permutations images ≡ es
  unfolding contents_in file_permutations
  listed_part =
      ap (λ (k : FileContents). permutations_in k.variables k.permutations
      (take (k.points_at - k.permutations_at) (drop k.permutations_at file))) ok.same
      ∙ ap (permutations_in (contents_of file).variables (contents_of file).permutations)
      (permutations_part_lem file ok.formed)

  pub point_part : numbers_in point_width c.points (take (c.numbers_at - c.points_at)
      (drop c.points_at file)) ≡ file_points file
  unfolding contents_in file_points
  point_part =
      ap (λ (k : FileContents). numbers_in point_width k.points
      (take (k.numbers_at - k.points_at) (drop k.points_at file))) ok.same
      ∙ ap (numbers_in point_width (contents_of file).points) (points_part_lem file ok.formed)

  pub number_part : numbers_in number_width c.points (take (length file - c.numbers_at)
      (drop c.numbers_at file)) ≡ file_numbers file
  unfolding contents_in file_numbers
  number_part =
      ap (λ (k : FileContents). numbers_in number_width k.points
      (take (length file - k.numbers_at) (drop k.numbers_at file))) ok.same
      ∙ ap₂ (numbers_in number_width) ok.formed.counts_agree (numbers_part_lem file ok.formed)

  -- where the parts begin and end, and how long they are
  pub record Laid : Type 0 where
    pub first_second : c.permutations_at ≤ c.points_at
    pub second_third : c.points_at ≤ c.numbers_at
    pub third_end : c.numbers_at ≤ length file
    pub images_long : c.permutations * c.variables ≤ length images
    pub points_long : c.points * point_width ≤ length (take (c.numbers_at - c.points_at)
        (drop c.points_at file))
    pub numbers_long : c.points * number_width
        ≤ length (take (length file - c.numbers_at) (drop c.numbers_at file))

  pub laid : Laid
  unfolding contents_in
  laid =
      let a : c.permutations_at ≡ (contents_of file).permutations_at = ap (λ (k : FileContents). k.permutations_at)
      ok.same in
      let b : c.points_at ≡ (contents_of file).points_at = ap (λ (k : FileContents). k.points_at) ok.same in
      let d : c.numbers_at ≡ (contents_of file).numbers_at = ap (λ (k : FileContents). k.numbers_at) ok.same in
      let e : c.points ≡ (contents_of file).points = ap (λ (k : FileContents). k.points) ok.same in
      let g : c.permutations * c.variables
      ≡ (contents_of file).permutations * (contents_of file).variables = ap
      (λ (k : FileContents). k.permutations * k.variables) ok.same in
      let w = ok.formed in
      record {
        first_second = omega (arith, a, b, w.permutations_first, w.points_next);
        second_third = omega (arith, b, d, w.numbers_last);
        third_end = omega (arith, d, w.length_exact);
        images_long = part_long c.permutations_at c.points_at (c.permutations * c.variables) file
            (omega (arith, a, b, g, w.permutations_first, w.points_next))
            (omega (arith, b, w.numbers_last, w.length_exact));
        points_long = part_long c.points_at c.numbers_at (c.points * point_width) file
            (omega (arith, b, d, e, w.numbers_last)) (omega (arith, d, w.length_exact));
        numbers_long = part_long c.numbers_at (length file) (c.points * number_width) file
            (omega (arith, d, e, w.counts_agree, w.length_exact)) (le_refl (length file));
      }

  -- the rows in order
  pub stops_11 : (r : Fault) → r ≡ permutation_fault c.variables
      (permutations_in c.variables c.permutations images) → IsFault r
      → r ≡ bodies_fault c.variables cs es (file_points file) (file_numbers file)
  stops_11 r e h = answers-first r _ _ (e ∙ ap (permutation_fault c.variables) listed_part) h

  module _ (eleven : permutation_fault c.variables (permutations_in c.variables c.permutations images)
      ≡ no_fault) where
    row11 : permutation_fault c.variables es ≡ no_fault
    row11 = ap (permutation_fault c.variables) (sym listed_part) ∙ eleven

    pub images-listed : Listed c.variables c.permutations images
    images-listed = passes_listed c.variables c.permutations images ok.few
        laid.images_long eleven

    -- what the tests of the entries take for granted
    pub images_proper : Proper c.variables c.permutations images clauses
    images_proper =
        record {
          few = ok.few;
          few_permutations_lem = passes_few c.variables c.permutations images eleven;
          listed = images-listed;
          proper = (permutation_passes c.variables (permutations_in c.variables c.permutations images) eleven).1;
          below = ok.below;
        }

    pub stops_12 : (r : Fault) → r ≡ symmetry_fault cs (permutations_in c.variables c.permutations images)
        → IsFault r
        → r ≡ bodies_fault c.variables cs es (file_points file) (file_numbers file)
    stops_12 r e h = answers-rest r _ _ row11 (answers-first r _ _ (e ∙ ap (symmetry_fault cs) listed_part) h)

    module _ (twelve : symmetry_fault cs (permutations_in c.variables c.permutations images) ≡ no_fault) where
      -- the rows 16 to 18 of the lists are the rest
      pub ends_lists : (r : Fault) → r ≡ lists_fault c.variables cs es (file_points file) (file_numbers file)
          → r ≡ bodies_fault c.variables cs es (file_points file) (file_numbers file)
      ends_lists r e = answers-rest r _ _ row11 (answers-rest r _ _ (ap (symmetry_fault cs) (sym listed_part) ∙ twelve)
          e)

      pub too_many_points : max_slots < c.points
          → fault 16 0 ≡ bodies_fault c.variables cs es (file_points file) (file_numbers file)
      too_many_points h =
          ends_lists (fault 16 0) (answers-first (fault 16 0) _ _
          (over_limit max_slots c.variables (length (file_points file)) (file_points file)
          (lt_of_lt_of_le h (le_of_eq (sym (ap length (sym point_part)
          ∙ length-entries number_from point_width c.points _))))) tt)

      pub ends_decoded : (r : Fault)
          → r ≡ lists_fault c.variables cs (permutations_in c.variables c.permutations images)
          (numbers_in point_width c.points (take (c.numbers_at - c.points_at) (drop c.points_at file)))
          (numbers_in number_width c.points (take (length file - c.numbers_at) (drop c.numbers_at file)))
          → r ≡ bodies_fault c.variables cs es (file_points file) (file_numbers file)
      ends_decoded r e = ends_lists r (e ∙ rw (listed_part, point_part, number_part))

-- ---- a file

module _ (n m : ℕ) (clauses : List Clause) (file : List ℕ) where
  abbrev rows : List Fault
  rows =
      let cs = numbered clauses in
      let es = file_permutations file in
      let ps = file_points file in
      let ns = file_numbers file in
      permutation_fault n es ∷ symmetry_fault cs es ∷ points_fault max_slots n (length ps) ps
      ∷ numbers_fault cs (length ps) ps ns ∷ flips_fault n cs es ps ns ∷ []

  -- a file that the plain reader refuses
  pub stops_14 : (code place : ℕ) → refused code place ≡ opened_reply file
      → fault code place ≡ file_rows n m clauses file
  unfolding opened_reply
  stops_14 code place e =
      answers-first (fault code place) (file_fault file) (sizes_fault n m file ∷ rows)
      (refused_fault (file_fault file) opened opened_not_refused code place e) tt

  module _ (c : Contents) (formed : well_formed file ≡ true) (same : contents_in c ≡ contents_of file) where
    row14 : file_fault file ≡ no_fault
    unfolding file_fault
    row14 = ap (λ (b : Bool). cond b no_fault (fault 14 (length file))) formed

    sizes : (a b : Bool) → eqb c.variables n ≡ a → eqb c.clauses m ≡ b
        → sizes_fault n m file ≡ cond (a && b) no_fault (fault 15 0)
    unfolding sizes_fault same_sizes contents_in
    sizes a b p q =
        ap (λ (k : FileContents). cond (eqb k.variables n && eqb k.clauses m) no_fault (fault 15 0)) (sym same)
        ∙ ap₂ (λ (x y : Bool). cond (x && y) no_fault (fault 15 0)) p q

    pub stops_15 : sizes_fault n m file ≡ fault 15 0 → fault 15 0 ≡ file_rows n m clauses file
    stops_15 e = answers-rest (fault 15 0) (file_fault file) (sizes_fault n m file ∷ rows) row14
        (answers-first (fault 15 0) (sizes_fault n m file) rows (sym e) tt)

    pub other_variables : (c.variables ≡ n → ⊥) → fault 15 0 ≡ file_rows n m clauses file
    other_variables ne = stops_15 (sizes false (eqb c.clauses m) (ne_eqb c.variables n ne) refl)

    pub other_clauses : c.variables ≡ n → (c.clauses ≡ m → ⊥) → fault 15 0 ≡ file_rows n m clauses file
    other_clauses e ne = stops_15 (sizes true false (eq-eqb c.variables n e) (ne_eqb c.clauses m ne))

    pub ends_bodies : c.variables ≡ n → c.clauses ≡ m → (r : Fault)
        → r ≡ bodies_fault c.variables (numbered clauses) (file_permutations file)
        (file_points file) (file_numbers file) → r ≡ file_rows n m clauses file
    ends_bodies e g r h =
        answers-rest r (file_fault file) (sizes_fault n m file ∷ rows) row14
        (answers-rest r (sizes_fault n m file) rows (sizes true true (eq-eqb c.variables n e)
        (eq-eqb c.clauses m g))
        (h ∙ ap (λ (k : ℕ). bodies_fault k (numbered clauses) (file_permutations file)
        (file_points file) (file_numbers file)) e))

    pub readable : c.variables ≡ n → n ≤ max_variables → ClausesBelow n (numbered clauses) → Readable c clauses file
    readable e few below =
        record {
          formed = well_formed_sound file formed;
          same = same;
          few = subst (λ (k : ℕ). k ≤ max_variables) (sym e) few;
          below = subst (λ (k : ℕ). ClausesBelow k (numbered clauses)) (sym e) below;
        }

-- what the plain reader's contents tell
pub opened_file : (file : List ℕ) (c : Contents) → some (contents_in c) ≡ opened_contents file
    → (well_formed file ≡ true) × (contents_in c ≡ contents_of file)
unfolding opened_contents
opened_file file c h = by (well_formed file) refl h
  where
    by : (b : Bool) → well_formed file ≡ b → some (contents_in c) ≡ cond b (some (contents_of file)) none
        → (well_formed file ≡ true) × (contents_in c ≡ contents_of file)
    by true e h = let same : contents_in c ≡ contents_of file = cc in (e, same)
    by false e h = absurd (some-ne-none (contents_in c) h)

-- ---- the checker

-- it accepts where its tests found nothing
verdict : (r : Result Unit Refusal) → reply_of_verdict r ≡ unless (fault_of r) accepted
unfolding reply_of_verdict unless
verdict (Ok passed) = refl
verdict (Err r) = refl

module _ (f : Formula) (clauses : ClauseSlices) (file : List ℕ) where
  -- its rows are refusal 10 and the file's
  all-rows : check_fault f clauses file
      ≡ first (clauses_fault f clauses ∷ file_fault file ∷ sizes_fault f.variables f.clauses file
      ∷ rows f.variables f.clauses (clauses_of clauses) file)
  unfolding problem_of
  all-rows = check_rows f clauses file

  answered : (r : Result Unit Refusal) → fault_of r ≡ check_fault f clauses file → CheckedAs f clauses file r
  unfolding check_reply
  answered r e = record { reply = verdict r ∙ ap (λ (t : Fault). unless t accepted) e }

  pub stops_10 : (r : Refusal) → fault_of (Err r) ≡ clauses_fault f clauses → CheckedAs f clauses file (Err r)
  stops_10 r e = answered (Err r) (answers-first (fault_of (Err r)) _ _ e tt ∙ sym all-rows)

  pub ends_file : (r : Result Unit Refusal) → no_fault ≡ clauses_fault f clauses
      → fault_of r ≡ file_rows f.variables f.clauses (clauses_of clauses) file → CheckedAs f clauses file r
  ends_file r ten e = answered r (answers-rest (fault_of r) _ _ (sym ten) e ∙ sym all-rows)

  -- what refusal 10 leaves certain
  pub clauses_fit_lem : no_fault ≡ clauses_fault f clauses
      → (f.variables ≤ max_variables) × ClausesBelow f.variables (numbered (clauses_of clauses))
  unfolding clauses_fault
  clauses_fit_lem h =
      let g = fits_sound f.variables f.clauses clauses
      (tested (fits f.variables f.clauses clauses) no_fault 10 0 (sym h)).0 in
      (g.few_variables, fits_below f.variables f.clauses clauses g)
