-- Laws of the checker: it accepts exactly the stable sets. Assumes nothing.
use Rattle.std.proofs.Math.Bool.{true, false, true≢false}
use Rattle.std.specs.Prelude.{◌&&◌, List, [], ◌∷◌, map, ◌≡◌, ℕ, ◌<◌, length}
use Rattle.std.proofs.Math.Option.{some}
use Rattle.std.proofs.Math.Path.{refl, sym, ap}
use Rattle.std.proofs.Common.{◌∙◌, subst}
use Rattle.std.proofs.Math.Dec.{leb}
use Rattle.std.proofs.Math.ListN.{get_or}
use borrow.Author.Tests.{leb-true, le-leb, eqb-true, eq-eqb}
use Rattle.math.specs.Bits.{flip}
use Rattle.math.specs.Laws.ListLaws.{and_split, and_join, all-at, all_of, map_in, map_out, not-true-false}
use Rattle.math.specs.Lists.{all, first_failing, below}
use Rattle.points.specs.Laws.PointLaws.{satisfies_sound, satisfies_complete}
use Rattle.points.specs.Points.{satisfies, Numbered, variables}
use Rattle.point_slices.specs.Slices.{clauses_of, ClauseSlices}
use Rattle.permutation_theory.specs.Laws.PermutationLaws.{is_permutation_sound, is_permutation_complete, keeps_sound}
use Rattle.permutation_theory.specs.Laws.PermutationLaws.{keeps_complete, covered_sound, covered_complete}
use Rattle.permutation_theory.specs.Permutations.{Permutation, is_permutation, keeps, Covered, covered}
use Rattle.formula.specs.declared.Formula.{Formula}
use Rattle.formula.specs.Limits.{max_permutations, max_slots}
use Rattle.formula.specs.Problem.{Problem, problem_of}
use Rattle.formula.specs.Refusals.{clauses_fault, permutation_fault, symmetry_fault}
use Rattle.formula.specs.Reply.{accepted, no_fault, first, fault_at}
use Rattle.certificate.specs.Bytes.{number_from, point_width, number_width}
use Rattle.math.specs.Laws.NumeralLaws.{length-entries}
use Rattle.certificate.specs.Certificate.{contents_of, WellFormed, well_formed, points_body, numbers_body, file_permutations}
use Rattle.certificate.specs.Certificate.{file_points, file_numbers}
use Rattle.certificate.specs.Laws.CertificateLaws.{well_formed_sound, well_formed_complete}
use Rattle.formula.specs.Laws.ReplyLaws.{first-none, first_split, first_join, tested, test_passed, each_passed}
use Rattle.formula.specs.Laws.ReplyLaws.{passes_each, below_passed, passes_below, not_refused, accepted_not_refused}
use Rattle.formula.specs.Laws.ReplyLaws.{unless-none}
use Rattle.certificate.specs.Laws.RowLaws.{points_passed, points_pass, clause_found, OwnNumbers, clause_of_lem}
use Rattle.certificate.specs.Laws.RowLaws.{numbered-own, number_passed, number_passes_lem}
use Rattle.certificate.specs.Rows.{file_fault, point_passes, points_fault, clause_numbered, number_passes, numbers_fault}
use Rattle.check_flips.specs.Flips.{flips_of, flips_pass, flips_fault}
use Rattle.checker.specs.Checker.{same_sizes, sizes_fault, check_fault, check_reply, Accepts}
use Rattle.check_theory.specs.Stable.{Transported, Stable}

-- ---- the rows 11, 12, 16, 17 and 18, which look at lists alone

module _ (n : ℕ) (cs : List Numbered) (es : List Permutation) (ps ns : List ℕ) where
  pub record ListsPassed : Type 0 where
    pub row11 : permutation_fault n es ≡ no_fault
    pub row12 : symmetry_fault cs es ≡ no_fault
    pub row16 : points_fault max_slots n (length ps) ps ≡ no_fault
    pub row17 : numbers_fault cs (length ps) ps ns ≡ no_fault
    pub row18 : flips_fault n cs es ps ns ≡ no_fault

-- ---- all rows of the checker

-- as many numbers as points, in a file whose counts agree
pub same_lengths : (file : List ℕ) → WellFormed file → length (file_numbers file) ≡ length (file_points file)
unfolding file_numbers file_points
same_lengths file w =
    length-entries number_from number_width (contents_of file).numbers (numbers_body file) ∙ sym w.counts_agree
    ∙ sym (length-entries number_from point_width (contents_of file).points (points_body file))

-- no two clauses of a formula have the same number
pub own_numbers : (f : Formula) (clauses : ClauseSlices) → OwnNumbers (problem_of f clauses).clauses
unfolding problem_of
own_numbers f clauses = numbered-own 1 (clauses_of clauses)

module _ (f : Formula) (clauses : ClauseSlices) (file : List ℕ) where
  abbrev pb : Problem
  pb = problem_of f clauses

  abbrev Lists : Type 0
  Lists = ListsPassed pb.variables pb.clauses (file_permutations file) (file_points file) (file_numbers file)

  pub record CheckerPassed : Type 0 where
    pub row10 : clauses_fault f clauses ≡ no_fault
    pub row14 : file_fault file ≡ no_fault
    pub row15 : sizes_fault pb.variables pb.total file ≡ no_fault
    pub rows : Lists

  -- the checker's rows, in their order
  pub check_rows : check_fault f clauses file
      ≡ first (clauses_fault f clauses ∷ file_fault file ∷ sizes_fault pb.variables pb.total file
      ∷ permutation_fault pb.variables (file_permutations file)
      ∷ symmetry_fault pb.clauses (file_permutations file)
      ∷ points_fault max_slots pb.variables (length (file_points file)) (file_points file)
      ∷ numbers_fault pb.clauses (length (file_points file)) (file_points file) (file_numbers file)
      ∷ flips_fault pb.variables pb.clauses (file_permutations file) (file_points file) (file_numbers file) ∷ [])
  unfolding check_fault
  check_rows = refl

  pub checker_passed : check_fault f clauses file ≡ no_fault → CheckerPassed
  checker_passed h =
      let a = first_split _ _ (sym check_rows ∙ h) in
      let b = first_split _ _ a.1 in
      let c = first_split _ _ b.1 in
      let d = first_split _ _ c.1 in
      let e = first_split _ _ d.1 in
      let g = first_split _ _ e.1 in
      let k = first_split _ _ g.1 in
      let l = first_split _ _ k.1 in
      record {
        row10 = a.0;
        row14 = b.0;
        row15 = c.0;
        rows =
            record { row11 = d.0; row12 = e.0; row16 = g.0; row17 = k.0; row18 = l.0 };
      }

  pub passed_checker : CheckerPassed → check_fault f clauses file ≡ no_fault
  passed_checker p =
      let r = p.rows in
      check_rows
      ∙ first_join _ _ p.row10 (first_join _ _ p.row14
      (first_join _ _ p.row15 (first_join _ _ r.row11 (first_join _ _ r.row12
      (first_join _ _ r.row16 (first_join _ _ r.row17 (first_join _ _ r.row18 first-none)))))))

-- ---- the rows that look at lists alone say that the set is stable, and back

module _ (n : ℕ) (cs : List Numbered) (es : List Permutation) (ps ns : List ℕ) where
  transported_of : (i : ℕ) → number_passes cs ps ns i ≡ true → flips_pass n cs es ps ns i ≡ true
      → Transported n cs es ps (get_or ps i 0) (get_or ns i 0)
  unfolding flips_pass
  transported_of i p q =
      let found = number_passed cs ps ns i p in
      let w = clause_found cs (get_or ns i 0) found.0 found.1 in
      let at : clause_numbered cs (get_or ns i 0) ≡ some w.0.clause = found.1 ∙ ap some (sym w.3) in
      let fails : satisfies w.0.clause (get_or ps i 0) ≡ false = ap (λ c. satisfies c (get_or ps i 0)) w.3
      ∙ found.2 in
      let each : all (covered es ps) (map (flip (get_or ps i 0)) (variables n w.0.clause)) ≡ true =
      sym (ap (λ o. all (covered es ps) (flips_of n o (get_or ps i 0))) at) ∙ q in
      record {
        own = w.0;
        member = w.1;
        named = w.2;
        falsified = λ s. true≢false (sym (satisfies_complete w.0.clause (get_or ps i 0) s) ∙ fails);
        flips = λ v m. covered_sound es ps (flip (get_or ps i 0) v)
            (all-at (covered es ps) each (map_in (flip (get_or ps i 0)) m));
      }

  pub stable_of_rows : length ns ≡ length ps → ListsPassed n cs es ps ns → Stable n cs es ps ns
  unfolding permutation_fault symmetry_fault points_fault numbers_fault flips_fault
  stable_of_rows pairs r =
      let t11 = tested (leb (length es) max_permutations) _ 11 17 r.row11 in
      let t16 = tested (leb 1 (length ps) && leb (length ps) max_slots) _ 16 0 r.row16 in
      let counts = and_split (leb 1 (length ps)) (leb (length ps) max_slots) t16.0 in
      let points = points_passed n ps (below_passed 16 (point_passes n ps) (length ps) t16.1) in
      record {
        few_permutations = leb-true (length es) max_permutations t11.0;
        are_permutations = λ e m. is_permutation_sound n e (each_passed 11 (is_permutation n) es t11.1 e m);
        keep_clauses = λ e m. keeps_sound cs e (each_passed 12 (keeps cs) es r.row12 e m);
        some_point = leb-true 1 (length ps) counts.0;
        few_points = leb-true (length ps) max_slots counts.1;
        within = points.0;
        distinct = points.1;
        paired = pairs;
        transported = λ i lt. transported_of i (below_passed 17 (number_passes cs ps ns) (length ps) r.row17 i lt)
            (below_passed 18 (flips_pass n cs es ps ns) (length ps) r.row18 i lt);
      }

  module _ (unique : OwnNumbers cs) (s : Stable n cs es ps ns) where
    -- the clause of a point's number is the one that the point falsifies
    clause-at : (i : ℕ) (lt : i < length ps) → clause_numbered cs (get_or ns i 0) ≡ some (s.transported i lt).own.clause
    clause-at i lt =
        let t = s.transported i lt in subst (λ (k : ℕ). clause_numbered cs k ≡ some t.own.clause) t.named
        (clause_of_lem cs unique t.own t.member)

    number_of_stable : (i : ℕ) → i < length ps → number_passes cs ps ns i ≡ true
    number_of_stable i lt =
        let t = s.transported i lt in
        number_passes_lem cs ps ns i t.own.clause (clause-at i lt)
        (not-true-false (satisfies t.own.clause (get_or ps i 0))
        (λ e. t.falsified (satisfies_sound t.own.clause (get_or ps i 0) e)))

    flips_of_stable : (i : ℕ) → i < length ps → flips_pass n cs es ps ns i ≡ true
    unfolding flips_pass
    flips_of_stable i lt =
        let t = s.transported i lt in
        let x = get_or ps i 0 in
        ap (λ o. all (covered es ps) (flips_of n o x)) (clause-at i lt)
        ∙ all_of (covered es ps) (map (flip x) (variables n t.own.clause))
        (λ y m. let w = map_out (flip x) (variables n t.own.clause) m in
        covered_complete es ps y (subst (Covered es ps) (sym w.2) (t.flips w.0 w.1)))

    pub rows_of_stable : ListsPassed n cs es ps ns
    unfolding permutation_fault symmetry_fault points_fault numbers_fault flips_fault
    rows_of_stable =
        record {
          row11 = test_passed (leb (length es) max_permutations) (fault_at 11 (first_failing (is_permutation n) es)) 11 17
              (le-leb (length es) max_permutations s.few_permutations)
              (passes_each 11 (is_permutation n) es (λ e m. is_permutation_complete n e (s.are_permutations e m)));
          row12 = passes_each 12 (keeps cs) es (λ e m. keeps_complete cs e (s.keep_clauses e m));
          row16 = test_passed (leb 1 (length ps) && leb (length ps) max_slots)
              (fault_at 16 (first_failing (point_passes n ps) (below (length ps)))) 16 0
              (and_join (leb 1 (length ps)) (leb (length ps) max_slots) (le-leb 1 (length ps) s.some_point)
              (le-leb (length ps) max_slots s.few_points))
              (passes_below 16 (point_passes n ps) (length ps) (points_pass n ps s.within s.distinct));
          row17 = passes_below 17 (number_passes cs ps ns) (length ps) number_of_stable;
          row18 = passes_below 18 (flips_pass n cs es ps ns) (length ps) flips_of_stable;
        }

module _ (f : Formula) (clauses : ClauseSlices) (file : List ℕ) where
  abbrev problem : Problem
  problem = problem_of f clauses

  -- K1: "It accepts a certificate for a sheet's rules exactly if all of these hold"
  pub accepts_sound : check_reply f clauses file ≡ accepted → Accepts f clauses file
  unfolding check_reply file_fault sizes_fault same_sizes
  accepts_sound h =
      let p = checker_passed f clauses file (not_refused (check_fault f clauses file) accepted
      accepted h accepted_not_refused) in
      let w = well_formed_sound file (tested (well_formed file) no_fault 14 (length file) p.row14).0 in
      let sizes = and_split _ _ (tested (same_sizes problem.variables problem.total file) no_fault 15 0
      p.row15).0 in
      record {
        clauses_pass = p.row10;
        in_order = w;
        same_variables = eqb-true (contents_of file).variables problem.variables sizes.0;
        same_total = eqb-true (contents_of file).clauses problem.total sizes.1;
        stable = stable_of_rows problem.variables problem.clauses (file_permutations file) (file_points file)
            (file_numbers file) (same_lengths file w) p.rows;
      }

  pub accepts_complete : Accepts f clauses file → check_reply f clauses file ≡ accepted
  unfolding check_reply file_fault sizes_fault same_sizes
  accepts_complete a =
      unless-none (check_fault f clauses file)
      (passed_checker f clauses file
      (record {
        row10 = a.clauses_pass;
        row14 = test_passed (well_formed file) no_fault 14 (length file) (well_formed_complete file a.in_order) refl;
        row15 = test_passed (same_sizes problem.variables problem.total file) no_fault 15 0
            (and_join _ _ (eq-eqb _ _ a.same_variables) (eq-eqb _ _ a.same_total)) refl;
        rows = rows_of_stable problem.variables problem.clauses (file_permutations file) (file_points file)
            (file_numbers file) (own_numbers f clauses) a.stable;
      })) accepted
