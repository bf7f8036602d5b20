-- D2.3: the checker accepts just the files that hold a stable set of the published definition. Assumes nothing.
use Rattle.std.specs.Prelude.{List, [], ◌≡◌, refl, ℕ}
use Rattle.math.specs.Lists.{◌∈◌}
use Rattle.points.specs.Points.{Clause, Numbered}
use Rattle.point_slices.specs.Slices.{ClauseSlices}
use Rattle.permutation_theory.specs.Permutations.{permutations_in, itself}
use Rattle.formula.specs.declared.Formula.{Formula}
use Rattle.formula.specs.Laws.RefusalLaws.{fits_sound, fits_complete}
use Rattle.formula.specs.Laws.ReplyLaws.{tested, test_passed}
use Rattle.formula.specs.Problem.{Problem, problem_of}
use Rattle.formula.specs.Refusals.{fits, clauses_fault}
use Rattle.formula.specs.Reply.{accepted, no_fault}
use Rattle.certificate.specs.Certificate.{contents_of, file_permutations, file_points, file_numbers}
use Rattle.check_theory.proofs.StableLaws.{transport_of, stable_names, stable_published, published_stable}
use Rattle.check_theory.proofs.StableLaws.{stable_more, covered_plainly, covered_symmetric}
use Rattle.check_theory.specs.Published.{StableSet, StableModulo}
use Rattle.checker.specs.Checker.{check_reply}
use Rattle.checker.proofs.CheckerLaws.{accepts_sound, accepts_complete, own_numbers, same_lengths}
use Rattle.claims.specs.StableSets.{StableListed, HasStableSet, Exact}

module _ (f : Formula) (clauses : ClauseSlices) (file : List ℕ) where
  abbrev pb : Problem
  pb = problem_of f clauses

  -- another sense in which the set is stable, whatever its transport function is
  in_sense : (T : ℕ → List Numbered → (ℕ → Type 0) → (ℕ → Clause) → Type 0)
      {S : ℕ → List Numbered → (ℕ → Type 0) → (ℕ → Clause) → Type 0} (h : HasStableSet f clauses file S)
      → T pb.variables pb.clauses (λ x. x ∈ file_points file) h.transport → HasStableSet f clauses file T
  in_sense T h t =
      record {
        fits = h.fits;
        in_order = h.in_order;
        same_variables = h.same_variables;
        same_total = h.same_total;
        few_permutations = h.few_permutations;
        symmetries = h.symmetries;
        few_points = h.few_points;
        distinct = h.distinct;
        transport = h.transport;
        named = h.named;
        stable = t;
      }

  abbrev Listed : Type 0
  Listed = HasStableSet f clauses file (StableListed file)

  accepted_stable : check_reply f clauses file ≡ accepted → Listed
  unfolding clauses_fault problem_of
  accepted_stable h =
      let a = accepts_sound f clauses file h in
      let s = a.stable in
      let own = own_numbers f clauses in
      let cs = pb.clauses in
      let es = file_permutations file in
      let ps = file_points file in
      let ks = file_numbers file in
      record {
        fits = fits_sound pb.variables pb.total clauses
            (tested (fits f.variables f.clauses clauses) no_fault 10 0 a.clauses_pass).0;
        in_order = a.in_order;
        same_variables = a.same_variables;
        same_total = a.same_total;
        few_permutations = s.few_permutations;
        symmetries = λ e m. record { bijective = s.are_permutations e m; keeps = s.keep_clauses e m };
        few_points = s.few_points;
        distinct = s.distinct;
        transport = transport_of cs ps ks;
        named = stable_names pb.variables cs es ps ks own s;
        stable = stable_published pb.variables cs es ps ks own s;
      }

  stable_accepted : Listed → check_reply f clauses file ≡ accepted
  unfolding clauses_fault problem_of
  stable_accepted h =
      accepts_complete f clauses file
      (record {
        clauses_pass = test_passed (fits f.variables f.clauses clauses) no_fault 10 0
            (fits_complete pb.variables pb.total clauses h.fits) refl;
        in_order = h.in_order;
        same_variables = h.same_variables;
        same_total = h.same_total;
        stable = published_stable pb.variables pb.clauses (file_permutations file) (file_points file)
            (file_numbers file) h.transport h.stable h.named
            h.few_permutations h.symmetries h.distinct h.few_points (same_lengths file h.in_order);
      })

-- no permutation in the contents, none in the list
none-listed : (file : List ℕ) → (contents_of file).permutations ≡ 0 → file_permutations file ≡ []
unfolding file_permutations permutations_in
none-listed file e = rw e

pub exact : Exact
exact =
    record {
      listed = λ f clauses file. (accepted_stable f clauses file, stable_accepted f clauses file);
      unlisted = λ f clauses file none. let es = none-listed file none in (
        λ h. let s = accepted_stable f clauses file h in
            in_sense f clauses file StableSet s (stable_more (covered_plainly es) s.stable),
        λ s. stable_accepted f clauses file
            (in_sense f clauses file (StableListed file) s
            (stable_more (λ q m. itself m) s.stable)),
      );
      modulo = λ f clauses file h. let s = accepted_stable f clauses file h in
          in_sense f clauses file StableModulo s (stable_more (covered_symmetric s.symmetries) s.stable);
    }
