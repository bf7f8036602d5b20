-- 2026-02, the promise: a written text is accepted and says what was written, so that reading it gives the formula and
-- the clauses again. Assumes nothing.
use Rattle.std.specs.Prelude.{false, ◌≡◌}
use mathlib.Core.List.{List, [], ◌∷◌, ◌++◌, map, map-map, map-id, append-nil}
use Rattle.std.proofs.Math.Path.{sym, ap, ap₂, subst}
use Rattle.std.proofs.Common.{◌∙◌, le_of_eq, arith}
use Prim.Native.Nat.{ℕ, suc, ◌+◌, ◌^◌, ◌≤◌, ◌<◌}
use Rattle.std.proofs.Math.Nat.{le_trans}
use Rattle.std.proofs.Math.ListN.{length}
use Rattle.math.specs.Laws.ListLaws.{map_out}
use Rattle.math.specs.Laws.PartLaws.{each_nil, each_cons}
use Rattle.math.specs.Laws.SplitLaws.{select-cons, select_skip, map_ext}
use Rattle.math.specs.Lists.{◌∈◌}
use Rattle.point_slices.specs.Laws.SliceLaws.{clause_sets}
use Rattle.point_slices.specs.Slices.{ClauseSlices, clauses_of, first_clauses, clause_room}
use Rattle.permutation_theory.specs.Permutations.{Permutation, permutations_in, clauses_in}
use Rattle.permutation_images.specs.Laws.LoopLaws.{length-permutations, flat_map_permutations, clauses_in-numbered}
use Rattle.formula.specs.declared.Formula.{Formula}
use Rattle.formula.specs.Limits.{max_images}
use Rattle.formula.specs.Laws.RefusalLaws.{formula_passes, permutation_passes, fits_count}
use Rattle.formula.specs.Problem.{Problem, problem_of}
use Rattle.formula.specs.Refusals.{formula_fault, permutation_fault}
use Rattle.formula.specs.Reply.{no_fault}
use Rattle.dimacs_format.specs.Accepted.{Targeted, one_line, Permuted, Skipped, at_text_end, Accepts}
use Rattle.dimacs_format.specs.Input.{Input, clause_of, images_of, padded, formula_of}
use Rattle.dimacs_format.specs.Laws.ClauseLaws.{token_of}
use Rattle.dimacs_format.specs.Laws.InputLaws.{Proper, input_problem}
use Rattle.dimacs_format.specs.Laws.ReaderLaws.{accepts_yields}
use Rattle.dimacs_format.specs.Reader.{stored_in, read_formula, read_clauses}
use Rattle.dimacs_format.specs.Text.{max_text, piece, Line, lines, is_target_line, is_permutation_line, is_percent_line}
use Rattle.dimacs_text.specs.SheetText.{lined, problem_line, target_line, permutation_line, literals_of, clause_line}
use Rattle.dimacs_text.specs.SheetText.{sheet_lines, sheet_text, input_in, text_of}
use Rattle.dimacs_text.specs.ReadBack.{unused_zero, ReadsBack}
use Rattle.dimacs_text.proofs.LinesBehind.{target_kinds, words_comment, behind_both}
use Rattle.dimacs_text.proofs.LiteralLaws.{literals_within, clause_back}
use Rattle.dimacs_text.specs.Laws.WordLaws.{line_next}
use Rattle.dimacs_text.proofs.WrittenLines.{problem_inside, problem_says, target_inside, target_says}

-- ---- the text of an input is accepted

module _ (d : Input) (h : Proper d) where
  -- the lines behind the target line, and where they stand
  rest : List (List ℕ)
  rest = map permutation_line d.permutations ++ map (clause_line d.variables) d.clauses

  target_place : ℕ
  target_place = suc (0 + length (problem_line d.variables (length d.clauses)))

  rest_place : ℕ
  rest_place = suc (target_place + length (target_line d.variables d.target))

  target : Line
  target = piece target_place (target_line d.variables d.target)

  pub written_accepted : (room : ℕ) → length (sheet_text d) ≤ max_text → length d.clauses ≤ room
      → Accepts (sheet_text d) room d
  unfolding sheet_text sheet_lines rest target_place rest_place target
  written_accepted room size enough =
      let n : ℕ = d.variables in
      let few : n < 10 ^ 4 = omega (arith, h.few_variables) in
      let ls : List Line = lines rest_place (lined rest) in
      let k = target_kinds n d.target target_place in
      let b = behind_both n few h.some-variable d.permutations d.clauses rest_place h.permutations in
      record {
        size = size;
        before = [];
        problem = piece 0 (problem_line n (length d.clauses));
        after = target ∷ ls;
        ignored = [];
        place =
            line_next 0 (problem_line n (length d.clauses)) (target_line n d.target ∷ rest)
            (problem_inside n (length d.clauses))
            ∙ ap (λ k. piece 0 (problem_line n (length d.clauses)) ∷ k)
            (line_next target_place (target_line n d.target) rest (target_inside n d.target)
            ∙ sym (append-nil (target ∷ ls)));
        skipped = each_nil Skipped;
        sizes = problem_says n (length d.clauses) 0 few (omega (arith, h.few_clauses_lem));
        unended = each_cons (λ l. is_percent_line l ≡ false) k.unended b.unended;
        ended = at_text_end;
        some-variable = h.some-variable;
        few_variables = h.few_variables;
        few_clauses_lem = h.few_clauses_lem;
        enough_room = enough;
        grouped =
            record {
              groups = map (literals_of n) d.clauses;
              tokens = ap (map token_of) (words_comment target ls k.comments) ∙ b.tokens;
              within =
                  λ g m l i.
                  let w = map_out (literals_of n) d.clauses m in
                  literals_within n w.0 l (subst (λ g. l ∈ g) w.2 i);
              clauses =
                  sym (map-map clause_of (literals_of n) d.clauses
                  ∙ map_ext (λ c. clause_of (literals_of n c)) (λ c. c) d.clauses
                  (λ c m. let p = h.clauses c m in clause_back n c p.0 p.1)
                  ∙ map-id d.clauses);
            };
        targeted =
            subst (λ k. Targeted n k d.target)
            (sym (select-cons is_target_line {x = target} ls k.targets ∙ ap (λ k. target ∷ k) b.targets))
            (one_line (target_says n d.target target_place h.target));
        permuted =
            subst (λ k. Permuted n k d.permutations)
            (sym (select_skip is_permutation_line {x = target} ls k.permutations)) b.permuted;
        few_permutations_lem = h.few_permutations_lem;
      }

-- ---- a formula that refusals 10 and 11 let pass

module _ (f : Formula) (clauses : ClauseSlices) (ten : formula_fault f clauses ≡ no_fault) where
  clauses-count : length (clauses_of clauses) ≡ f.clauses
  clauses-count = fits_count f.variables f.clauses clauses (formula_passes f clauses ten).0

  -- the input that it says is the formula again, but for the bytes that it does not use
  pub input_formula : formula_of (input_in f clauses) ≡ unused_zero f
  unfolding formula_of unused_zero images_of
  input_formula =
      λ i. record {
        variables = f.variables;
        clauses = clauses-count i;
        target = f.target;
        permutations = length-permutations f.variables f.permutations f.images i;
        images = padded max_images (flat_map_permutations f.variables f.permutations f.images i);
      }

  module _ (eleven : permutation_fault f.variables (permutations_in f.variables f.permutations f.images)
      ≡ no_fault) where
    pub input_proper : Proper (input_in f clauses)
    input_proper =
        let w = formula_passes f clauses ten in
        let es : List Permutation = permutations_in f.variables f.permutations f.images in
        let p = permutation_passes f.variables es eleven in
        record {
          some-variable = w.0.some-variable;
          few_variables = w.0.few_variables;
          few_clauses_lem = le_trans (le_of_eq clauses-count) w.0.few_clauses_lem;
          target = w.1;
          clauses =
              λ c m.
              let s = clause_sets clauses.positive clauses.negative c m in
              (w.0.positive-below c.positive s.0, w.0.negative-below c.negative s.1);
          few_permutations_lem = p.0;
          permutations = p.1;
        }

-- ---- what is read from the text of a formula

-- what the formula and the slices that are read from an input say is that input
pub input_again : (d : Input) → Proper d → (slices : ClauseSlices)
    → input_in (formula_of d) (first_clauses (length d.clauses) (stored_in slices d.clauses)) ≡ d
unfolding problem_of formula_of
input_again d h slices =
    let front : ClauseSlices = first_clauses (length d.clauses) (stored_in slices d.clauses) in
    let e = input_problem d h slices in
    λ i. record {
      variables = d.variables;
      clauses =
          (sym (clauses_in-numbered 1 (clauses_of front)) ∙ ap (λ (pb : Problem). clauses_in pb.clauses) e
          ∙ clauses_in-numbered 1 d.clauses) i;
      target = d.target;
      permutations = (e i).permutations;
    }

module _ (f : Formula) (clauses slices : ClauseSlices) (ten : formula_fault f clauses ≡ no_fault)
    (eleven : permutation_fault f.variables (permutations_in f.variables f.permutations f.images) ≡ no_fault)
    (size : length (text_of f clauses) ≤ max_text) (room : f.clauses ≤ clause_room slices) where
  -- Q02.3: "Reading it, with rule slices long enough, gives the same sheet (unused exchange bytes 0) and rules, for
  -- each sheet not refused by 10 or 11 whose text is at most 1,048,576 bytes."
  pub reads_back : ReadsBack f clauses (text_of f clauses) slices
  unfolding text_of
  reads_back =
      let d : Input = input_in f clauses in
      let enough : length d.clauses
      ≤ clause_room slices = le_trans (le_of_eq (clauses-count f clauses ten)) room in
      let y = accepts_yields (sheet_text d) slices d (written_accepted d (input_proper f clauses ten eleven)
      (clause_room slices) size enough) in
      record { reply = y.reply; formula = y.formula ∙ input_formula f clauses ten; rules = y.clauses }

  -- what is read from a text that was written so is written as the same text again
  pub text_again : text_of (read_formula (text_of f clauses) slices)
      (first_clauses f.clauses (read_clauses (text_of f clauses) slices)) ≡ text_of f clauses
  unfolding text_of
  text_again =
      ap₂ (λ g s. sheet_text (input_in g s)) (reads_back.formula ∙ sym (input_formula f clauses ten))
      (ap₂ first_clauses (sym (clauses-count f clauses ten)) reads_back.rules)
      ∙ ap sheet_text (input_again (input_in f clauses) (input_proper f clauses ten eleven) slices)
