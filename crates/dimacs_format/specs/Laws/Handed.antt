-- What an accepted text hands to the builder: the formula and the first C places of the slices pass refusals 10 and
-- 11, so that the builder refuses them by 12 or 13 at most. Assumes nothing.
use Rattle.std.specs.Prelude.{List, map, ◌≡◌, ℕ, ◌-◌, ◌*◌, ◌^◌, ◌≤◌, ◌<◌, length, drop, replicate}
use Rattle.std.proofs.Common.{sym, ◌∙◌, subst}
use Rattle.std.proofs.Math.Path.{ap}
use Rattle.std.proofs.lemmas.List.{length-map}
use borrow.Author.Tests.{lt-ltb}
use Rattle.math.specs.Laws.ListLaws.{map_out}
use Rattle.math.specs.Lists.{◌∈◌}
use Rattle.points.specs.Points.{Clause}
use Rattle.point_slices.specs.Slices.{ClauseSlices, clause_room, first_clauses}
use Rattle.permutation_theory.specs.Permutations.{Permutation, IsPermutation, permutations_in}
use Rattle.formula.specs.Limits.{max_permutations, max_images}
use Rattle.formula.specs.Problem.{Problem, problem_of}
use Rattle.formula.specs.Laws.RefusalLaws.{fits_complete, passes_permutation}
use Rattle.formula.specs.Refusals.{Fits, formula_fault, permutation_fault}
use Rattle.formula.specs.Reply.{parsed, no_fault}
use Rattle.formula.specs.declared.Formula.{Formula}
use Rattle.dimacs_format.specs.Input.{Input, formula_of}
use Rattle.dimacs_format.specs.Reader.{stored_in, read_reply, read_formula, read_clauses}
use Rattle.dimacs_format.specs.Laws.InputLaws.{Proper, accepts_proper, proper_images, front-positive}
use Rattle.dimacs_format.specs.Laws.InputLaws.{front-negative, input_problem}
use Rattle.dimacs_format.specs.Laws.ReaderLaws.{parsed_accepts}

-- a formula and its clauses as the reader hands them on
pub record Handed (f : Formula) (clauses : ClauseSlices) : Type 0 where
  -- "V is 1 to 64 and becomes n, C is 0 to 4,096"; "bits n and up are 0": refusal 10 passes
  pub fits : Fits f.variables f.clauses clauses
  pub target : f.target < 2 ^ f.variables
  pub ten : formula_fault f clauses ≡ no_fault
  -- "at most 16 such lines", "every number just one time": refusal 11 passes
  pub few_permutations_lem : f.permutations ≤ max_permutations
  pub permutations : (e : Permutation) → e ∈ permutations_in f.variables f.permutations f.images
      → IsPermutation f.variables e
  pub eleven : permutation_fault f.variables (permutations_in f.variables f.permutations f.images) ≡ no_fault
  -- "the reader makes unused bytes 0"
  pub places : length f.images ≡ max_images
  pub unused : drop (f.permutations * f.variables) f.images
      ≡ replicate (max_images - f.permutations * f.variables) 0

-- what an input that is within its limits hands on
module _ (d : Input) (h : Proper d) (clauses₀ : ClauseSlices) where
  handed : ClauseSlices
  handed = first_clauses (length d.clauses) (stored_in clauses₀ d.clauses)

  -- where all sets of a sign are those of clauses of the text, they are within n
  module _ (sign : Clause → ℕ) (below : (c : Clause) → c ∈ d.clauses → sign c < 2 ^ d.variables) (xs : List ℕ)
      (e : xs ≡ map sign d.clauses) where
    listed-length : length xs ≡ length d.clauses
    listed-length = ap length e ∙ length-map d.clauses sign

    listed_below : (x : ℕ) → x ∈ xs → x < 2 ^ d.variables
    listed_below x m =
        let w = map_out sign d.clauses (subst (λ l. x ∈ l) e m) in
        subst (λ y. y < 2 ^ d.variables) (sym w.2) (below w.0 w.1)

  input_fits : Fits d.variables (length d.clauses) handed
  unfolding handed
  input_fits =
      record {
        some-variable = h.some-variable;
        few_variables = h.few_variables;
        few_clauses_lem = h.few_clauses_lem;
        positive-length = listed-length (λ c. c.positive) (λ c m. (h.clauses c m).0) handed.positive
            (front-positive clauses₀ d.clauses);
        negative-length = listed-length (λ c. c.negative) (λ c m. (h.clauses c m).1) handed.negative
            (front-negative clauses₀ d.clauses);
        positive-below = listed_below (λ c. c.positive) (λ c m. (h.clauses c m).0) handed.positive
            (front-positive clauses₀ d.clauses);
        negative-below = listed_below (λ c. c.negative) (λ c m. (h.clauses c m).1) handed.negative
            (front-negative clauses₀ d.clauses);
      }

  -- the permutations of the formula are those of the text
  listed : permutations_in d.variables (length d.permutations) (formula_of d).images ≡ d.permutations
  unfolding problem_of formula_of
  listed = ap (λ (pb : Problem). pb.permutations) (input_problem d h clauses₀)

  pub input_handed : Handed (formula_of d) (first_clauses (length d.clauses) (stored_in clauses₀ d.clauses))
  unfolding formula_of formula_fault handed
  input_handed =
      record {
        fits = input_fits;
        target = h.target;
        ten =
            rw (
              fits_complete d.variables (length d.clauses) handed input_fits,
              lt-ltb d.target (2 ^ d.variables) h.target,
            );
        few_permutations_lem = h.few_permutations_lem;
        permutations = λ e m. h.permutations e (subst (λ es. e ∈ es) listed m);
        eleven = ap (permutation_fault d.variables) listed
            ∙ passes_permutation d.variables d.permutations h.few_permutations_lem h.permutations;
        places = (proper_images d h).places;
        unused = (proper_images d h).unused;
      }

-- D2.1: what a text that the reader accepts hands to the builder, with the first C places of the slices as the reader
-- leaves them
pub accepted_handed : (text : List ℕ) (clauses₀ : ClauseSlices) → read_reply text clauses₀ ≡ parsed
    → Handed (read_formula text clauses₀)
    (first_clauses (read_formula text clauses₀).clauses (read_clauses text clauses₀))
unfolding formula_of
accepted_handed text clauses₀ e =
    let w = parsed_accepts text clauses₀ e in
    let d = w.0 in
    let y = w.2 in
    subst (λ f. Handed f (first_clauses f.clauses (read_clauses text clauses₀))) (sym y.formula)
    (subst (λ s. Handed (formula_of d) (first_clauses (length d.clauses) s)) (sym y.clauses)
    (input_handed d (accepts_proper text (clause_room clauses₀) d w.1) clauses₀))
