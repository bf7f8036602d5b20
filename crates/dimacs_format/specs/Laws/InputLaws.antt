-- What an accepted text is sure to hold, and that the formula and the slices read from it say just that. Assumes
-- nothing.
use mathlib.Core.List.Memᴰ
use Rattle.std.specs.Prelude.{List, [], ◌∷◌, ◌++◌, ◌≡◌, refl, ℕ, ◌-◌, ◌*◌, ◌≤◌, ◌<◌, ◌^◌, length, take, drop, replicate}
use Rattle.std.proofs.Common.{append_assoc, ⊎_elim, sym, ap, ap₂, ◌∙◌, subst, mul-le-mul, arith, length-append, pow_pos, take_at, drop_at}
use Rattle.std.proofs.lemmas.List.{length-map, length-replicate}
use Rattle.math.specs.Laws.ListLaws.{here, map_out}
use Rattle.math.specs.Lists.{◌∈◌}
use Rattle.math.specs.Laws.PartLaws.{over-front}
use Rattle.math.specs.Laws.SplitLaws.{length_flat_map}
use Rattle.points.specs.Points.{Clause, numbered}
use Rattle.point_slices.specs.Slices.{ClauseSlices, beside, first_clauses}
use Rattle.permutation_theory.specs.Permutations.{Permutation, IsPermutation, permutations_in}
use Rattle.formula.specs.Limits.{max_variables, max_clauses, max_permutations, max_images}
use Rattle.formula.specs.Problem.{problem_of}
use Rattle.dimacs_format.specs.Text.{Line}
use Rattle.dimacs_format.specs.Input.{Input, clause_of, images_of, padded, formula_of, positives}
use Rattle.dimacs_format.specs.Input.{negatives}
use Rattle.dimacs_format.specs.Reader.{stored_in}
use Rattle.dimacs_format.specs.Accepted.{Targeted, Permuted, Accepts, no_line, one_line, none_left, one_more}
use Rattle.dimacs_format.specs.Laws.ClauseLaws.{clause_of-below}

-- ---- within the limits

-- n, C, the target, the clauses and the permutations are what a formula may hold
pub record Proper (d : Input) : Type 0 where
  pub some-variable : 1 ≤ d.variables
  pub few_variables : d.variables ≤ max_variables
  pub few_clauses_lem : length d.clauses ≤ max_clauses
  pub target : d.target < 2 ^ d.variables
  pub clauses : (c : Clause) → c ∈ d.clauses → (c.positive < 2 ^ d.variables) × (c.negative < 2 ^ d.variables)
  pub few_permutations_lem : length d.permutations ≤ max_permutations
  pub permutations : (e : Permutation) → e ∈ d.permutations → IsPermutation d.variables e

targeted_below : (n : ℕ) {ls : List Line} {x : ℕ} → Targeted n ls x → x < 2 ^ n
targeted_below n no_line = pow_pos n
targeted_below n (one_line t) = t.within

permuted_each : (n : ℕ) {ls : List Line} {es : List Permutation} → Permuted n ls es → (e : Permutation) → e ∈ es
    → IsPermutation n e
permuted_each n none_left e m = absurd (Memᴰ.not-nil m)
permuted_each n (one_more p ps) e m = ⊎_elim (λ h. subst (IsPermutation n) (sym h) p.permutation)
    (λ k. permuted_each n ps e k) (Memᴰ.cases_cons m)

pub accepts_proper : (text : List ℕ) (room : ℕ) (d : Input) → Accepts text room d → Proper d
accepts_proper text room d a =
    record {
      some-variable = a.some-variable;
      few_variables = a.few_variables;
      few_clauses_lem = a.few_clauses_lem;
      target = targeted_below d.variables a.targeted;
      clauses =
          λ c m.
          let w = map_out clause_of a.grouped.groups (subst (λ cs. c ∈ cs) a.grouped.clauses m) in
          subst (λ k. (k.positive < 2 ^ d.variables) × (k.negative < 2 ^ d.variables)) (sym w.2)
          (clause_of-below d.variables w.0 (a.grouped.within w.0 w.1));
      few_permutations_lem = a.few_permutations_lem;
      permutations = permuted_each d.variables a.permuted;
    }

-- ---- the images

-- "they stand without gaps, n bytes each"
pub images-length : (n : ℕ) (es : List Permutation) → ((e : Permutation) → e ∈ es → IsPermutation n e)
    → length (images_of es) ≡ length es * n
unfolding images_of
images-length n es h = length_flat_map (λ (e : Permutation). e.images) n es (λ e m. (h e m).size)

pub padded-length : (size : ℕ) (bytes : List ℕ) → length bytes ≤ size → length (padded size bytes) ≡ size
unfolding padded
padded-length size bytes le = omega (
  arith,
  length-append bytes (replicate (size - length bytes) 0),
  length-replicate
      {A = ℕ} (size - length bytes) 0,
)

-- the permutations that stand in a run of bytes are those whose images were put there
pub images_back : (n : ℕ) (es : List Permutation) (rest : List ℕ) → ((e : Permutation) → e ∈ es → IsPermutation n e)
    → permutations_in n (length es) (images_of es ++ rest) ≡ es
unfolding permutations_in images_of
images_back n [] rest h = refl
images_back n (e ∷ es) rest h =
    let size : length e.images ≡ n = (h e (here e es)).size in
    let split : images_of (e ∷ es) ++ rest
    ≡ e.images ++ (images_of es ++ rest) = append_assoc e.images (images_of es) rest in
    ap₂ (λ x y. record { images = x } ∷ permutations_in n (length es) y)
    (ap (take n) split ∙ take_at e.images (images_of es ++ rest) n size)
    (ap (drop n) split ∙ drop_at e.images (images_of es ++ rest) n size)
    ∙ ap (λ l. e ∷ l) (images_back n es rest (λ k m. h k (Memᴰ.tail m)))

-- S21: "the reader makes unused bytes 0": 1,024 places, the images in front, and then zeros
pub record Images (d : Input) : Type 0 where
  pub places : length (formula_of d).images ≡ max_images
  pub front : take (length d.permutations * d.variables) (formula_of d).images ≡ images_of d.permutations
  pub unused : drop (length d.permutations * d.variables) (formula_of d).images
      ≡ replicate (max_images - length d.permutations * d.variables) 0

pub proper_images : (d : Input) → Proper d → Images d
unfolding formula_of
proper_images d h =
    let bytes : List ℕ = images_of d.permutations in
    let size : length bytes ≡ length d.permutations * d.variables = images-length d.variables d.permutations
    h.permutations in
    let le : length d.permutations * d.variables
    ≤ max_images = mul-le-mul h.few_permutations_lem h.few_variables in
    let rest : List ℕ = replicate (max_images - length bytes) 0 in
    record {
      places = padded-length max_images bytes (subst (λ k. k ≤ max_images) (sym size) le);
      front = take_at bytes rest (length d.permutations * d.variables) size;
      unused = drop_at bytes rest (length d.permutations * d.variables) size
          ∙ ap (λ k. replicate (max_images - k) 0) size;
    }

-- ---- the formula and the first C places of the slices are the problem that the text says

pub clauses_back : (cs : List Clause) → beside (positives cs) (negatives cs) ≡ cs
unfolding beside
clauses_back [] = refl
clauses_back (c ∷ cs) = ap (λ l. c ∷ l) (clauses_back cs)

-- what stands in the first places of the slices
module _ (clauses₀ : ClauseSlices) (cs : List Clause) where
  pub front-positive : (first_clauses (length cs) (stored_in clauses₀ cs)).positive ≡ positives cs
  front-positive = over-front (length cs) (positives cs) clauses₀.positive
      (length-map cs (λ (c : Clause). c.positive))

  pub front-negative : (first_clauses (length cs) (stored_in clauses₀ cs)).negative ≡ negatives cs
  front-negative = over-front (length cs) (negatives cs) clauses₀.negative
      (length-map cs (λ (c : Clause). c.negative))

pub input_problem : (d : Input) → Proper d → (clauses₀ : ClauseSlices)
    → problem_of (formula_of d) (first_clauses (length d.clauses) (stored_in clauses₀ d.clauses))
    ≡ record {
      variables = d.variables;
      total = length d.clauses;
      target = d.target;
      permutations = d.permutations;
      clauses = numbered d.clauses;
    }
unfolding problem_of formula_of
input_problem d h clauses₀ =
    ap₂ (λ es ks. record {
      variables = d.variables;
      total = length d.clauses;
      target = d.target;
      permutations = es;
      clauses = numbered ks;
    })
    (images_back d.variables d.permutations (replicate (max_images - length (images_of d.permutations)) 0)
    h.permutations)
    (ap₂ beside (front-positive clauses₀ d.clauses) (front-negative clauses₀ d.clauses)
    ∙ clauses_back d.clauses)
