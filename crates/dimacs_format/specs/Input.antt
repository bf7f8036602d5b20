-- What an accepted text says, how its clauses come from their literals, and how all of it lies in a formula by value
-- and clause slices. Assumes nothing.
use mathlib.Core.List.{List, [], ◌∷◌, ◌++◌, map, flat_map}
use Rattle.std.specs.Prelude.{true, ◌≡◌, ℕ, suc, ◌-◌, ◌^◌, length, replicate}
use Rattle.std.specs.Int.Bits.{bit_or}
use Rattle.math.specs.Bits.{bit}
use Rattle.math.specs.Lists.{◌∈◌}
use Rattle.points.specs.Points.{Clause, empty_clause}
use Rattle.permutation_theory.specs.Permutations.{Permutation}
use Rattle.formula.specs.Limits.{max_images}
use Rattle.formula.specs.declared.Formula.{Formula}
use Rattle.dimacs_format.specs.Text.{Literal, pos, neg}

-- n, the clauses in order, the target, the permutations in order; C is the number of clauses
pub record Input : Type 0 where
  pub variables : ℕ
  pub clauses : List Clause
  pub target : ℕ
  pub permutations : List Permutation

-- ---- clauses

-- "a repeated entry counts once": a literal's variable joins the set of its sign
unfoldable pub with_literal : Clause → Literal → Clause
with_literal c (pos v) = record { positive = bit_or c.positive (2 ^ (v - 1)); negative = c.negative }
with_literal c (neg v) = record { positive = c.positive; negative = bit_or c.negative (2 ^ (v - 1)) }

-- a clause with more literals
unfoldable pub with_literals : Clause → List Literal → Clause
unfolding with_literal
with_literals c [] = c
with_literals c (l ∷ g) = with_literals (with_literal c l) g

-- the two sets of variables that literals list
unfoldable pub clause_of : List Literal → Clause
unfolding with_literals
clause_of g = with_literals empty_clause g

-- "names wanted yes, names wanted no": what the two sets are, variable i + 1 being bit i
pub record IsClause (g : List Literal) (c : Clause) : Type 0 where
  pub wanted : (i : ℕ) → (bit c.positive i ≡ true → pos (suc i) ∈ g) × (pos (suc i) ∈ g → bit c.positive i ≡ true)
  pub unwanted : (i : ℕ) → (bit c.negative i ≡ true → neg (suc i) ∈ g)
      × (neg (suc i) ∈ g → bit c.negative i ≡ true)

-- ---- the formula by value

-- "they stand without gaps, n bytes each, e(1) first"
unfoldable pub images_of : List Permutation → List ℕ
unfolding flat_map
images_of es = flat_map (λ (e : Permutation). e.images) es

-- S21: "the reader makes unused bytes 0"
unfoldable pub padded : ℕ → List ℕ → List ℕ
padded size bytes = bytes ++ replicate (size - length bytes) 0

-- "The sheet by value holds n, C, the wish, and the exchanges as 1,024 bytes beside their number"
unfoldable pub formula_of : Input → Formula
unfolding padded images_of
formula_of d =
    record {
      variables = d.variables;
      clauses = length d.clauses;
      target = d.target;
      permutations = length d.permutations;
      images = padded max_images (images_of d.permutations);
    }

-- ---- the clause slices

-- the positive and the negative sets of clauses
abbrev pub positives : List Clause → List ℕ
positives cs = map (λ (c : Clause). c.positive) cs

abbrev pub negatives : List Clause → List ℕ
negatives cs = map (λ (c : Clause). c.negative) cs
