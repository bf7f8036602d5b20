-- Document 01, 'Checker': what the points, clause numbers and permutations of a certificate have to be. Assumes
-- nothing.
use Rattle.std.specs.Prelude.{List, ◌≡◌, ℕ, ◌≤◌, ◌<◌, ◌^◌, length, get_or}
use Rattle.math.specs.Bits.{flip}
use Rattle.math.specs.Lists.{◌∈◌, Distinct}
use Rattle.points.specs.Points.{Satisfies, Numbered, variables}
use Rattle.permutation_theory.specs.Permutations.{Permutation, IsPermutation, Keeps, Covered}
use Rattle.formula.specs.Limits.{max_permutations, max_slots}

-- K1: "each point fails its rule, and each point got by flipping a name of that rule is covered by the points": the
-- point x with number k
pub record Transported (n : ℕ) (clauses : List Numbered) (permutations : List Permutation) (points : List ℕ) (x k : ℕ) :
    Type 0 where
  pub own : Numbered
  pub member : own ∈ clauses
  pub named : own.number ≡ k
  pub falsified : Satisfies own.clause x → ⊥
  pub flips : (v : ℕ) → v ∈ variables n own.clause → Covered permutations points (flip x v)

-- K1: "It accepts a certificate for a sheet's rules exactly if all of these hold": those about its lists, each with its
-- limit
pub record Stable (n : ℕ) (clauses : List Numbered) (permutations : List Permutation) (points falsified : List ℕ) : Type
    0
  where
    -- "its exchanges are permutations and keep the rules"
    pub few_permutations : length permutations ≤ max_permutations
    pub are_permutations : (e : Permutation) → e ∈ permutations → IsPermutation n e
    pub keep_clauses : (e : Permutation) → e ∈ permutations → Keeps e clauses
    -- "there is a point"; T3: "Accepting an empty point list, which is stable vacuously."
    pub some_point : 1 ≤ length points
    pub few_points : length points ≤ max_slots
    pub within : (x : ℕ) → x ∈ points → x < 2 ^ n
    -- "no point repeats"
    pub distinct : Distinct points
    -- "counts and lengths fit"
    pub paired : length falsified ≡ length points
    -- "each point fails its rule, and each point got by flipping a name of that rule is covered by the points"
    pub transported : (i : ℕ) → i < length points
        → Transported n clauses permutations points (get_or points i 0) (get_or falsified i 0)
