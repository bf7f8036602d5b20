-- What the functions on permutations require of their callers, and one that they share. Assumes nothing.
use Rattle.std.specs.Prelude.{Bool, true, not, ◌&&◌, List, ◌≡◌, ℕ, ◌-◌, ◌*◌, ◌≤◌, ◌<◌, leb, length, get_or}
use Rattle.math.specs.Bits.{bit}
use Rattle.math.specs.Lists.{◌∈◌}
use Rattle.points.specs.Points.{point_digits}
use Rattle.permutation_theory.specs.Permutations.{Permutation, permutations_in}
use Rattle.permutation_images.specs.declared.Permutations.{Permutations}

-- no more numbers than a point has digits, each the number of one: every permutation that refusal 11 lets pass is so
pub record Movable (es : List ℕ) : Type 0 where
  pub size : length es ≤ point_digits
  pub within : (v : ℕ) → v ∈ es → (1 ≤ v) × (v ≤ point_digits)

-- the variables of the set f are among the first k, and the numbers send each to itself
pub record Fixes (es : List ℕ) (k f : ℕ) : Type 0 where
  pub still : (i : ℕ) → bit f i ≡ true → (i < k) × (get_or es i 0 - 1 ≡ i)

-- k such permutations of n numbers each lie in the bytes: refusals 10 and 11 see to it
pub record Listed (n k : ℕ) (bytes : List ℕ) : Type 0 where
  pub room : k * n ≤ length bytes
  pub movable : (e : Permutation) → e ∈ permutations_in n k bytes → Movable e.images

-- v is one of 1 to n, and not of the set of those seen
unfoldable pub fresh : ℕ → ℕ → ℕ → Bool
fresh n seen v = leb 1 v && leb v n && not (bit seen (v - 1))

-- the permutations that a value of the code's type lends
abbrev pub permutations_of : Permutations → List Permutation
permutations_of es = permutations_in es.variables es.count es.images.now
