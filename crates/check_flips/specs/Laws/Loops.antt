-- What the functions on flips cite beside the definition of row 18. Assumes nothing.
use Rattle.std.specs.Prelude.{Bool, List, map, ◌≡◌, ℕ, ◌≤◌, ◌<◌, ◌^◌, length}
use Rattle.std.proofs.Math.Option.{Option, some, none}
use Rattle.math.specs.Bits.{flip, members}
use Rattle.math.specs.Lists.{◌∈◌, all}
use Rattle.points.specs.Laws.Contracts.{NextVariable}
use Rattle.points.specs.Points.{Clause, listed, numbered}
use Rattle.point_theory.specs.Laws.Notions.{ClausesBelow}
use Rattle.permutation_theory.specs.Permutations.{Permutation, IsPermutation, permutations_in}
use Rattle.permutation_images.specs.Laws.Contracts.{Listed}
use Rattle.permutation_images.specs.declared.Permutations.{Permutations}
use Rattle.point_index.specs.Laws.Index.{Indexed}
use Rattle.point_index.specs.Laws.Looking.{Askable, indexed_points}
use Rattle.point_index.specs.declared.Index.{Index}
use Rattle.point_slices.specs.Slices.{points_of}
use Rattle.permutation_coverage.specs.Laws.Coverage.{Permuting, Imaged, Staying}
use Rattle.formula.specs.Limits.{max_variables, max_permutations}

-- the variables that a clause lists, as a set; none without a clause
unfoldable pub listed_by : Option Clause → ℕ
listed_by none = 0
listed_by (some c) = listed c

-- whether every flip of x by a variable of the set passes a test
abbrev pub all_flips : (ℕ → Bool) → ℕ → ℕ → ℕ → Bool
all_flips t n x s = all t (map (flip x) (members n s))

-- what row 18 looks at besides points and numbers: `count` permutations of n variables, and clauses that list no other
-- variable
pub record Proper (n count : ℕ) (images : List ℕ) (clauses : List Clause) : Type 0 where
  pub few : n ≤ max_variables
  pub few_permutations_lem : count ≤ max_permutations
  pub listed : Listed n count images
  pub proper : (e : Permutation) → e ∈ permutations_in n count images → IsPermutation n e
  pub below : ClausesBelow n (numbered clauses)

-- what lets flips be looked up: the points that are to be tested are there, and the links are an index of them
pub record Testable (g : Permutations) (clauses : List Clause) (index : Index) : Type 0 where
  pub given : Proper g.variables g.count g.images.now clauses
  pub enough : index.count ≤ length (points_of index.points.now)
  pub indexed : Indexed index.heads g.variables (indexed_points index) index.links.now

-- flips of x, a point of n digits, can be looked up, `stay` has sets of variables that stay, and `moved` has the images
-- of `seen`
pub record Follows (g : Permutations) (index : Index) (stay moved : List ℕ) (seen x : ℕ) : Type 0 where
  pub askable : Askable index.heads g.variables (indexed_points index) index.links.now x
  pub permuting : Permuting g.variables g.count g.images.now
  pub staying : Staying g.variables g.count g.images.now stay
  pub imaged : Imaged g.variables g.count g.images.now seen moved

-- the loop over the variables of the set s: those of `left` are still to be tested, v the lowest of them, and they
-- decide
pub record Flipping (t : ℕ → Bool) (n x s left v : ℕ) : Type 0 where
  pub within : left < 2 ^ n
  pub next : NextVariable left v
  pub decides : all_flips t n x s ≡ all_flips t n x left
