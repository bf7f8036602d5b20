-- The rows 16, 17 and 18 in order, of a certificate's points and clause numbers. Assumes nothing.
use Rattle.std.specs.Prelude.{List, [], ◌∷◌, ℕ, ◌*◌, ◌≤◌, length}
use Rattle.points.specs.Points.{Clause, Numbered, numbered}
use Rattle.permutation_theory.specs.Permutations.{Permutation, permutations_in}
use Rattle.formula.specs.Limits.{max_slots}
use Rattle.formula.specs.Reply.{Fault, first}
use Rattle.certificate.specs.Bytes.{numbers_in, point_width, number_width}
use Rattle.certificate.specs.Rows.{points_fault, numbers_fault}
use Rattle.permutation_images.specs.declared.Permutations.{Permutations}
use Rattle.check_entries.specs.declared.Bodies.{Bodies}
use Rattle.check_distinct.specs.Laws.Indexing.{Indexable, Links}
use Rattle.check_flips.specs.Flips.{flips_fault}
use Rattle.check_flips.specs.Laws.Loops.{Proper}

-- the rows 16, 17 and 18, of a list of points and one of numbers
abbrev pub lists_fault : ℕ → List Numbered → List Permutation → List ℕ → List ℕ → Fault
lists_fault n cs es ps ns = first (points_fault max_slots n (length ps) ps ∷ numbers_fault cs (length ps) ps ns
    ∷ flips_fault n cs es ps ns ∷ [])

-- the same, of `count` entries in two bodies, with permutations and clauses as they lie in their slices
abbrev pub entries_fault : ℕ → ℕ → List ℕ → List Clause → List ℕ → List ℕ → ℕ → Fault
entries_fault n permutations images clauses points falsified count =
    lists_fault n (numbered clauses) (permutations_in n permutations images)
    (numbers_in point_width count points) (numbers_in number_width count falsified)

-- the same, of the entries that a value of the code's type lends
abbrev pub decoded_fault : Permutations → List Clause → Bodies → Fault
decoded_fault g clauses b = entries_fault g.variables g.count g.images.now clauses b.points.now b.falsified.now b.count

-- there are `count` points, and links that are all 0 with room for them
pub record Ready (g : Permutations) (clauses : List Clause) (heads : ℕ) (points links : List ℕ) (count : ℕ) : Type 0
  where
    pub given : Proper g.variables g.count g.images.now clauses
    pub indexable : Indexable heads g.variables count points links

-- the bodies hold the entries, and no more than fit the arrays
pub record Decodable (g : Permutations) (clauses : List Clause) (b : Bodies) (limit : ℕ) : Type 0 where
  pub given : Proper g.variables g.count g.images.now clauses
  pub most : b.count ≤ limit
  pub points_long : b.count * point_width ≤ length b.points.now
  pub numbers_long : b.count * number_width ≤ length b.falsified.now

-- slices for so many points, their numbers, and links of so many heads
pub record Lent (heads count : ℕ) (held named links : List ℕ) : Type 0 where
  pub held_long : count ≤ length held
  pub named_long : count ≤ length named
  pub linked : Links heads count links
