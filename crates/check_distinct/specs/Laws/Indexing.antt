-- What the functions that index points while they test them require and promise. Assumes nothing.
use Rattle.std.specs.Prelude.{Bool, true, ◌&&◌, List, ◌≡◌, ℕ, ◌+◌, ◌*◌, ◌≤◌, ◌<◌, leb, eqb, length, take, drop}
use Rattle.math.specs.Lists.{first_failing, below}
use Rattle.math.specs.Laws.ScanLaws.{on_from}
use Rattle.formula.specs.Limits.{max_variables, max_slots}
use Rattle.formula.specs.Reply.{Fault, no_fault}
use Rattle.certificate.specs.Rows.{point_passes, points_fault}
use Rattle.point_index.specs.Laws.Index.{HasHeads, Indexed}
use Rattle.point_index.specs.Laws.Looking.{AllZero}

-- the links are an index of the first i points, with room for the next, whose number fits a link
pub record Growable (heads n i : ℕ) (points links : List ℕ) : Type 0 where
  pub few : n ≤ max_variables
  pub indexed : Indexed heads n (take i points) links
  pub enough : i < length points
  pub small : i + 1 < 4294967296
  pub room : heads + 2 * (i + 1) ≤ length links

-- a test of the point of index i tells whether it passes; if so the links are an index of one more
pub record Grows (heads n i : ℕ) (points : List ℕ) (passes : Bool) (links' : List ℕ) : Type 0 where
  pub tells : passes ≡ point_passes n points i
  pub grown : passes ≡ true → Indexed heads n (take (i + 1) points) links'

-- links that are all 0, with room for `count` points, whose numbers fit them
pub record Indexable (heads n count : ℕ) (points links : List ℕ) : Type 0 where
  pub few : n ≤ max_variables
  pub headed : HasHeads heads
  pub enough : count ≤ length points
  pub small : count < 4294967296
  pub room : heads + 2 * count ≤ length links
  pub zeros : AllZero links

-- the loop over the points: those before i have passed, and are indexed
pub record Sifting (heads n count : ℕ) (points links : List ℕ) (i : ℕ) : Type 0 where
  pub indexed : Indexed heads n (take i points) links
  pub room : heads + 2 * count ≤ length links
  pub most : i ≤ count
  pub decides : first_failing (point_passes n points) (below count)
      ≡ on_from i (first_failing (point_passes n points) (drop i (below count)))

-- k is the number of the first point that fails, 0 if none does; then the links are an index of all
pub record Sifts (heads n count : ℕ) (points : List ℕ) (k : ℕ) (links' : List ℕ) : Type 0 where
  pub tells : k ≡ first_failing (point_passes n points) (below count)
  pub full : k ≡ 0 → Indexed heads n (take count points) links'

-- the answer is row 16; where it is no fault the links are an index of all points
pub record Refuses (heads n count limit : ℕ) (points : List ℕ) (r : Fault) (links' : List ℕ) : Type 0 where
  pub tells : r ≡ points_fault limit n count points
  pub full : r ≡ no_fault → Indexed heads n (take count points) links'

-- how many points small arrays are for
abbrev pub tiny_points : ℕ
tiny_points = 64

abbrev pub few_points : ℕ
few_points = 1024

abbrev pub many_points : ℕ
many_points = 8192

-- there are `count` points, of few variables, and no more than an array has room for
pub record Counted (room n count : ℕ) (points : List ℕ) : Type 0 where
  pub few : n ≤ max_variables
  pub enough : count ≤ length points
  pub most : count ≤ room

-- links that are all 0, for at most so many points: so many heads, and two for each point
pub record Links (heads most : ℕ) (links : List ℕ) : Type 0 where
  pub headed : HasHeads heads
  pub most_slots : most ≤ max_slots
  pub room : heads + 2 * most ≤ length links
  pub zeros : AllZero links

-- whether k links are what so many heads and points need
abbrev pub suits : ℕ → ℕ → ℕ → Bool
suits heads most k = leb 1 heads && leb heads 4294967296 && leb most max_slots && eqb (heads + 2 * most) k
