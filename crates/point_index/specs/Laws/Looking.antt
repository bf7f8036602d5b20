-- What the functions on an index cite beside its definition: the loop of a look-up, and what a look-up and an addition
-- answer. Assumes nothing.
use Rattle.std.specs.Prelude.{Bool, true, false, List, [], ◌∷◌, ◌++◌, ◌≡◌, ℕ, suc, ◌+◌, ◌*◌, ◌≤◌, ◌<◌, ◌^◌, length, set, take}
use Rattle.math.specs.Lists.{has}
use Rattle.points.specs.Points.{point_digits}
use Rattle.point_slices.specs.Slices.{points_of}
use Rattle.point_index.specs.declared.Index.{Index}
use Rattle.point_index.specs.Laws.Index.{head_of, entry, MayStand, Finds, Indexes, Indexed}

-- every link is 0
abbrev pub AllZero : List ℕ → Type 0
AllZero links = (s : ℕ) → entry links s ≡ 0

-- links and points that keep every link which is not 0, and the point that it names
abbrev pub Extends : (ℕ → ℕ) → (ℕ → ℕ) → (ℕ → ℕ) → (ℕ → ℕ) → Type 0
Extends point link point' link' = (s j : ℕ) → link s ≡ suc j → (link' s ≡ suc j) × (point' j ≡ point j)

-- a look-up of x has come to link s at depth d: what is found from the head is found from here, and back, in whatever
-- extends the index
pub record Looking (heads n k : ℕ) (point link : ℕ → ℕ) (x s d : ℕ) : Type 0 where
  pub depth : ℕ → ℕ
  pub indexes : Indexes heads n k point depth link
  pub stands : MayStand heads k point depth x s d
  pub ahead : (j : ℕ) → Finds heads point link x j (head_of heads x) 0 → Finds heads point link x j s d
  pub back : (point' link' : ℕ → ℕ) → Extends point link point' link' → (j : ℕ) → Finds heads point' link' x j s d
      → Finds heads point' link' x j (head_of heads x) 0

-- the same among the first k points of a list, with the value of the link
pub record Seeking (heads n k : ℕ) (points links : List ℕ) (x s d value : ℕ) : Type 0 where
  pub looking : Looking heads n (length (take k points)) (entry (take k points)) (entry links) x s d
  pub read : value ≡ entry links s
  pub small : value < 4294967296

-- a point that is to be looked up in an index of points of n digits, which a point has room for
pub record Askable (heads n : ℕ) (points links : List ℕ) (x : ℕ) : Type 0 where
  pub few : n ≤ point_digits
  pub indexed : Indexed heads n points links
  pub narrow : x < 2 ^ n

-- a point that is to be added behind the first k points: its number fits a link, and there are links for one more
pub record Addable (heads n k : ℕ) (points links : List ℕ) (x : ℕ) : Type 0 where
  pub askable : Askable heads n (take k points) links x
  pub enough : k ≤ length points
  pub small : k + 1 < 4294967296
  pub room : heads + 2 * (k + 1) ≤ length links

-- a look-up of x ended: it tells whether x is among the points; where it is not, the next number at link s adds x, if
-- there is room
pub record Ends (heads n : ℕ) (points links : List ℕ) (x : ℕ) (held : Bool) (s : ℕ) : Type 0 where
  pub tells : held ≡ has x points
  pub free : held ≡ false → heads + 2 * suc (length points) ≤ length links
      → Indexed heads n (points ++ x ∷ []) (set links s (suc (length points)))

-- an addition of x tells whether x was there; then the links stay as they were, else they are an index of the points
-- and x behind them
pub record Adds (heads n : ℕ) (points links : List ℕ) (x : ℕ) (held : Bool) (links' : List ℕ) : Type 0 where
  pub tells : held ≡ has x points
  pub same : held ≡ true → links' ≡ links
  pub grown : held ≡ false → Indexed heads n (points ++ x ∷ []) links'

-- the points that a value of the code's type is an index of
abbrev pub indexed_points : Index → List ℕ
indexed_points i = take i.count (points_of i.points.now)
