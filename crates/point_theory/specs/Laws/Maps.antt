-- What the theory asks of a map of points, over any n and any notion of satisfaction, and what a set covers through a
-- list of such maps. Definitions alone. Assumes nothing.
use Rattle.std.specs.Prelude.{List, ◌≡◌, ℕ, ◌<◌, ◌^◌}
use Rattle.math.specs.Lists.{◌∈◌}
use Rattle.points.specs.Points.{distance}

-- a map of points that keeps distances and takes satisfying points to satisfying points: the theory uses these facts
-- and no more
pub record Automorphism (n : ℕ) (Sat : ℕ → Type 0) (f : ℕ → ℕ) : Type 0 where
  pub within : (x : ℕ) → x < 2 ^ n → f x < 2 ^ n
  pub isometric : (x y : ℕ) → x < 2 ^ n → y < 2 ^ n → distance n (f x) (f y) ≡ distance n x y
  pub satisfying : (x : ℕ) → x < 2 ^ n → Sat x → Sat (f x)

-- every map of a list is such a map
abbrev pub Automorphisms : ℕ → (ℕ → Type 0) → List (ℕ → ℕ) → Type 0
Automorphisms n Sat fs = (f : ℕ → ℕ) → f ∈ fs → Automorphism n Sat f

-- "A choice is covered by a set if it or its image under one listed exchange is in the set.": the set is P, the images
-- are those of a list of maps
pub data CoveredBy (fs : List (ℕ → ℕ)) (P : ℕ → Type 0) (x : ℕ) : Type 0 where
  in_set : P x → CoveredBy fs P x
  through : (f : ℕ → ℕ) → f ∈ fs → P (f x) → CoveredBy fs P x
