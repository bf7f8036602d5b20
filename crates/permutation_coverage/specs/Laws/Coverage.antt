-- What lets a flipped point and its images be looked up in an index. Assumes nothing.
use Rattle.std.specs.Bool.{xor}
use Rattle.std.specs.Prelude.{List, map, ◌≡◌, ℕ, ◌+◌, ◌*◌, ◌≤◌, ◌<◌, ◌^◌, length, get_or, take, drop}
use Rattle.std.specs.Int.Bits.{bit_xor}
use Rattle.math.specs.Bits.{bit}
use Rattle.math.specs.Lists.{◌∈◌, over}
use Rattle.points.specs.Points.{point_digits}
use Rattle.points.specs.Laws.Contracts.{NextVariable}
use Rattle.permutation_theory.specs.Permutations.{Permutation, IsPermutation, image_of_point, permutations_in}
use Rattle.permutation_images.specs.Laws.Contracts.{Listed, Movable, Fixes}
use Rattle.point_index.specs.Laws.Looking.{Askable}

-- the images of x under the permutations, in their order
abbrev pub images_of : List Permutation → ℕ → List ℕ
images_of es x = map (λ (e : Permutation). image_of_point e x) es

-- the images hold `permutations` permutations of n variables, which a point has digits for
pub record Permuting (n permutations : ℕ) (images : List ℕ) : Type 0 where
  pub few : n ≤ point_digits
  pub listed : Listed n permutations images
  pub proper : (e : Permutation) → e ∈ permutations_in n permutations images → IsPermutation n e

-- `moved` has the images of x, a point of n digits
pub record Imaged (n permutations : ℕ) (images : List ℕ) (x : ℕ) (moved : List ℕ) : Type 0 where
  pub enough : permutations ≤ length moved
  pub narrow : x < 2 ^ n
  pub imaged : take permutations moved ≡ images_of (permutations_in n permutations images) x

-- the links are an index of the first k points, all of n digits as x is, and `moved` has the images of x
pub record Coverable (heads n k : ℕ) (points links : List ℕ) (permutations : ℕ) (images moved : List ℕ) (x : ℕ) : Type 0
  where
    pub askable : Askable heads n (take k points) links x
    pub permuting : Permuting n permutations images
    pub imaged : take permutations moved ≡ images_of (permutations_in n permutations images) x

-- what was the images of some point is those of the point that differs from it in the variables of s
abbrev pub Turns : ℕ → ℕ → List ℕ → ℕ → List ℕ → List ℕ → Type 0
Turns n permutations images s old new = (x : ℕ)
    → take permutations old ≡ images_of (permutations_in n permutations images) x
    → take permutations new ≡ images_of (permutations_in n permutations images) (bit_xor x s)

-- before index i the images are turned, whichever the point is; those from i on are as they were
pub record Turning (n permutations : ℕ) (images : List ℕ) (s : ℕ) (old : List ℕ) (i : ℕ) (moved : List ℕ) : Type 0 where
  pub lengths : length moved ≡ length old
  pub turned : (x : ℕ) → take permutations old ≡ images_of (permutations_in n permutations images) x
      → moved ≡ over (take i (images_of (permutations_in n permutations images) (bit_xor x s))) old
  pub rest : (j : ℕ) → i ≤ j → get_or moved j 0 ≡ get_or old j 0

-- `moved` has the images of a point of n digits, which differs from y in the variables of `left`, v the lowest of them
pub record Moving (n permutations : ℕ) (images : List ℕ) (y left v : ℕ) (moved : List ℕ) : Type 0 where
  pub reached : ℕ
  pub narrow : reached < 2 ^ n
  pub within : left < 2 ^ n
  pub next : NextVariable left v
  pub differ : (i : ℕ) → bit left i ≡ xor (bit reached i) (bit y i)
  pub imaged : take permutations moved ≡ images_of (permutations_in n permutations images) reached

-- v is a digit of a point, and its byte in permutation i is there and is the number of one
pub record Sends (n i v : ℕ) (images : List ℕ) : Type 0 where
  pub within : v < point_digits
  pub room : i * n + v < length images
  pub low : 1 ≤ get_or images (i * n + v) 0
  pub high : get_or images (i * n + v) 0 ≤ point_digits

-- the numbers of the permutation of index i
abbrev pub numbers_at : ℕ → ℕ → List ℕ → List ℕ
numbers_at n i images = take n (drop (i * n) images)

-- permutation i is there, and sends each variable of the set at index i to itself
pub record Stays (n i : ℕ) (images stay : List ℕ) : Type 0 where
  pub room : i * n + n ≤ length images
  pub movable : Movable (numbers_at n i images)
  pub still : Fixes (numbers_at n i images) (length (numbers_at n i images)) (get_or stay i 0)

-- each of the first k permutations sends the variables of its set to themselves
pub record Staying (n k : ℕ) (images stay : List ℕ) : Type 0 where
  pub still : (i : ℕ) → i < k → Fixes (numbers_at n i images) (length (numbers_at n i images)) (get_or stay i 0)

-- what a call says of index i and the image there of some point is that of the point that differs from it in the
-- variables of s, as far as the first k permutations go
abbrev pub Changes : ℕ → ℕ → List ℕ → ℕ → (ℕ → ℕ → ℕ → Type 0) → Type 0
Changes n k images s says = (i image new : ℕ) → i < k → says i image new
    → new ≡ bit_xor image (image_of_point (record { images = numbers_at n i images }) s)
