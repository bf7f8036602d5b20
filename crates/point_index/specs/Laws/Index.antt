-- A digital search tree over points, in one list of links: first the heads, then two links for each point. A link is 0,
-- or 1 more than the number of a point, numbered from 0. A point at depth d has the d lowest digits of every point
-- below it, so that no path is longer than points have digits. Assumes nothing.
use Rattle.std.specs.Prelude.{Bool, true, false, List, ◌≡◌, ℕ, suc, ◌+◌, ◌*◌, ◌/◌, ◌%◌, ◌^◌, ◌≤◌, ◌<◌, length, get_or}
use Rattle.math.specs.Bits.{bit}

-- a hash of a point, below 2^32: a product of each half, of whose lowest 32 digits the highest depend on all of it
unfoldable pub hash_of : ℕ → ℕ
hash_of x = (x % 4294967296 * 1640531527 + x / 4294967296 * 1779033703) % 4294967296

-- so many heads an index may have: one at least, and no more than there are hashes
abbrev pub HasHeads : ℕ → Type 0
HasHeads heads = (1 ≤ heads) × (heads ≤ 4294967296)

-- the head link of a point: its hash, brought below the number of heads
unfoldable pub head_of : ℕ → ℕ → ℕ
unfolding hash_of
head_of heads x = hash_of x * heads / 4294967296

-- the link of point j for one digit: two for each point, behind the heads
unfoldable pub child_of : ℕ → ℕ → Bool → ℕ
child_of heads j false = heads + 2 * j
child_of heads j true = heads + 2 * j + 1

-- two points have the same d lowest digits
abbrev pub Agree : ℕ → ℕ → ℕ → Type 0
Agree d x y = (i : ℕ) → i < d → bit x i ≡ bit y i

-- the entry of an index, 0 past the end: a point of its number, the value of a link
abbrev pub entry : List ℕ → ℕ → ℕ
entry l i = get_or l i 0

-- a point x may stand at link s, at depth d: at its own head, or at its side of one of the k points, whose lowest
-- digits it has
pub data MayStand (heads k : ℕ) (point depth : ℕ → ℕ) (x s d : ℕ) : Type 0 where
  at_head : s ≡ head_of heads x → d ≡ 0 → MayStand heads k point depth x s d
  at-child : (j : ℕ) → j < k → s ≡ child_of heads j (bit x (depth j)) → d ≡ suc (depth j) → Agree (depth j) x (point j)
      → MayStand heads k point depth x s d

-- a look-up of x at link s and depth d ends at point j
pub data Finds (heads : ℕ) (point link : ℕ → ℕ) (x j : ℕ) : ℕ → ℕ → Type 0 where
  found_here : {s d : ℕ} → link s ≡ suc j → point j ≡ x → Finds heads point link x j s d
  found_below : {s d : ℕ} (i : ℕ) → link s ≡ suc i → (point i ≡ x → ⊥)
      → Finds heads point link x j (child_of heads i (bit x d)) (suc d) → Finds heads point link x j s d

-- the links hold the k points, each at its depth: whatever a link names may stand there, and every point is found
pub record Indexes (heads n k : ℕ) (point depth link : ℕ → ℕ) : Type 0 where
  pub stands : (s j : ℕ) → link s ≡ suc j → (j < k) × MayStand heads k point depth (point j) s (depth j)
  pub finds : (j : ℕ) → j < k → Finds heads point link (point j) j (head_of heads (point j)) 0
  pub narrow : (j : ℕ) → j < k → point j < 2 ^ n

-- the links are an index of these points of n digits, at some depths
pub record Indexed (heads n : ℕ) (points links : List ℕ) : Type 0 where
  pub headed : HasHeads heads
  pub room : heads + 2 * length points ≤ length links
  pub depth : ℕ → ℕ
  pub indexes : Indexes heads n (length points) (entry points) depth (entry links)
