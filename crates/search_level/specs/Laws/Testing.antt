-- What the test of a level does: the contracts of `test_level` and of the functions that it calls. Assumes nothing.
use Rattle.std.specs.Prelude.{Option, None, Some, Bool, true, false, List, ◌∷◌, ◌++◌, [], ◌≡◌, ℕ, zero, suc, ◌≤◌, ◌<◌, ltb, length, get_or, take, drop}
use Rattle.points.specs.Points.{Clause, numbered, first_falsified, number_of, Smallest, NoneSatisfies}
use Rattle.formula.specs.Limits.{max_clauses}

-- the number of the clause that a point falsifies first, 0 for none
abbrev pub number_for : List Clause → ℕ → ℕ
number_for clauses x = number_of (first_falsified (numbered clauses) x)

-- the points of the slots of index `at` up to `filled`
abbrev pub between : ℕ → ℕ → List ℕ → List ℕ
between at filled points = drop at (take filled points)

-- Q03.3: "on first taking a point of a new depth (0 included)": whether the slot before is shallower
unfoldable pub opens_at : List ℕ → ℕ → Bool
opens_at depths zero = true
opens_at depths (suc i) = ltb (get_or depths i 0) (get_or depths (suc i) 0)

-- the best of the points l: the smallest that satisfies, where one does
abbrev pub Best : List Clause → List ℕ → Option ℕ → Type 0
Best clauses l (Some x) = Smallest (numbered clauses) l x
Best clauses l None = NoneSatisfies (numbered clauses) l

-- whatever points have the best b₀: with y, whose first falsified clause is `number`, theirs is b
abbrev pub Better : Option ℕ → ℕ → ℕ → Option ℕ → Type 0
Better b₀ y number b = (clauses : List Clause) (l : List ℕ) → number ≡ number_for clauses y
    → Best clauses l b₀ → Best clauses (l ++ y ∷ []) b

-- `found` has the number for the point of index i
abbrev pub NumberFound : List Clause → List ℕ → List ℕ → ℕ → Type 0
NumberFound clauses points found i = get_or found i 0 ≡ number_for clauses (get_or points i 0)

-- such slots lie within the slices, with room for a number each
pub record Testable (clauses : List Clause) (points found : List ℕ) (at filled : ℕ) : Type 0 where
  pub few_clauses_lem : length clauses ≤ max_clauses
  pub ordered : at ≤ filled
  pub enough : filled ≤ length points
  pub room : filled ≤ length found

-- the slots of index `at` up to i are tested
pub record Scans (clauses : List Clause) (points : List ℕ) (at i : ℕ) (b : Option ℕ) (found : List ℕ) : Type 0 where
  pub best : Best clauses (between at i points) b
  pub numbers : (k : ℕ) → at ≤ k → k < i → NumberFound clauses points found k

-- the numbers at hand before the slot of index `at` is taken: those of the waiting slots that are no deeper than a
-- processed one
abbrev pub Found : List Clause → List ℕ → List ℕ → ℕ → ℕ → List ℕ → Type 0
Found clauses points depths at filled found = (k j : ℕ) → j < at → at ≤ k → k < filled
    → get_or depths k 0 ≤ get_or depths j 0 → NumberFound clauses points found k

-- a level is tested, if it is new, and the numbers at hand then are those of all waiting slots that are no deeper than
-- the slot that is taken
pub record Tests (clauses : List Clause) (points depths : List ℕ) (at filled : ℕ) (b : Option ℕ)
    (found : List ℕ) : Type 0 where
  pub opened : opens_at depths at ≡ true → Best clauses (between at filled points) b
  pub unopened : opens_at depths at ≡ false → b ≡ None
  pub numbers : (k : ℕ) → at ≤ k → k < filled → get_or depths k 0 ≤ get_or depths at 0 → NumberFound clauses points found k
