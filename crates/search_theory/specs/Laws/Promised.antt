-- What the answers of the search promise. Definitions alone; Nearest, Smallest, Complete, Bound and Closed show that
-- they hold. Assumes nothing.
use Rattle.std.specs.Prelude.{List, ◌≡◌, ℕ, ◌≤◌, ◌<◌, ◌^◌, length}
use Rattle.math.specs.Bits.{flip}
use Rattle.math.specs.Lists.{◌∈◌, Distinct}
use Rattle.points.specs.Points.{distance, variables, SatisfiesAll}
use Rattle.permutation_theory.specs.Permutations.{Covered}
use Rattle.formula.specs.Problem.{Problem}
use Rattle.formula.specs.Reply.{Reply, refused, satisfiable, unsatisfiable, unknown, parsed, written, opened, accepted}
use Rattle.search_theory.specs.Laws.Invariants.{Moved}
use Rattle.search_theory.specs.Walk.{Slot, points_in}

-- D3.7: "every choice that meets the rules differs from the wish in at least d names"
abbrev pub LowerBound : Problem → ℕ → Type 0
LowerBound pb d = (y : ℕ) → y < 2 ^ pb.variables → SatisfiesAll pb.clauses y
    → d ≤ distance pb.variables y pb.target

-- D3.1: "A choice handed back meets the rules, and every other choice that meets them differs from the client's wish in
-- at least as many names."
pub record Nearest (pb : Problem) (x d : ℕ) : Type 0 where
  pub within : x < 2 ^ pb.variables
  pub satisfying : SatisfiesAll pb.clauses x
  -- D3.2: "The reported changes are the number of names in which the one handed back differs."
  pub changes : d ≡ distance pb.variables x pb.target
  pub nearest : LowerBound pb d

-- Q03.2: "Among the nearest choices in the slots the one smallest as a number is now handed back."
abbrev pub SmallestFilled : Problem → List Slot → ℕ → ℕ → Type 0
SmallestFilled pb l x d = (t : Slot) → t ∈ l → SatisfiesAll pb.clauses t.point
    → distance pb.variables t.point pb.target ≡ d → x ≤ t.point

-- Q03.6: "Without exchanges a choice handed back is the smallest of all nearest choices on the whole sheet."
abbrev pub SmallestNearest : Problem → ℕ → ℕ → Type 0
SmallestNearest pb x d = (y : ℕ) → y < 2 ^ pb.variables → SatisfiesAll pb.clauses y
    → distance pb.variables y pb.target ≡ d → x ≤ y

-- the slot of the point handed back: "its slot's rule stays 0", and its depth is its distance
pub record HandedBack (l : List Slot) (x d : ℕ) : Type 0 where
  pub holder : Slot
  pub among : holder ∈ l
  pub point : holder.point ≡ x
  pub unnumbered : holder.falsified ≡ 0
  pub depth : holder.depth ≡ d

-- "each point fails its rule, and each point got by flipping a name of that rule is covered by the points": the slot t
-- among the slots l
pub record Settled (pb : Problem) (l : List Slot) (t : Slot) : Type 0 where
  pub moved : Moved pb t
  pub flips : (v : ℕ) → v ∈ variables pb.variables moved.clause.clause
      → Covered pb.permutations (points_in l) (flip t.point v)

-- the slots l are a stable set: what a certificate is made of
pub record ClosedSlots (pb : Problem) (l : List Slot) : Type 0 where
  pub nonempty : 1 ≤ length l
  pub below : (t : Slot) → t ∈ l → t.point < 2 ^ pb.variables
  pub distinct : Distinct (points_in l)
  pub settled : (t : Slot) → t ∈ l → Settled pb l t

-- "with .. the number of slots filled": the number that an answer of the search carries
abbrev pub reported : Reply → ℕ
reported (satisfiable x d filled) = filled
reported (unsatisfiable filled) = filled
reported (unknown b filled) = filled
reported (refused code place) = 0
reported parsed = 0
reported (written size) = 0
reported opened = 0
reported accepted = 0
