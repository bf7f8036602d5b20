-- What every state of the search satisfies, and what is asked of the problem that is searched. Definitions alone;
-- InvariantLaws, ExpansionLaws and Ends show that they hold at the start and are kept, to the end. Assumes nothing.
use Rattle.std.specs.Prelude.{List, [], ◌∷◌, ◌++◌, map, ◌≡◌, ℕ, suc, ◌+◌, ◌≤◌, ◌<◌, ◌^◌, length, get_or}
use Rattle.math.specs.Bits.{flip}
use Rattle.math.specs.Lists.{◌∈◌, Distinct}
use Rattle.points.specs.Points.{distance, variables, Numbered, SatisfiesAll, FirstFalsified, Smallest, NoneSatisfies}
use Rattle.permutation_theory.specs.Permutations.{Permutation, image_of_point}
use Rattle.point_theory.specs.Laws.Maps.{Automorphism, CoveredBy}
use Rattle.point_theory.specs.Laws.Notions.{ClausesBelow}
use Rattle.formula.specs.Problem.{Problem}
use Rattle.formula.specs.Reply.{Reply, satisfiable, unsatisfiable, unknown}
use Rattle.search_theory.specs.Walk.{Slot, slot, points_in, with_number, full, Fills, tested}

-- ---- the problem

-- "In the mission an accepted sheet is one that neither reader nor builder refuses": what is used of it. Of a
-- permutation that is that it keeps distances and takes satisfying points to satisfying points, and no more
pub record Ready (pb : Problem) : Type 0 where
  pub target_below : pb.target < 2 ^ pb.variables
  pub clauses-below : ClausesBelow pb.variables pb.clauses
  pub symmetric : (e : Permutation) → e ∈ pb.permutations
      → Automorphism pb.variables (SatisfiesAll pb.clauses) (image_of_point e)

-- the maps of points that the permutations are
abbrev pub maps : Problem → List (ℕ → ℕ)
maps pb = map image_of_point pb.permutations

-- ---- slots

-- the slot of index i, from 0
abbrev pub slot_at : List Slot → ℕ → Slot
slot_at l i = get_or l i (slot 0 0 0)

-- "its rule is the lowest-numbered one unmet; that number goes into its slot": the slot q has the number of the clause
-- that its point falsifies first
pub record Moved (pb : Problem) (q : Slot) : Type 0 where
  pub clause : Numbered
  pub first : FirstFalsified pb.clauses q.point clause
  pub number : q.falsified ≡ clause.number

-- "For each name listed there, .. the point with that name flipped .. fills the next slot with .. depth one more": t
-- was filled from q
pub record Parent (pb : Problem) (q t : Slot) : Type 0 where
  pub moved : Moved pb q
  pub variable : ℕ
  pub listed : variable ∈ variables pb.variables moved.clause.clause
  pub flipped : t.point ≡ flip q.point variable
  pub deeper : t.depth ≡ suc q.depth

-- the point y stands in a slot of the list that is no deeper than k
pub record Held (l : List Slot) (k y : ℕ) : Type 0 where
  pub holder : Slot
  pub among : holder ∈ l
  pub point : holder.point ≡ y
  pub shallow : holder.depth ≤ k

-- the slot q is processed: each flip of a variable of its clause is covered by the filled slots, l, one deeper at the
-- most
pub record Processed (pb : Problem) (l : List Slot) (q : Slot) : Type 0 where
  pub moved : Moved pb q
  pub flips : (v : ℕ) → v ∈ variables pb.variables moved.clause.clause
      → CoveredBy (maps pb) (Held l (suc q.depth)) (flip q.point v)

-- ---- the filled slots, whichever of them are processed

pub record Filled (pb : Problem) (capacity : ℕ) (l : List Slot) : Type 0 where
  pub nonempty : 1 ≤ length l
  pub begins : (slot_at l 0).point ≡ pb.target
  pub room : length l ≤ capacity
  pub below : (t : Slot) → t ∈ l → t.point < 2 ^ pb.variables
  pub distinct : Distinct (points_in l)
  -- T2: what is lost where the image is stored in place of the flipped point
  pub near : (t : Slot) → t ∈ l → distance pb.variables t.point pb.target ≤ t.depth
  -- T1: what is lost where the newest point is taken
  pub ascending : (i j : ℕ) → i ≤ j → j < length l → (slot_at l i).depth ≤ (slot_at l j).depth
  pub depth_index : (i : ℕ) → i < length l → (slot_at l i).depth ≤ i

-- t, the slot of index i, has a parent before it, among the first k slots
pub record Child (pb : Problem) (l : List Slot) (k i : ℕ) (t : Slot) : Type 0 where
  pub index : ℕ
  pub earlier : index < i
  pub done : index < k
  pub parent : Parent pb (slot_at l index) t

-- each slot but the first has a parent, one of the first k slots, which are the processed ones
abbrev pub Family : Problem → List Slot → ℕ → Type 0
Family pb l k = (i : ℕ) → i < length l → 1 ≤ i → Child pb l k i (slot_at l i)

-- ---- the state: the slots p are processed, the slots w wait

pub record Invariants (pb : Problem) (capacity : ℕ) (p w : List Slot) : Type 0 where
  pub filled : Filled pb capacity (p ++ w)
  pub processed : (q : Slot) → q ∈ p → Processed pb (p ++ w) q
  pub family : Family pb (p ++ w) (length p)
  pub unnumbered : (t : Slot) → t ∈ w → t.falsified ≡ 0
  -- with `ascending`: no waiting slot is more than one deeper than the first of them
  pub level : (s t : Slot) → s ∈ w → t ∈ w → t.depth ≤ suc s.depth
  -- a waiting slot that is no deeper than a processed one was tested, and does not satisfy
  pub failed : (q t : Slot) → q ∈ p → t ∈ w → t.depth ≤ q.depth → SatisfiesAll pb.clauses t.point → ⊥

-- ---- between two states: the flips of the slot q, the last of those known, are filled one by one

pub record Expanding (pb : Problem) (capacity : ℕ) (known : List Slot) (q : Slot) (w : List Slot) : Type 0 where
  pub filled : Filled pb capacity (known ++ w)
  pub family : Family pb (known ++ w) (length known)
  pub unnumbered : (t : Slot) → t ∈ w → t.falsified ≡ 0
  pub among : q ∈ known
  pub settled : (t : Slot) → t ∈ known → t.depth ≤ q.depth
  pub next : (t : Slot) → t ∈ w → (q.depth ≤ t.depth) × (t.depth ≤ suc q.depth)

-- ---- the measure

-- one of the slots w stands so near to a point of the set S that its depth and that distance together are at most k
pub record Ahead (pb : Problem) (S : ℕ → Type 0) (w : List Slot) (k : ℕ) : Type 0 where
  pub ahead : Slot
  pub among : ahead ∈ w
  pub solution : ℕ
  pub within : solution < 2 ^ pb.variables
  pub inside : S solution
  pub reaches : ahead.depth + distance pb.variables ahead.point solution ≤ k

-- ---- how a search ends

-- the answer r, with the slots l, is the next step from a state that satisfies the invariants
pub data Ended (pb : Problem) (capacity : ℕ) : Reply → List Slot → Type 0 where
  exhausted : {p : List Slot} → Invariants pb capacity p [] → Ended pb capacity (unsatisfiable (length p)) p
  reached : {p w : List Slot} {s : Slot} {x : ℕ} → Invariants pb capacity p (s ∷ w)
      → Smallest pb.clauses (tested p s w) x
      → Ended pb capacity (satisfiable x (distance pb.variables x pb.target) (length (p ++ s ∷ w))) (p ++ s ∷ w)
  blocked : {p w u : List Slot} {s : Slot} {c : Numbered} → Invariants pb capacity p (s ∷ w)
      → NoneSatisfies pb.clauses (tested p s w) → FirstFalsified pb.clauses s.point c
      → Fills pb.permutations capacity (p ++ with_number s c ∷ []) s.point s.depth
      (variables pb.variables c.clause) w (full u)
      → Ended pb capacity (unknown (suc s.depth) (length ((p ++ with_number s c ∷ []) ++ u)))
      ((p ++ with_number s c ∷ []) ++ u)
