-- Document 01, 'Walk', as request 2026-03 has it: the search over a problem and a number of slots, first as a sentence
-- (Walks), then computed (walk). Slots stand in two lists, those processed and those that wait, each oldest first.
-- Assumes nothing.
use Rattle.std.specs.Prelude.{Bool, true, false, cond, eqb, ltb, length}
use mathlib.Core.List.{List, [], ◌∷◌, ◌++◌, map}
use Rattle.std.proofs.Math.Option.{Option, some, none}
use Prim.Native.Nat.{ℕ, zero, suc, ◌≤◌, ◌<◌}
use Rattle.math.specs.Bits.{flip, bit}
use Rattle.math.specs.Lists.{all, select}
use Rattle.points.specs.Points.{distance, variables, Numbered, FirstFalsified, first_falsified}
use Rattle.points.specs.Points.{Smallest, NoneSatisfies, smallest}
use Rattle.permutation_theory.specs.Permutations.{Permutation, Covered, covered}
use Rattle.formula.specs.Problem.{Problem}
use Rattle.formula.specs.Reply.{Reply, satisfiable, unsatisfiable, unknown}

-- W1: "Each slot holds a point, the rule that moved it and its depth": the clause is the one that the point falsifies,
-- 0 while unprocessed
pub record Slot : Type 0 where
  pub point : ℕ
  pub falsified : ℕ
  pub depth : ℕ

abbrev pub slot : ℕ → ℕ → ℕ → Slot
slot x k d = record { point = x; falsified = k; depth = d }

abbrev pub points_in : List Slot → List ℕ
points_in l = map (λ (s : Slot). s.point) l

-- W6: "that number goes into its slot first"
abbrev pub with_number : Slot → Numbered → Slot
with_number s c = slot s.point c.number s.depth

-- the filled slots: those processed, and those that wait
pub record State : Type 0 where
  pub processed : List Slot
  pub waiting : List Slot

abbrev pub state : List Slot → List Slot → State
state p w = record { processed = p; waiting = w }

abbrev pub filled : State → List Slot
filled st = st.processed ++ st.waiting

-- W3: "Slot 1 gets the wish, rule 0, depth 0."
abbrev pub start : Problem → State
start pb = state [] (slot pb.target 0 0 ∷ [])

-- ---- the flips of one point

-- all flips are covered or filled, with the slots that now wait; or one found no room
pub data Expansion : Type 0 where
  complete : List Slot → Expansion
  full : List Slot → Expansion

-- `known` are the processed slots, the last of them that of the point x at depth d
module _ (es : List Permutation) (capacity : ℕ) (known : List Slot) (x d : ℕ) where
  -- W7: "the point with that name flipped .. fills the next slot with rule 0 and depth one more": the slot of a flip y,
  -- behind those that wait
  abbrev pub filled_by : ℕ → Slot
  filled_by y = slot y 0 (suc d)

  abbrev pub queued : List Slot → Slot → List Slot
  queued w t = w ++ t ∷ []

  -- W7: "For each name listed there, ascending, the point with that name flipped, if not covered by the filled slots,
  -- fills the next slot with rule 0 and depth one more." W8: "If P are filled already: answer no room"
  pub data Fills : List ℕ → List Slot → Expansion → Type 0 where
    no_more : {w : List Slot} → Fills [] w (complete w)
    skipped : {v : ℕ} {vs : List ℕ} {w : List Slot} {r : Expansion} → Covered es (points_in (known ++ w)) (flip x v)
        → Fills vs w r → Fills (v ∷ vs) w r
    filled_next : {v : ℕ} {vs : List ℕ} {w : List Slot} {r : Expansion}
        → (Covered es (points_in (known ++ w)) (flip x v) → ⊥)
        → length (known ++ w) < capacity → Fills vs (queued w (filled_by (flip x v))) r → Fills (v ∷ vs) w r
    no_room : {v : ℕ} {vs : List ℕ} {w : List Slot} → (Covered es (points_in (known ++ w)) (flip x v) → ⊥)
        → capacity ≤ length (known ++ w) → Fills (v ∷ vs) w (full w)

  -- the same, computed: a flip y, from whether it is covered and whether there is room
  unfoldable pub placed : Bool → Bool → ℕ → List Slot → Expansion
  placed true enough y w = complete w
  placed false true y w = complete (queued w (filled_by y))
  placed false false y w = full w

  unfoldable pub try_flip : ℕ → Expansion → Expansion
  unfolding placed covered flip
  try_flip v (complete w) = placed (covered es (points_in (known ++ w)) (flip x v)) (ltb (length (known ++ w)) capacity)
      (flip x v) w
  try_flip v (full w) = full w

  unfoldable pub expand : List ℕ → Expansion → Expansion
  unfolding try_flip
  expand [] r = r
  expand (v ∷ vs) r = expand vs (try_flip v r)

-- ---- the points that are tested

-- Q03.3: "on first taking a point of a new depth (0 included)": every processed slot is shallower than s
unfoldable pub opens : List Slot → Slot → Bool
unfolding all
opens p s = all (λ (t : Slot). ltb t.depth s.depth) p

-- the slots that are as deep as s
abbrev pub as_deep : Slot → List Slot → List Slot
as_deep s l = select (λ (t : Slot). eqb t.depth s.depth) l

-- Q03.3: "tests all unprocessed points of that depth before it processes any"; where the depth is not new its points
-- were tested before: the point taken alone
unfoldable pub tested : List Slot → Slot → List Slot → List ℕ
unfolding opens select
tested p s w = points_in (cond (opens p s) (as_deep s (s ∷ w)) (s ∷ []))

-- ---- the search

module _ (pb : Problem) (capacity : ℕ) where
  -- W4: "Then repeatedly the oldest slot not yet processed is taken": from a state the search answers r and leaves
  -- these slots filled
  pub data Walks : State → Reply → List Slot → Type 0 where
    -- W9: "None left: answer cannot be met, with slots filled."
    none_left : {p : List Slot} → Walks (state p []) (unsatisfiable (length p)) p
    -- Q03.2: "Among the nearest choices in the slots the one smallest as a number is now handed back.": of the points
    -- tested. W5: "answer met .., with the choice, its changes .. and the number of slots filled"
    met : {p w : List Slot} {s : Slot} {x : ℕ} → Smallest pb.clauses (tested p s w) x
        → Walks (state p (s ∷ w)) (satisfiable x (distance pb.variables x pb.target) (length (p ++ s ∷ w)))
        (p ++ s ∷ w)
    -- W6: "otherwise its rule is the lowest-numbered one unmet; that number goes into its slot first, and stays there
    -- on 'no room'."
    -- Q03.4: "On 'no room' the number carried is the depth being processed plus one"
    stuck : {p w w' : List Slot} {s : Slot} {c : Numbered} → NoneSatisfies pb.clauses (tested p s w)
        → FirstFalsified pb.clauses s.point c
        → Fills pb.permutations capacity (p ++ with_number s c ∷ []) s.point s.depth
        (variables pb.variables c.clause) w (full w')
        → Walks (state p (s ∷ w)) (unknown (suc s.depth) (length ((p ++ with_number s c ∷ []) ++ w')))
        ((p ++ with_number s c ∷ []) ++ w')
    goes_on : {p w w' : List Slot} {s : Slot} {c : Numbered} {r : Reply} {l : List Slot}
        → NoneSatisfies pb.clauses (tested p s w) → FirstFalsified pb.clauses s.point c
        → Fills pb.permutations capacity (p ++ with_number s c ∷ []) s.point s.depth
        (variables pb.variables c.clause) w (complete w')
        → Walks (state (p ++ with_number s c ∷ []) w') r l → Walks (state p (s ∷ w)) r l

  -- the same, computed: one step ends with an answer and the slots, or leads to a state
  pub data Stepped : Type 0 where
    ends : Reply → List Slot → Stepped
    goes : State → Stepped

  unfoldable pub expanded : List Slot → ℕ → Expansion → Stepped
  expanded known d (complete w) = goes (state known w)
  expanded known d (full w) = ends (unknown (suc d) (length (known ++ w))) (known ++ w)

  -- the point x is the answer, with the slots l filled
  unfoldable pub answers : ℕ → List Slot → Stepped
  unfolding distance bit
  answers x l = ends (satisfiable x (distance pb.variables x pb.target) (length l)) l

  -- a slot, from the clause that its point falsifies first; there is one, as it is among the points tested
  unfoldable pub processed_by : List Slot → Slot → List Slot → Option Numbered → Stepped
  unfolding answers expanded expand variables
  processed_by p s w none = answers s.point (p ++ s ∷ w)
  processed_by p s w (some c) =
      let known = p ++ with_number s c ∷ [] in
      expanded known s.depth (expand pb.permutations capacity known s.point s.depth
      (variables pb.variables c.clause) (complete w))

  -- a slot, from the smallest of the points tested that satisfies, if any
  unfoldable pub tested_by : List Slot → Slot → List Slot → Option ℕ → Stepped
  unfolding answers processed_by first_falsified
  tested_by p s w (some x) = answers x (p ++ s ∷ w)
  tested_by p s w none = processed_by p s w (first_falsified pb.clauses s.point)

  unfoldable pub step_from : List Slot → List Slot → Stepped
  unfolding tested_by smallest tested
  step_from p [] = ends (unsatisfiable (length p)) p
  step_from p (s ∷ w) = tested_by p s w (smallest pb.clauses (tested p s w))

  -- an answer, and the slots as the search leaves them
  pub record Ending : Type 0 where
    pub reply : Reply
    pub slots : List Slot

  -- a step's end, or what comes of the state that it leads to
  unfoldable pub followed : Stepped → (State → Ending) → Ending
  followed (ends r l) k = record { reply = r; slots = l }
  followed (goes st) k = k st

  -- at most so many steps; each but the last processes a slot, so one more than the slots is enough and 0 is never
  -- reached
  unfoldable pub walk : ℕ → State → Ending
  unfolding followed step_from
  walk zero st = record { reply = unknown 0 0; slots = filled st }
  walk (suc k) st = followed (step_from st.processed st.waiting) (λ q. walk k q)

  -- the search from the target
  unfoldable pub walked : Ending
  unfolding walk
  walked = walk (suc capacity) (start pb)
