-- What one step of the search does to the memory: the contract of `process`.
-- Assumes nothing.
use Rattle.std.specs.Prelude.{◌≡◌, Result, Ok, Err, List, ◌∷◌, ◌++◌, ℕ, ◌+◌, ◌*◌, ◌≤◌, ◌<◌, length, get_or}
use Rattle.points.specs.Points.{Clause, numbered, NoneSatisfies}
use Rattle.permutation_coverage.specs.Laws.Coverage.{Permuting, Imaged}
use Rattle.formula.specs.Limits.{max_variables, max_clauses, max_permutations, max_slots}
use Rattle.formula.specs.Problem.{Problem}
use Rattle.formula.specs.Reply.{Reply}
use Rattle.search_step.specs.declared.Conclusion.{Conclusion}
use Rattle.search_step.specs.Conclusions.{reply_of_conclusion}
use Rattle.search_expansion.specs.declared.Frame.{Frame}
use Rattle.search_level.specs.declared.Position.{Position}
use Rattle.search_level.specs.Laws.Testing.{number_for}
use Rattle.search_step.specs.declared.Turn.{Turn}
use Rattle.search_expansion.specs.Laws.Filling.{listed_in, SlotsIndexed, Headed}
use Rattle.point_slices.specs.Slices.{SlotSlices}
use Rattle.search_expansion.specs.Laws.Memory.{Holds, Lends}
use Rattle.search_theory.specs.Laws.Invariants.{Ready, Invariants}
use Rattle.search_theory.specs.Walk.{Slot, state, tested, Walks}

-- the problem that the frame and the clauses make
abbrev pub framed : Frame → List Clause → Problem
framed g clauses =
    record {
      variables = g.permutations.variables;
      total = length clauses;
      target = g.target;
      permutations = listed_in g;
      clauses = numbered clauses;
    }

-- what is known of it once refusals 10 to 13 have passed
pub record Searchable (g : Frame) (clauses : List Clause) : Type 0 where
  pub few : g.permutations.variables ≤ max_variables
  pub few_permutations_lem : g.permutations.count ≤ max_permutations
  pub permuting : Permuting g.permutations.variables g.permutations.count g.permutations.images.now
  pub few_clauses_lem : length clauses ≤ max_clauses
  pub ready : Ready (framed g clauses)
  pub some : 1 ≤ g.room
  pub most : g.room ≤ max_slots

-- the links are an index of the points of the slots filled, with two links for each head
pub record Linked (g : Frame) (slots : SlotSlices) (links : List ℕ) (filled : ℕ) : Type 0 where
  pub indexed : SlotsIndexed g slots links filled
  pub linked : length links ≡ g.heads + 2 * g.heads

-- where the step goes on, the links are an index of the points of those filled then
abbrev pub StillLinked : Frame → SlotSlices → List ℕ → Result ℕ Conclusion → Type 0
StillLinked g slots links (Err a) = Unit {0}
StillLinked g slots links (Ok filled) = SlotsIndexed g slots links filled

-- a position: the slot of index i is next, `filled` slots are filled
abbrev pub position : ℕ → ℕ → Position
position i filled = record { at = i; filled = filled }

-- the point of the slot that is next
abbrev pub next_point : SlotSlices → Position → ℕ
next_point slots q = get_or slots.points q.at 0

-- `moved` has the images of that point
abbrev pub Next : Frame → SlotSlices → List ℕ → Position → Type 0
Next g slots moved q =
    Imaged g.permutations.variables g.permutations.count g.permutations.images.now (next_point slots q) moved

-- m has the points and depths that m₀ has in the slots filled, and every slot filled since is deeper than the one
-- that is next there
pub record Kept (m₀ : SlotSlices) (q : Position) (filled : ℕ) (m : SlotSlices) : Type 0 where
  pub points : (i : ℕ) → i < q.filled → get_or m.points i 0 ≡ get_or m₀.points i 0
  pub depths : (i : ℕ) → i < q.filled → get_or m.depths i 0 ≡ get_or m₀.depths i 0
  pub deeper : (i : ℕ) → q.filled ≤ i → i < filled → get_or m₀.depths q.at 0 < get_or m.depths i 0

-- where the step goes on
abbrev pub StillThere : SlotSlices → Position → Result ℕ Conclusion → SlotSlices → Type 0
StillThere m₀ q (Err a) m = Unit {0}
StillThere m₀ q (Ok filled) m = Kept m₀ q filled m

module _ (pb : Problem) (capacity : ℕ) where
  -- the search has come to the position q: in front of what `old` has, m holds the processed slots p, and the waiting
  -- slots w, the next one first
  pub record Stands (old : SlotSlices) (p w : List Slot) (m : SlotSlices) (q : Position) : Type 0 where
    pub holds : Holds old (p ++ w) m
    pub processed : length p ≡ q.at
    pub number : length (p ++ w) ≡ q.filled
    pub invariants : Invariants pb capacity p w

  -- there are slots at which the search stands
  pub record Midway (m : SlotSlices) (q : Position) : Type 0 where
    pub old : SlotSlices
    pub front : List Slot
    pub back : List Slot
    pub stands : Stands old front back m q

  -- none of the points that are tested there satisfies
  abbrev pub Unmet : SlotSlices → Position → Type 0
  Unmet m q = (old : SlotSlices) (p w : List Slot) (s : Slot) → Stands old p (s ∷ w) m q
      → NoneSatisfies pb.clauses (tested p s w)

  -- it goes on from the state p w, to a state from which it answers what it answers from there
  pub record GoesOn (old : SlotSlices) (p w : List Slot) (m : SlotSlices) (q : Position) : Type 0 where
    pub front : List Slot
    pub back : List Slot
    pub stands : Stands old front back m q
    pub onward : (r : Reply) (l : List Slot) → Walks pb capacity (state front back) r l
        → Walks pb capacity (state p w) r l

  -- it ends, with an answer, and the memory holds the slots that it leaves
  pub record Ended (old : SlotSlices) (p w : List Slot) (r : Reply) (m : SlotSlices) : Type 0 where
    pub slots : List Slot
    pub holds : Holds old slots m
    pub walks : Walks pb capacity (state p w) r slots

  -- what a step answers that processed the slot of index i, beside the point x
  abbrev pub After : SlotSlices → List Slot → List Slot → ℕ → ℕ → Result ℕ Conclusion → SlotSlices → Type 0
  After old p w x i (Err a) m = Ended old p w (reply_of_conclusion x a) m
  After old p w x i (Ok filled) m = GoesOn old p w m (position (i + 1) filled)

  -- one step from a position, whichever slots are filled
  abbrev pub Steps : SlotSlices → Position → Result ℕ Conclusion → SlotSlices → Type 0
  Steps m₀ q step m = (old : SlotSlices) (p w : List Slot) → Stands old p w m₀ q
      → After old p w (next_point m₀ q) q.at step m

-- the search can go on from the position q
pub record Resumable (g : Frame) (clauses : List Clause) (m : SlotSlices) (q : Position) : Type 0 where
  pub searchable : Searchable g clauses
  pub lends : Lends g.room m
  pub midway : Midway (framed g clauses) g.room m q

-- the slot that is next can be processed: its level is tested and no point met, the index has heads for its flips,
-- `moved` has the images of its point, and its number is that of the clause which the point falsifies first
pub record Processable (g : Frame) (clauses : List Clause) (m : SlotSlices) (links moved : List ℕ) (turn : Turn)
    : Type 0 where
  pub resumable : Resumable g clauses m turn.position
  pub waits : turn.position.at < turn.position.filled
  pub linked : Linked g m links turn.position.filled
  pub headed : Headed g (turn.position.filled + g.permutations.variables)
  pub imaged : Next g m moved turn.position
  pub unmet : Unmet (framed g clauses) g.room m turn.position
  pub number : turn.number ≡ number_for clauses (next_point m turn.position)
