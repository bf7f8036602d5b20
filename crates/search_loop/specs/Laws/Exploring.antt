-- Many steps of the search, from any slot on: the contract of `explore`. Assumes nothing.
use Rattle.std.specs.Prelude.{Result, Ok, Err, List, length, ℕ, ◌≤◌, ◌<◌}
use Rattle.points.specs.Points.{Clause}
use Rattle.point_slices.specs.Slices.{SlotSlices}
use Rattle.formula.specs.Problem.{Problem}
use Rattle.formula.specs.Reply.{Reply}
use Rattle.search_theory.specs.Walk.{Slot}
use Rattle.search_expansion.specs.declared.Frame.{Frame}
use Rattle.search_expansion.specs.Laws.Filling.{SlotsIndexed}
use Rattle.search_level.specs.Laws.Testing.{Found}
use Rattle.search_level.specs.declared.Position.{Position}
use Rattle.search_step.specs.Conclusions.{reply_of_conclusion}
use Rattle.search_step.specs.Laws.Stepping.{framed, Resumable, Linked, Stands, GoesOn, Ended}
use Rattle.search_loop.specs.declared.Answer.{Answer}

-- F10: what the code's answer says in document 01's terms
abbrev pub reply_of_answer : Answer → Reply
reply_of_answer a = reply_of_conclusion a.point a.conclusion

module _ (pb : Problem) (capacity : ℕ) where
  -- many steps, from one position to another
  abbrev pub Walking : SlotSlices → Position → SlotSlices → Position → Type 0
  Walking m₀ q₀ m q = (old : SlotSlices) (p w : List Slot) → Stands pb capacity old p w m₀ q₀
      → GoesOn pb capacity old p w m q

  -- the search from a position, answered
  abbrev pub Concludes : SlotSlices → Position → Reply → SlotSlices → Type 0
  Concludes m₀ q₀ r m = (old : SlotSlices) (p w : List Slot) → Stands pb capacity old p w m₀ q₀
      → Ended pb capacity old p w r m

-- the numbers at hand where the search has come to the position q
abbrev pub Numbers : List Clause → SlotSlices → Position → List ℕ → Type 0
Numbers clauses m q found = Found clauses m.points m.depths q.at q.filled found

-- the loop over the slots: it has come to the position q, the links are an index of the points filled, and the numbers
-- of tested points are at hand
pub record Exploring (g : Frame) (clauses : List Clause) (m₀ : SlotSlices) (q₀ : Position)
    (m : SlotSlices) (links found : List ℕ) (q : Position) : Type 0 where
  pub walking : Walking (framed g clauses) g.room m₀ q₀ m q
  pub indexed : SlotsIndexed g m links q.filled
  pub numbers : Numbers clauses m q found

-- what exploring begins with: a search that can go on from the position q, an index of the points filled, and the
-- numbers at hand, of which there is room for one for each head
pub record Explorable (g : Frame) (clauses : List Clause) (m : SlotSlices) (links found : List ℕ) (q : Position)
    : Type 0 where
  pub resumable : Resumable g clauses m q
  pub linked : Linked g m links q.filled
  pub room : g.heads ≤ length found
  pub numbers : Numbers clauses m q found

-- exploring has paused at the position q: more slots can be lent than have heads, and no more are filled than have heads
pub record Pauses (g : Frame) (clauses : List Clause) (m₀ : SlotSlices) (q₀ : Position) (m : SlotSlices)
    (found : List ℕ) (q : Position) : Type 0 where
  pub walking : Walking (framed g clauses) g.room m₀ q₀ m q
  pub outgrown : g.heads < g.room
  pub headed : q.filled ≤ g.heads
  pub numbers : Numbers clauses m q found

-- what exploring from a position comes to
abbrev pub Explores : Frame → List Clause → SlotSlices → Position → Result Answer Position → SlotSlices → List ℕ
    → Type 0
Explores g clauses m₀ q₀ (Ok a) m found = Concludes (framed g clauses) g.room m₀ q₀ (reply_of_answer a) m
Explores g clauses m₀ q₀ (Err q) m found = Pauses g clauses m₀ q₀ m found q
