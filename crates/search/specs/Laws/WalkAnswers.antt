-- A reply that is no refusal is the search's. Definition alone; Accepted shows that it holds. Assumes nothing.
use Rattle.std.specs.Prelude.{ℕ, ◌≤◌}
use Rattle.point_slices.specs.Slices.{ClauseSlices}
use Rattle.formula.specs.declared.Formula.{Formula}
use Rattle.formula.specs.Problem.{problem_of}
use Rattle.formula.specs.Reply.{Reply}
use Rattle.search_theory.specs.Laws.Invariants.{Ready}
use Rattle.search_theory.specs.Walk.{start, Walks}
use Rattle.search.specs.Search.{search_slots}

-- the reply r for a formula by value is the search's, over a problem that is ready for it and with at least one slot
pub record WalkAnswers (f : Formula) (clauses : ClauseSlices) (lent : ℕ) (r : Reply) : Type 0 where
  pub ready : Ready (problem_of f clauses)
  pub room : 1 ≤ lent
  pub walks : Walks (problem_of f clauses) lent (start (problem_of f clauses)) r
      (search_slots f clauses lent)
