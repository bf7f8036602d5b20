-- Laws of searching a sheet with few slots first: which answers stay with more. Assumes nothing.
use Rattle.std.specs.Prelude.{List, ◌≡◌, ℕ, ◌≤◌, ◌<◌, length, replicate}
use Rattle.std.proofs.Common.{sym, arith}
use Rattle.std.proofs.lemmas.List.{length-replicate}
use Rattle.point_slices.specs.Laws.Contracts.{lent_clauses}
use Rattle.point_slices.specs.Laws.SliceLaws.{points_blank, length-clauses}
use Rattle.point_slices.specs.Slices.{ClauseSlices, clause_slices, clause_room, slot_slices, points_of}
use Rattle.formula.specs.declared.Formula.{Formula}
use Rattle.formula.specs.Limits.{max_slots, capacity}
use Rattle.formula.specs.Laws.ReplyLaws.{satisfiable-not_refused, unsatisfiable_not_refused}
use Rattle.formula.specs.Laws.ReplyLaws.{satisfiable-not_unknown, unsatisfiable_not_unknown}
use Rattle.formula.specs.Reply.{Reply, refused, satisfiable, unsatisfiable, unknown}
use Rattle.search.specs.Laws.Accepted.{more-answers}
use Rattle.search.specs.Search.{search_reply}
use Rattle.program_search.specs.Slots.{slots}

-- ---- the slots

-- as many places in each slot slice are as many slots
pub slots_lent : (k : ℕ) → k ≤ max_slots → capacity (slot_slices (replicate k 0) (replicate k 0) (replicate k 0)) ≡ k
unfolding capacity
slots_lent k le = rw (points_blank k, length-replicate {A = ℕ} k 0) (omega arith)

-- neither a refusal nor 'no room'
pub record Settles (r : Reply) : Type 0 where
  pub not_refused : (code place : ℕ) → r ≡ refused code place → ⊥
  pub not_unknown : (bound filled : ℕ) → r ≡ unknown bound filled → ⊥

pub satisfiable_settles : (x d filled : ℕ) → Settles (satisfiable x d filled)
satisfiable_settles x d filled =
    record { not_refused = satisfiable-not_refused; not_unknown = satisfiable-not_unknown }

pub unsatisfiable_settles : (filled : ℕ) → Settles (unsatisfiable filled)
unsatisfiable_settles filled =
    record { not_refused = unsatisfiable_not_refused; not_unknown = unsatisfiable_not_unknown }

-- such an answer of a search with few slots is that with all
pub settles_all : (f : Formula) (clauses : ClauseSlices) (few : ℕ) → few ≤ slots → (r : Reply)
    → r ≡ search_reply f clauses few → Settles r → r ≡ search_reply f clauses slots
settles_all f clauses few le r e w =
    sym (more-answers f clauses few slots le r (sym e) w.not_refused w.not_unknown).0

-- ---- the clauses

-- there are as many clauses as fit the slices
pub clauses_there : {m k : ℕ} (positive negative : List ℕ) → m ≤ clause_room (clause_slices positive negative)
    → k ≡ length (lent_clauses positive negative) → k < m → ⊥
clauses_there positive negative room count short =
    let all = length-clauses (points_of positive) (points_of negative) in omega arith
