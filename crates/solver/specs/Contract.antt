-- What the solver promises: its answer and every lent slice as it returns, by the definitions of reader, search,
-- writer and checker, and the claim's sentences about that. Assumes nothing.
use Rattle.std.specs.Prelude.{Result, Ok, Err, List, [], ◌↔◌, ◌≡◌, ℕ, ◌≤◌, ◌<◌, ◌^◌, length, take, drop}
use Rattle.std.proofs.Math.Option.{Option, some, none}
use Rattle.points.specs.Points.{distance}
use Rattle.point_slices.specs.Slices.{SlotSlices}
use Rattle.formula.specs.Limits.{max_slots, capacity}
use Rattle.formula.specs.Problem.{Unsatisfiable}
use Rattle.formula.specs.Reasons.{code_of}
use Rattle.formula.specs.declared.reasons.Refusal.{Refusal}
use Rattle.formula.specs.Reply.{Reply, refused, satisfiable, unsatisfiable, unknown, written, accepted, point_in}
use Rattle.checker.specs.Checker.{check_reply}
use Rattle.claims.specs.Claim.{Sheet, formula_in, slices_in, problem_in, Meets, AtLeast, SmallestIn, InSlots, OnSheet}
use Rattle.solver.specs.Solver.{sheet_reply, sheet_slices, certificate_reply, certificate_output}
use Rattle.solver.specs.declared.Settled.{Settled}
use Rattle.solver.specs.declared.Solution.{Solution}
use Rattle.solver.specs.declared.Solution.TheVariants.{Satisfiable, Unsatisfiable as Refutes, Uncertified, Unknown}

-- what the solver answers in document 01's terms: the reader's refusal or the search's reply and, beside 'cannot be
-- met', the writer's reply
pub record SolverReply : Type 0 where
  pub reply : Reply
  pub certificate : Option Reply

-- F10: what the code's answer tells, beside the point x
unfoldable pub reply_of_solution : ℕ → Result Solution Refusal → SolverReply
reply_of_solution x (Ok (Satisfiable d filled)) = record { reply = satisfiable x d filled; certificate = none }
reply_of_solution x (Ok (Refutes filled size)) = record { reply = unsatisfiable filled; certificate = some (written size) }
reply_of_solution x (Ok (Uncertified filled needed)) = record {
  reply = unsatisfiable filled;
  certificate = some (refused 19 needed);
}
reply_of_solution x (Ok (Unknown b filled)) = record { reply = unknown b filled; certificate = none }
reply_of_solution x (Err r) = record { reply = refused (code_of r.reason) r.place; certificate = none }

-- the same with the point that stands beside it
abbrev pub reply_of_settled : Settled → SolverReply
reply_of_settled r = reply_of_solution r.point r.answer

pub record Promises (s : Sheet) (slots : SlotSlices) (t : SolverReply) (out₀ out₁ : List ℕ) : Type 0 where
  -- D3.1: "A choice handed back meets the rules, and every other choice that meets them differs from the client's wish
  -- in at least as many names."
  -- D3.2: "The reported changes are the number of names in which the one handed back differs."
  pub nearest : (x d filled : ℕ) → t.reply ≡ satisfiable x d filled
      → Meets (problem_in s) x × (d ≡ distance (problem_in s).variables x (problem_in s).target)
      × AtLeast (problem_in s) d
  -- D3.3: "Unless 'no room' is said, 'cannot be met' is said exactly when none of the 2^n choices meets the rules."
  pub exactly : ((code place : ℕ) → t.reply ≡ refused code place → ⊥)
      → ((b filled : ℕ) → t.reply ≡ unknown b filled → ⊥)
      → ((filled : ℕ) × (t.reply ≡ unsatisfiable filled)) ↔ Unsatisfiable (problem_in s)
  -- D3.4: "Its certificate is then accepted.": the first `size` bytes of the output; those behind them are as they were
  pub certified : (size : ℕ) → t.certificate ≡ some (written size)
      → (check_reply (formula_in s) (slices_in s) (take size out₁) ≡ accepted)
      × (drop size out₁ ≡ drop size out₀)
  -- R19: "output too short | 19 | length needed": the one refusal of the writer here; the output is as it was
  pub uncertified : (code needed : ℕ) → t.certificate ≡ some (refused code needed)
      → (code ≡ 19) × (length out₀ < needed) × (out₁ ≡ out₀)
  -- D3.6: "An accepted certificate .. means that none of the 2^n choices meets the rules it was checked against."
  pub refutes : (file : List ℕ) → check_reply (formula_in s) (slices_in s) file ≡ accepted
      → Unsatisfiable (problem_in s)
  -- D3.7: "'No room' carries a number d, and every choice that meets the rules differs from the wish in at least d
  -- names."
  -- Q03.4: "the depth being processed plus one, which every choice meeting the rules still reaches"
  pub bound : (b filled : ℕ) → t.reply ≡ unknown b filled → AtLeast (problem_in s) b
  -- D3.8: "Where 2^n is at most 65,536 and at least 2^n slots are lent, it is never said."
  pub enough_room : (b filled : ℕ) → 2 ^ (problem_in s).variables ≤ max_slots
      → 2 ^ (problem_in s).variables ≤ length slots.points → 2 ^ (problem_in s).variables ≤ length slots.falsified
      → 2 ^ (problem_in s).variables ≤ length slots.depths → t.reply ≡ unknown b filled → ⊥
  -- Q03.2: "Among the nearest choices in the slots the one smallest as a number is now handed back."
  pub smallest_in_slots : (x d filled : ℕ) → t.reply ≡ satisfiable x d filled
      → InSlots s slots filled x × SmallestIn (InSlots s slots filled) (problem_in s) d x
  -- Q03.6: "Without exchanges a choice handed back is the smallest of all nearest choices on the whole sheet."
  pub smallest : (x d filled : ℕ) → t.reply ≡ satisfiable x d filled → (problem_in s).permutations ≡ []
      → SmallestIn OnSheet (problem_in s) d x

-- G.a: what the solver promises for a sheet: its answer and every lent slice as it returns, by the definitions, and the
-- claim's sentences
pub record Solved (s : Sheet) (slots₀ : SlotSlices) (out₀ : List ℕ) (r : Settled) (slots₁ : SlotSlices)
    (out₁ : List ℕ) : Type 0 where
  pub reply : (reply_of_settled r).reply ≡ sheet_reply s (capacity slots₀)
  pub certificate : (reply_of_settled r).certificate ≡ certificate_reply s slots₀ out₀
  pub point : r.point ≡ point_in (sheet_reply s (capacity slots₀))
  pub slots : slots₁ ≡ sheet_slices s slots₀
  pub output : out₁ ≡ certificate_output s slots₀ out₀
  pub promises : Promises s slots₀ (reply_of_settled r) out₀ out₁
