-- What a call of the solver that hands back a choice promises of it, in terms of what the call returns and leaves; and
-- two calls for the same rules. Assumes nothing.
use Rattle.std.specs.Prelude.{Result, Ok, List, [], ◌≡◌, refl, ℕ, take}
use Rattle.std.proofs.Common.{sym, ◌∙◌, subst}
use Rattle.std.proofs.Math.Path.{ap}
use Rattle.math.specs.Lists.{◌∈◌}
use Rattle.point_slices.specs.Slices.{SlotSlices}
use Rattle.formula.specs.Laws.ReplyLaws.{satisfiable-not_refused}
use Rattle.formula.specs.Reply.{Reply, satisfiable}
use Rattle.formula.specs.declared.reasons.Refusal.{Refusal}
use Rattle.search.specs.Search.{search_slices}
use Rattle.claims.specs.Claim.{Sheet, from_text, by_value, Readable, formula_in, slices_in, problem_in, SmallestIn}
use Rattle.claims.specs.Claim.{SameRules}
use Rattle.claims.specs.Laws.SameChoice.{HouseChoice, same_house_choice}
use Rattle.solver.specs.declared.Settled.{Settled}
use Rattle.solver.specs.declared.Solution.{Solution}
use Rattle.solver.specs.declared.Solution.TheVariants.{Satisfiable}
use Rattle.solver.specs.Solver.{after_reading, sheet_slices}
use Rattle.solver.specs.Contract.{reply_of_solution, reply_of_settled, Solved}
use Rattle.solver.specs.Laws.SolverLaws.{answered}

-- a sheet that is read leaves the slices to the search
read_slices : (s : Sheet) (slots : SlotSlices) → Readable s
    → sheet_slices s slots ≡ search_slices (formula_in s) (slices_in s) slots
unfolding sheet_slices
read_slices (from_text text clauses) slots e =
    let s = from_text text clauses in
    ap (λ (a : Reply). after_reading a slots (search_slices (formula_in s) (slices_in s) slots)) e
read_slices (by_value f clauses) slots e = refl

module _ (s : Sheet) {slots₀ slots₁ : SlotSlices} {out₀ out₁ : List ℕ} {r : Settled}
    (call : Solved s slots₀ out₀ r slots₁ out₁) (d filled : ℕ) (answer : r.answer ≡ Ok (Satisfiable d filled)) where
  -- what the answer says
  said : (reply_of_settled r).reply ≡ satisfiable r.point d filled
  unfolding reply_of_solution
  said = ap (λ (a : Result Solution Refusal). (reply_of_solution r.point a).reply) answer

  left : slots₁ ≡ search_slices (formula_in s) (slices_in s) slots₀
  left = call.slots ∙ read_slices s slots₀
      (answered s slots₀ (satisfiable r.point d filled) (sym call.reply ∙ said) satisfiable-not_refused).readable

  -- Q03.2: "Among the nearest choices in the slots the one smallest as a number is now handed back.": in the first
  -- slots of the slice as the call leaves it, as many as it says are filled
  pub smallest-left : (r.point ∈ take filled slots₁.points)
      × SmallestIn (λ y. y ∈ take filled slots₁.points) (problem_in s) d r.point
  smallest-left =
      subst (λ (m : SlotSlices). (r.point ∈ take filled m.points)
      × SmallestIn (λ y. y ∈ take filled m.points) (problem_in s) d r.point) (sym left)
      (call.promises.smallest_in_slots r.point d filled said)

  pub call_house_choice : (problem_in s).permutations ≡ [] → HouseChoice (problem_in s) r.point d
  call_house_choice plain =
      record {
        nearest = call.promises.nearest r.point d filled said;
        smallest = call.promises.smallest r.point d filled said plain;
      }

-- Q03.1: "Editors of series want the same house choice each time, however the client ordered the rules.": two calls,
-- for sheets without exchanges, with whatever slots and outputs
pub same_calls : (s t : Sheet) {slots₀ slots₁ lent₀ lent₁ : SlotSlices} {out₀ out₁ bytes₀ bytes₁ : List ℕ}
    {r q : Settled} → Solved s slots₀ out₀ r slots₁ out₁ → Solved t lent₀ bytes₀ q lent₁ bytes₁
    → (problem_in s).permutations ≡ [] → (problem_in t).permutations ≡ [] → SameRules (problem_in s) (problem_in t)
    → (d filled e used : ℕ) → r.answer ≡ Ok (Satisfiable d filled) → q.answer ≡ Ok (Satisfiable e used)
    → (r.point ≡ q.point) × (d ≡ e)
same_calls s t {r = r} {q = q} call again plain-s plain-t same d filled e used a b =
    same_house_choice (problem_in s) (problem_in t) same r.point d q.point e
    (call_house_choice s call d filled a plain-s) (call_house_choice t again e used b plain-t)
