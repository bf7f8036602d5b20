-- Document 01, 'When the desk says no': the rows 10, 11, 12 and 19, which several entry points share. Assumes nothing.
use Rattle.std.specs.Prelude.{Result, Ok, Err, Bool, cond, ◌&&◌, List, ◌≡◌, ℕ, ◌^◌, ◌≤◌, ◌<◌, leb, ltb, eqb, length}
use Rattle.math.specs.Lists.{◌∈◌, all, first_failing}
use Rattle.points.specs.Points.{Numbered}
use Rattle.point_slices.specs.Slices.{ClauseSlices}
use Rattle.permutation_theory.specs.Permutations.{Permutation, is_permutation, keeps}
use Rattle.formula.specs.declared.reasons.Refusal.{Refusal}
use Rattle.formula.specs.declared.Formula.{Formula}
use Rattle.formula.specs.Reasons.{code_of}
use Rattle.formula.specs.Limits.{max_variables, max_clauses, max_permutations}
use Rattle.formula.specs.Reply.{Fault, no_fault, fault, fault_at}

-- no number of the list has a bit at n or above
unfoldable pub all_below : ℕ → List ℕ → Bool
unfolding all
all_below n xs = all (λ x. ltb x (2 ^ n)) xs

-- n within its limits, and each rule slice C long, C at most 4,096, with no bit above n
pub record Fits (n m : ℕ) (clauses : ClauseSlices) : Type 0 where
  pub some-variable : 1 ≤ n
  pub few_variables : n ≤ max_variables
  pub few_clauses_lem : m ≤ max_clauses
  pub positive-length : length clauses.positive ≡ m
  pub negative-length : length clauses.negative ≡ m
  pub positive-below : (s : ℕ) → s ∈ clauses.positive → s < 2 ^ n
  pub negative-below : (s : ℕ) → s ∈ clauses.negative → s < 2 ^ n

-- the same, computed
unfoldable pub fits : ℕ → ℕ → ClauseSlices → Bool
unfolding all_below
fits n m clauses =
    leb 1 n && leb n max_variables && leb m max_clauses && eqb (length clauses.positive) m
    && eqb (length clauses.negative) m && all_below n clauses.positive && all_below n clauses.negative

-- R10 without the target, for the checker: "n outside its limits, rule lengths (unequal to C, over 4,096), a bit above
-- n | 10 | 0"
unfoldable pub clauses_fault : Formula → ClauseSlices → Fault
unfolding fits
clauses_fault f clauses = cond (fits f.variables f.clauses clauses) no_fault (fault 10 0)

-- R10 whole: the target has no bit above n either
unfoldable pub formula_fault : Formula → ClauseSlices → Fault
unfolding fits
formula_fault f clauses =
    cond (fits f.variables f.clauses clauses && ltb f.target (2 ^ f.variables)) no_fault
    (fault 10 0)

-- R11: "over 16 exchanges, or no permutation | 11 | its number; 17 if too many, tested first"
unfoldable pub permutation_fault : ℕ → List Permutation → Fault
unfolding first_failing is_permutation fault_at
permutation_fault n es = cond (leb (length es) max_permutations) (fault_at 11 (first_failing (is_permutation n) es))
    (fault 11 17)

-- R12: "exchange doesn't keep the rules | 12 | its number"
unfoldable pub symmetry_fault : List Numbered → List Permutation → Fault
unfolding first_failing keeps fault_at
symmetry_fault cs es = fault_at 12 (first_failing (keeps cs) es)

-- R19: "output too short | 19 | length needed (bytes here)"
unfoldable pub room_fault : ℕ → ℕ → Fault
room_fault needed lent = cond (leb needed lent) no_fault (fault 19 needed)

-- a refusal of the code in this paper's terms: the row's number, and the place beside it
abbrev pub refusal_fault : Refusal → Fault
refusal_fault r = fault (code_of r.reason) r.place

-- F10: what the code's answer of a test means
abbrev pub fault_of : Result Unit Refusal → Fault
fault_of (Ok passed) = no_fault
fault_of (Err r) = refusal_fault r
