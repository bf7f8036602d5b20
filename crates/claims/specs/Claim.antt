-- K3: the one claim: the third demand whole, and what request 2026-03 promises, over sheet, search, written
-- certificate and checker together. It cites the very definitions that the entry points' contracts cite. Definitions
-- alone; Theorem shows it. Assumes nothing.
use Rattle.std.specs.Prelude.{List, [], map, ◌↔◌, ◌≡◌, ℕ, ◌≤◌, ◌<◌, ◌^◌, length, take, drop}
use Rattle.math.specs.Lists.{◌∈◌}
use Rattle.points.specs.Points.{Clause, distance, Numbered, SatisfiesAll}
use Rattle.point_slices.specs.Slices.{ClauseSlices, SlotSlices, first_clauses}
use Rattle.formula.specs.declared.Formula.{Formula}
use Rattle.formula.specs.Limits.{max_slots, capacity}
use Rattle.formula.specs.Problem.{Problem, problem_of, Unsatisfiable}
use Rattle.formula.specs.Reply.{Reply, refused, satisfiable, unsatisfiable, unknown, parsed, written, accepted}
use Rattle.dimacs_format.specs.Reader.{read_reply, read_formula, read_clauses}
use Rattle.search.specs.Search.{search_reply, search_slices}
use Rattle.certificate.specs.Writer.{length_needed, write_reply, write_output}
use Rattle.checker.specs.Checker.{check_reply}

-- ---- an accepted sheet, and the search's answer to it

-- W12: "whether read from text or handed to the builder by value": a text with the clause slices lent to the reader; or
-- a formula and its clauses
pub data Sheet : Type 0 where
  from_text : List ℕ → ClauseSlices → Sheet
  by_value : Formula → ClauseSlices → Sheet

-- the reader does not refuse it
abbrev pub Readable : Sheet → Type 0
Readable (from_text text clauses) = read_reply text clauses ≡ parsed
Readable (by_value f clauses) = Unit {0}

-- its formula; of a text the one that the reader yields, and the first C clauses of the slices as it leaves them
abbrev pub formula_in : Sheet → Formula
formula_in (from_text text clauses) = read_formula text clauses
formula_in (by_value f clauses) = f

abbrev pub slices_in : Sheet → ClauseSlices
slices_in (from_text text clauses) = first_clauses (read_formula text clauses).clauses (read_clauses text clauses)
slices_in (by_value f clauses) = clauses

abbrev pub problem_in : Sheet → Problem
problem_in s = problem_of (formula_in s) (slices_in s)

-- the search answers r, which is no refusal: W12: "an accepted sheet is one that neither reader nor builder refuses"
pub record SearchAnswers (s : Sheet) (slots : SlotSlices) (r : Reply) : Type 0 where
  pub readable : Readable s
  pub reply : search_reply (formula_in s) (slices_in s) (capacity slots) ≡ r
  pub accepted : (code place : ℕ) → r ≡ refused code place → ⊥

-- C7: "what the writer puts out from that sheet and its rules, the lent slots as the builder left them and the number
-- it reported as filled"
abbrev pub writer_reply : Sheet → SlotSlices → ℕ → List ℕ → Reply
writer_reply s slots filled out = write_reply (formula_in s) (slices_in s)
    (search_slices (formula_in s) (slices_in s) slots) filled out

abbrev pub writer_output : Sheet → SlotSlices → ℕ → List ℕ → List ℕ
writer_output s slots filled out = write_output (formula_in s) (slices_in s)
    (search_slices (formula_in s) (slices_in s) slots) filled out

-- ---- what is said of it

-- x meets the rules: a point of n variables that satisfies every clause
pub record Meets (pb : Problem) (x : ℕ) : Type 0 where
  pub within : x < 2 ^ pb.variables
  pub satisfying : SatisfiesAll pb.clauses x

-- every choice that meets the rules differs from the wish in at least d names
abbrev pub AtLeast : Problem → ℕ → Type 0
AtLeast pb d = (y : ℕ) → Meets pb y → d ≤ distance pb.variables y pb.target

-- no nearest choice in the set S, one that meets the rules with d changes, is smaller as a number than x
abbrev pub SmallestIn : (ℕ → Type 0) → Problem → ℕ → ℕ → Type 0
SmallestIn S pb d x = (y : ℕ) → S y → Meets pb y → distance pb.variables y pb.target ≡ d → x ≤ y

-- the choices in the filled slots, as the builder left them
abbrev pub InSlots : Sheet → SlotSlices → ℕ → ℕ → Type 0
InSlots s slots filled y = y ∈ take filled (search_slices (formula_in s) (slices_in s) slots).points

-- all choices on the sheet
abbrev pub OnSheet : ℕ → Type 0
OnSheet y = Unit {0}

-- two problems with the same n, wish and set of rules, in whatever order and however often each stands
pub record SameRules (a b : Problem) : Type 0 where
  pub variables : a.variables ≡ b.variables
  pub target : a.target ≡ b.target
  pub rules : (c : Clause) → (c ∈ map (λ (r : Numbered). r.clause) a.clauses)
      ↔ (c ∈ map (λ (r : Numbered). r.clause) b.clauses)

-- the certificate of the filled slots, `size` bytes long: an output too short is refused by 19 and left as it was;
-- another takes the certificate, keeps what lies behind it, and the checker accepts what was put there
pub record Certified (s : Sheet) (slots : SlotSlices) (filled size : ℕ) (out : List ℕ) : Type 0 where
  pub too_short : length out < size → (writer_reply s slots filled out ≡ refused 19 size)
      × (writer_output s slots filled out ≡ out)
  pub answers : size ≤ length out → writer_reply s slots filled out ≡ written size
  pub behind : size ≤ length out → drop size (writer_output s slots filled out) ≡ drop size out
  pub checks : size ≤ length out → check_reply (formula_in s) (slices_in s)
      (take size (writer_output s slots filled out)) ≡ accepted

-- ---- the claim: D3.5: "This holds of 01's walk and checker for every accepted sheet, with exchanges or without,
-- whatever the lent slots held."

pub record Claim : Type 0 where
  -- D3.1: "A choice handed back meets the rules, and every other choice that meets them differs from the client's wish
  -- in at least as many names."
  -- D3.2: "The reported changes are the number of names in which the one handed back differs."
  pub nearest : (s : Sheet) (slots : SlotSlices) (x d filled : ℕ) → SearchAnswers s slots (satisfiable x d filled)
      → Meets (problem_in s) x × (d ≡ distance (problem_in s).variables x (problem_in s).target)
      × AtLeast (problem_in s) d
  -- D3.3: "Unless 'no room' is said, 'cannot be met' is said exactly when none of the 2^n choices meets the rules."
  pub exactly : (s : Sheet) (slots : SlotSlices) (r : Reply) → SearchAnswers s slots r
      → ((b filled : ℕ) → r ≡ unknown b filled → ⊥)
      → ((filled : ℕ) × (r ≡ unsatisfiable filled)) ↔ Unsatisfiable (problem_in s)
  -- D3.4: "Its certificate is then accepted."
  pub certified : (s : Sheet) (slots : SlotSlices) (filled : ℕ) → SearchAnswers s slots (unsatisfiable filled)
      → (out : List ℕ) → Certified s slots filled (length_needed (problem_in s) filled) out
  -- D3.6: "An accepted certificate, whoever made it and whether its sheet is an accepted one or not, means that none of
  -- the 2^n choices meets the rules it was checked against."
  pub refutes : (f : Formula) (clauses : ClauseSlices) (file : List ℕ) → check_reply f clauses file ≡ accepted
      → Unsatisfiable (problem_of f clauses)
  -- D3.7: "'No room' carries a number d, and every choice that meets the rules differs from the wish in at least d
  -- names."
  -- Q03.4: "the depth being processed plus one, which every choice meeting the rules still reaches"
  pub bound : (s : Sheet) (slots : SlotSlices) (b filled : ℕ) → SearchAnswers s slots (unknown b filled)
      → AtLeast (problem_in s) b
  -- D3.8: "Where 2^n is at most 65,536 and at least 2^n slots are lent, it is never said."
  pub enough_room : (s : Sheet) (slots : SlotSlices) (b filled : ℕ) → 2 ^ (problem_in s).variables ≤ max_slots
      → 2 ^ (problem_in s).variables ≤ length slots.points
      → 2 ^ (problem_in s).variables ≤ length slots.falsified → 2 ^ (problem_in s).variables ≤ length slots.depths
      → SearchAnswers s slots (unknown b filled) → ⊥
  -- Q03.2: "Among the nearest choices in the slots the one smallest as a number is now handed back."
  pub smallest_in_slots : (s : Sheet) (slots : SlotSlices) (x d filled : ℕ)
      → SearchAnswers s slots (satisfiable x d filled)
      → InSlots s slots filled x × SmallestIn (InSlots s slots filled) (problem_in s) d x
  -- Q03.6: "Without exchanges a choice handed back is the smallest of all nearest choices on the whole sheet."
  pub smallest : (s : Sheet) (slots : SlotSlices) (x d filled : ℕ) → SearchAnswers s slots (satisfiable x d filled)
      → (problem_in s).permutations ≡ [] → SmallestIn OnSheet (problem_in s) d x
  -- Q03.1: "Editors of series want the same house choice each time, however the client ordered the rules.": without
  -- exchanges, where both sheets are met, with whatever slots
  pub same_choice : (s t : Sheet) (slots₁ slots₂ : SlotSlices) (x d filled₁ y e filled₂ : ℕ)
      → SearchAnswers s slots₁ (satisfiable x d filled₁) → SearchAnswers t slots₂ (satisfiable y e filled₂)
      → (problem_in s).permutations ≡ [] → (problem_in t).permutations ≡ [] → SameRules (problem_in s) (problem_in t)
      → (x ≡ y) × (d ≡ e)
