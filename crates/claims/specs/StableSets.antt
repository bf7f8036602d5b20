-- D2.3: which files hold a stable set for the clauses of a formula, in the sense of document 002, and that the checker
-- accepts these and no others. Definitions alone; CheckerExact shows it. Assumes nothing.
use Rattle.std.specs.Prelude.{List, ◌↔◌, ◌≡◌, ℕ, ◌≤◌, ◌<◌, length, get_or}
use Rattle.math.specs.Lists.{◌∈◌, Distinct}
use Rattle.points.specs.Points.{Clause, Numbered}
use Rattle.point_slices.specs.Slices.{ClauseSlices}
use Rattle.permutation_theory.specs.Permutations.{Permutation, Covered}
use Rattle.formula.specs.declared.Formula.{Formula}
use Rattle.formula.specs.Limits.{max_permutations, max_slots}
use Rattle.formula.specs.Problem.{problem_of}
use Rattle.formula.specs.Refusals.{Fits}
use Rattle.formula.specs.Reply.{accepted}
use Rattle.certificate.specs.Certificate.{contents_of, WellFormed, file_permutations, file_points, file_numbers}
use Rattle.check_theory.specs.Published.{StableUpTo, StableSet, StableModulo, Symmetry, Names}
use Rattle.checker.specs.Checker.{check_reply}

-- E5: "Document 002 allows the whole group; here one listed exchange, applied one time, counts.": stable in document
-- 01's form, where neighbours may be what the file's points cover
abbrev pub StableListed : List ℕ → ℕ → List Numbered → (ℕ → Type 0) → (ℕ → Clause) → Type 0
StableListed file n clauses P g = StableUpTo n clauses P g (Covered (file_permutations file) (file_points file))

module _ (f : Formula) (clauses : ClauseSlices) where
  abbrev n : ℕ
  n = (problem_of f clauses).variables

  abbrev numbered_clauses : List Numbered
  numbered_clauses = (problem_of f clauses).clauses

  -- the file holds the points of a set and, by their numbers, the clauses of its transport function; `IsStable` says in
  -- which sense the set is stable with that function, for n variables and the clauses
  pub record HasStableSet (file : List ℕ)
      (IsStable : ℕ → List Numbered → (ℕ → Type 0) → (ℕ → Clause) → Type 0) : Type 0 where
    -- the formula passes 10, its target aside; K1: "counts and lengths fit"
    pub fits : Fits n (problem_of f clauses).total clauses
    pub in_order : WellFormed file
    pub same_variables : (contents_of file).variables ≡ n
    pub same_total : (contents_of file).clauses ≡ (problem_of f clauses).total
    -- K1: "its exchanges are permutations and keep the rules"
    pub few_permutations : length (file_permutations file) ≤ max_permutations
    pub symmetries : (e : Permutation) → e ∈ file_permutations file → Symmetry n numbered_clauses e
    -- K1: "no point repeats"
    pub few_points : length (file_points file) ≤ max_slots
    pub distinct : Distinct (file_points file)
    -- the clauses that the file's numbers name
    pub transport : ℕ → Clause
    pub named : (i : ℕ) → i < length (file_points file)
        → Names numbered_clauses transport (get_or (file_points file) i 0) (get_or (file_numbers file) i 0)
    -- K1: "there is a point", "each point fails its rule, and each point got by flipping a name of that rule is covered"
    pub stable : IsStable n numbered_clauses (λ x. x ∈ file_points file) transport

-- D2.3: "The checker accepts exactly the stable sets of the published definition in 01's form"
pub record Exact : Type 0 where
  pub listed : (f : Formula) (clauses : ClauseSlices) (file : List ℕ) → (check_reply f clauses file ≡ accepted)
      ↔ HasStableSet f clauses file (StableListed file)
  -- definition 5, where the file lists no permutation
  pub unlisted : (f : Formula) (clauses : ClauseSlices) (file : List ℕ) → (contents_of file).permutations ≡ 0
      → (check_reply f clauses file ≡ accepted) ↔ HasStableSet f clauses file StableSet
  -- definition 11, whatever it lists; not back, since only listed permutations count
  pub modulo : (f : Formula) (clauses : ClauseSlices) (file : List ℕ) → check_reply f clauses file ≡ accepted
      → HasStableSet f clauses file StableModulo
