-- What the parts of the checker promise, and what they require of one another. Assumes nothing.
use Rattle.std.specs.Prelude.{List, [], ◌∷◌, ◌≡◌, ℕ, ◌≤◌, length}
use Rattle.points.specs.Points.{Clause, Numbered, numbered}
use Rattle.point_theory.specs.Laws.Notions.{ClausesBelow}
use Rattle.permutation_theory.specs.Permutations.{Permutation}
use Rattle.formula.specs.Limits.{max_variables, max_slots}
use Rattle.formula.specs.Refusals.{permutation_fault, symmetry_fault}
use Rattle.formula.specs.Reply.{Fault, first}
use Rattle.certificate.specs.declared.Contents.{Contents}
use Rattle.certificate.specs.Certificate.{contents_of, WellFormed, file_permutations, file_points, file_numbers}
use Rattle.certificate.specs.Contract.{contents_in}
use Rattle.certificate.specs.Rows.{file_fault, points_fault, numbers_fault}
use Rattle.check_flips.specs.Flips.{flips_fault}
use Rattle.checker.specs.Checker.{sizes_fault}

-- the rows 11 and 12 of the permutations, then those of the entries
abbrev pub bodies_fault : ℕ → List Numbered → List Permutation → List ℕ → List ℕ → Fault
bodies_fault n cs es ps ns =
    first (permutation_fault n es ∷ symmetry_fault cs es ∷ points_fault max_slots n (length ps) ps
    ∷ numbers_fault cs (length ps) ps ns ∷ flips_fault n cs es ps ns ∷ [])

-- before them the rows 14 and 15, of a file
abbrev pub file_rows : ℕ → ℕ → List Clause → List ℕ → Fault
file_rows n m clauses file =
    let cs = numbered clauses in
    let es = file_permutations file in
    let ps = file_points file in
    let ns = file_numbers file in
    first (file_fault file ∷ sizes_fault n m file ∷ permutation_fault n es ∷ symmetry_fault cs es
    ∷ points_fault max_slots n (length ps) ps ∷ numbers_fault cs (length ps) ps ns
    ∷ flips_fault n cs es ps ns ∷ [])

-- c is what the well-formed file's first bytes say, and the clauses fit its n: rows 10, 14 and 15 see to it
pub record Readable (c : Contents) (clauses : List Clause) (file : List ℕ) : Type 0 where
  pub formed : WellFormed file
  pub same : contents_in c ≡ contents_of file
  pub few : c.variables ≤ max_variables
  pub below : ClausesBelow c.variables (numbered clauses)
