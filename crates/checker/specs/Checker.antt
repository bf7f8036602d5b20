-- Document 01, 'Checker': the checker's reply, with its refusals in their order. Assumes nothing.
use Rattle.std.specs.Prelude.{Bool, cond, ◌&&◌, List, [], ◌∷◌, ◌≡◌, ℕ, eqb, length}
use Rattle.point_slices.specs.Slices.{ClauseSlices}
use Rattle.formula.specs.declared.Formula.{Formula}
use Rattle.formula.specs.Limits.{max_slots}
use Rattle.formula.specs.Problem.{problem_of}
use Rattle.formula.specs.Refusals.{clauses_fault, permutation_fault, symmetry_fault}
use Rattle.formula.specs.Reply.{Reply, accepted, Fault, no_fault, fault, first, unless}
use Rattle.certificate.specs.Certificate.{contents_of, WellFormed, file_permutations, file_points, file_numbers}
use Rattle.certificate.specs.Rows.{file_fault, points_fault, numbers_fault}
use Rattle.check_flips.specs.Flips.{flips_fault}
use Rattle.check_theory.specs.Stable.{Stable}

-- n and m are those in the file's contents
unfoldable pub same_sizes : ℕ → ℕ → List ℕ → Bool
unfolding contents_of
same_sizes n m file = let c = contents_of file in eqb c.variables n && eqb c.clauses m

-- R15: "n or m another sheet's | 15 | 0"
unfoldable pub sizes_fault : ℕ → ℕ → List ℕ → Fault
unfolding same_sizes
sizes_fault n m file = cond (same_sizes n m file) no_fault (fault 15 0)

-- N6: "Checker: 10 (no wish), 14, 15, 11, 12, 16, 17, 18; 14 measures the bodies by the n in the contents."
-- K2: "It uses the certificate's exchanges, not the sheet's."
unfoldable pub check_fault : Formula → ClauseSlices → List ℕ → Fault
unfolding problem_of clauses_fault file_fault sizes_fault file_permutations file_points file_numbers permutation_fault
    symmetry_fault points_fault numbers_fault flips_fault first
check_fault f clauses file =
    let pb = problem_of f clauses in
    let n = pb.variables in
    let permutations = file_permutations file in
    let points = file_points file in
    let falsified = file_numbers file in
    let row14 = file_fault file in
    let row15 = sizes_fault n pb.total file in
    let row11 = permutation_fault n permutations in
    let row12 = symmetry_fault pb.clauses permutations in
    let row16 = points_fault max_slots n (length points) points in
    let row17 = numbers_fault pb.clauses (length points) points falsified in
    let row18 = flips_fault n pb.clauses permutations points falsified in
    first (clauses_fault f clauses ∷ row14 ∷ row15 ∷ row11 ∷ row12 ∷ row16 ∷ row17 ∷ row18 ∷ [])

-- K1: "It accepts a certificate for a sheet's rules exactly if all of these hold": accepted where no row finds a fault
unfoldable pub check_reply : Formula → ClauseSlices → List ℕ → Reply
unfolding check_fault unless
check_reply f clauses file = unless (check_fault f clauses file) accepted

-- K1: "It accepts a certificate for a sheet's rules exactly if all of these hold: counts and lengths fit, its exchanges
-- are permutations .."
pub record Accepts (f : Formula) (clauses : ClauseSlices) (file : List ℕ) : Type 0 where
  pub clauses_pass : clauses_fault f clauses ≡ no_fault
  pub in_order : WellFormed file
  pub same_variables : (contents_of file).variables ≡ (problem_of f clauses).variables
  pub same_total : (contents_of file).clauses ≡ (problem_of f clauses).total
  pub stable : Stable (problem_of f clauses).variables (problem_of f clauses).clauses
      (file_permutations file) (file_points file) (file_numbers file)
