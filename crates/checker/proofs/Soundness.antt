-- An accepted certificate means that no point satisfies the clauses. Assumes nothing.
use Rattle.std.specs.Prelude.{List, ◌≡◌, ℕ}
use Rattle.point_slices.specs.Slices.{ClauseSlices}
use Rattle.point_theory.specs.Laws.Notions.{ClausesBelow}
use Rattle.formula.specs.declared.Formula.{Formula}
use Rattle.formula.specs.Problem.{problem_of, Unsatisfiable}
use Rattle.formula.specs.Laws.RefusalLaws.{fits_sound, fits_below}
use Rattle.formula.specs.Refusals.{fits, clauses_fault}
use Rattle.formula.specs.Reply.{accepted, no_fault}
use Rattle.formula.specs.Laws.ReplyLaws.{tested}
use Rattle.certificate.specs.Certificate.{file_permutations, file_points, file_numbers}
use Rattle.checker.specs.Checker.{check_reply}
use Rattle.checker.proofs.CheckerLaws.{accepts_sound}
use Rattle.check_theory.proofs.Refutation.{stable_refutes}

-- clauses that the checker's refusal 10 lets pass list none but the variables below n
sound_below : (f : Formula) (clauses : ClauseSlices) → clauses_fault f clauses ≡ no_fault
    → ClausesBelow (problem_of f clauses).variables (problem_of f clauses).clauses
unfolding clauses_fault problem_of
sound_below f clauses h =
    fits_below f.variables f.clauses clauses
    (fits_sound f.variables f.clauses clauses
    (tested (fits f.variables f.clauses clauses) no_fault 10 0 h).0)

-- ---- D3.6: "An accepted certificate, whoever made it and whether its sheet is an accepted one or not, means that none
-- of the 2^n choices meets the rules it was checked against."

pub accepted_refutes : (f : Formula) (clauses : ClauseSlices) (file : List ℕ) → check_reply f clauses file ≡ accepted
    → Unsatisfiable (problem_of f clauses)
accepted_refutes f clauses file h =
    let a = accepts_sound f clauses file h in
    stable_refutes (problem_of f clauses).variables (problem_of f clauses).clauses
    (file_permutations file) (file_points file) (file_numbers file)
    a.stable (sound_below f clauses a.clauses_pass)
