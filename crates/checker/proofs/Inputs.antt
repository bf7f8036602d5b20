-- What of a formula by value the checker looks at: n, C and the clauses, so neither its target nor its permutations nor
-- the bytes behind them. Assumes nothing.
use Rattle.std.specs.Prelude.{List, ◌≡◌, ℕ}
use Rattle.std.proofs.Math.Path.{ap}
use Rattle.point_slices.specs.Slices.{ClauseSlices}
use Rattle.formula.specs.declared.Formula.{Formula}
use Rattle.formula.specs.Problem.{problem_of}
use Rattle.formula.specs.Refusals.{clauses_fault}
use Rattle.formula.specs.Reply.{Fault, accepted, unless}
use Rattle.checker.specs.Checker.{check_fault, check_reply}

-- K2: "It uses the certificate's exchanges, not the sheet's."; N6: "10 (no wish)"; S21: "unused bytes .. nothing else
-- reads them": formulas that agree in n and C get the same reply
module _ (f g : Formula) (clauses : ClauseSlices) (file : List ℕ) (n : f.variables ≡ g.variables)
    (m : f.clauses ≡ g.clauses) where
  -- the path: n and C go from those of f to those of g, and no other field is looked at
  check_same_fault : check_fault f clauses file ≡ check_fault g clauses file
  unfolding check_fault problem_of clauses_fault
  check_same_fault i =
      check_fault (record {
        variables = n i;
        clauses = m i;
        target = 0;
        permutations = 0;
        images = f.images;
      }) clauses file

  pub check_same_reply : check_reply f clauses file ≡ check_reply g clauses file
  unfolding check_reply
  check_same_reply = ap (λ (t : Fault). unless t accepted) check_same_fault
