-- Document 01, 'When the desk says no': the row 18. Assumes nothing.
use Rattle.std.specs.Prelude.{Bool, List, [], map, ℕ, length, get_or}
use Rattle.std.proofs.Math.Option.{Option, some, none}
use Rattle.math.specs.Bits.{bit, flip}
use Rattle.math.specs.Lists.{all, first_failing, range, below}
use Rattle.points.specs.Points.{Clause, Numbered, variables}
use Rattle.permutation_theory.specs.Permutations.{Permutation, covered}
use Rattle.formula.specs.Reply.{Fault, fault_at}
use Rattle.certificate.specs.Rows.{clause_numbered}

-- "each point got by flipping a name of that rule": the flips of a point, of which there are none without a clause
unfoldable pub flips_of : ℕ → Option Clause → ℕ → List ℕ
unfolding variables bit flip
flips_of n none x = []
flips_of n (some c) x = map (flip x) (variables n c)

-- the point of index i passes if all its flips are covered
unfoldable pub flips_pass : ℕ → List Numbered → List Permutation → List ℕ → List ℕ → ℕ → Bool
unfolding all covered flips_of clause_numbered
flips_pass n clauses permutations points falsified i =
    all (covered permutations points) (flips_of n (clause_numbered clauses (get_or falsified i 0)) (get_or points i 0))

-- R18: "a flip uncovered | 18 | point's number"
unfoldable pub flips_fault : ℕ → List Numbered → List Permutation → List ℕ → List ℕ → Fault
unfolding first_failing range flips_pass fault_at
flips_fault n clauses permutations points falsified =
    fault_at 18 (first_failing (flips_pass n clauses permutations points falsified) (below (length points)))
