-- Document 01, 'When the desk says no': the rows 14, 16 and 17. The tests of one point are the writer's and the
-- checker's alike. Assumes nothing.
use Rattle.std.specs.Prelude.{Bool, false, not, cond, ◌&&◌, List, [], ◌∷◌, ℕ, ◌^◌, leb, ltb, eqb, length, get_or, take}
use Rattle.std.proofs.Math.Option.{Option, some, none}
use Rattle.math.specs.Lists.{any, first_failing, range, below, has}
use Rattle.points.specs.Points.{Clause, Numbered, satisfies}
use Rattle.formula.specs.Reply.{Fault, no_fault, fault, fault_at}
use Rattle.certificate.specs.Certificate.{well_formed}

-- R14: "contents or length wrong | 14 | file length"
unfoldable pub file_fault : List ℕ → Fault
unfolding well_formed
file_fault file = cond (well_formed file) no_fault (fault 14 (length file))

-- R16: "bit above n, equal to an earlier point": the point of index i passes if it has no bit at n or above and equals
-- no earlier one
unfoldable pub point_passes : ℕ → List ℕ → ℕ → Bool
unfolding any
point_passes n points i = ltb (get_or points i 0) (2 ^ n) && not (has (get_or points i 0) (take i points))

-- R16: "no point, too many (over 65,536; in the writer over P) .. | 16 | point's number, 0 for a bad count": the first
-- count points, at most limit
unfoldable pub points_fault : ℕ → ℕ → ℕ → List ℕ → Fault
unfolding first_failing range point_passes fault_at
points_fault limit n count points =
    let each = fault_at 16 (first_failing (point_passes n points) (below count)) in
    cond (leb 1 count && leb count limit) each (fault 16 0)

-- the clause of that number; none where no clause has it
unfoldable pub clause_numbered : List Numbered → ℕ → Option Clause
clause_numbered [] k = none
clause_numbered (c ∷ cs) k = cond (eqb c.number k) (some c.clause) (clause_numbered cs k)

-- there is a clause, and the point falsifies it
unfoldable pub falsifies : Option Clause → ℕ → Bool
unfolding satisfies
falsifies none x = false
falsifies (some c) x = not (satisfies c x)

-- R17: "rule number not 1 to m, or its point meets it": the point of index i passes if its number is that of a clause,
-- which it falsifies
unfoldable pub number_passes : List Numbered → List ℕ → List ℕ → ℕ → Bool
unfolding clause_numbered falsifies
number_passes clauses points falsified i = falsifies (clause_numbered clauses (get_or falsified i 0)) (get_or points i 0)

-- R17: "rule number not 1 to m, or its point meets it | 17 | point's number"
unfoldable pub numbers_fault : List Numbered → ℕ → List ℕ → List ℕ → Fault
unfolding first_failing range number_passes fault_at
numbers_fault clauses count points falsified = fault_at 17 (first_failing (number_passes clauses points falsified)
    (below count))
