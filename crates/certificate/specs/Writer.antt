-- Document 01, 'Certificate': the writer's reply and what it leaves in the output. Assumes nothing.
use Rattle.std.specs.Prelude.{List, [], ◌∷◌, ◌++◌, ◌≡◌, ℕ, length, take, drop}
use Rattle.point_slices.specs.Slices.{ClauseSlices, SlotSlices}
use Rattle.formula.specs.declared.Formula.{Formula}
use Rattle.formula.specs.Limits.{capacity}
use Rattle.formula.specs.Problem.{Problem, problem_of}
use Rattle.formula.specs.Refusals.{formula_fault, permutation_fault, symmetry_fault, room_fault}
use Rattle.formula.specs.Reply.{Reply, written, Fault, first, unless, unless_kept}
use Rattle.certificate.specs.Certificate.{encode, certificate_length, contents_of, WellFormed, file_permutations}
use Rattle.certificate.specs.Certificate.{file_points, file_numbers}
use Rattle.certificate.specs.Rows.{points_fault, numbers_fault}

-- the length of the certificate of a problem and that many slots
unfoldable pub length_needed : Problem → ℕ → ℕ
unfolding certificate_length
length_needed pb filled = certificate_length pb.variables (length pb.permutations) filled

-- N5: "Writer (from slots and a count): 10, 11, 12, 16, 17, 19." N8: "Each is tested over everything before the next"
unfoldable pub write_fault : Formula → ClauseSlices → SlotSlices → ℕ → List ℕ → Fault
unfolding problem_of formula_fault permutation_fault symmetry_fault points_fault capacity numbers_fault room_fault length_needed
    first
write_fault f clauses slots filled out =
    let pb = problem_of f clauses in
    let row11 = permutation_fault pb.variables pb.permutations in
    let row12 = symmetry_fault pb.clauses pb.permutations in
    let row16 = points_fault (capacity slots) pb.variables filled slots.points in
    let row17 = numbers_fault pb.clauses filled slots.points slots.falsified in
    let row19 = room_fault (length_needed pb filled) (length out) in
    first (formula_fault f clauses ∷ row11 ∷ row12 ∷ row16 ∷ row17 ∷ row19 ∷ [])

unfoldable pub write_reply : Formula → ClauseSlices → SlotSlices → ℕ → List ℕ → Reply
unfolding write_fault unless
write_reply f clauses slots filled out =
    unless (write_fault f clauses slots filled out)
    (written (length_needed (problem_of f clauses) filled))

-- C7: "what the writer puts out from that sheet and its rules, the lent slots as the builder left them and the number
-- it reported as filled"
unfoldable pub certificate_of : Problem → SlotSlices → ℕ → List ℕ
unfolding encode
certificate_of pb slots filled =
    encode pb.variables pb.total pb.permutations (take filled slots.points)
    (take filled slots.falsified)

-- C6: "Output past the certificate is unchanged."
unfoldable pub write_output : Formula → ClauseSlices → SlotSlices → ℕ → List ℕ → List ℕ
unfolding write_fault unless_kept certificate_of
write_output f clauses slots filled out =
    let pb = problem_of f clauses in
    let new = certificate_of pb slots filled ++ drop (length_needed pb filled) out in
    unless_kept (write_fault f clauses slots filled out) new out

-- C5: "the reading of what the writer puts out is exactly the sheet's exchanges and the points and rule numbers of the
-- slots given"
pub record ReadsAs (pb : Problem) (points falsified : List ℕ) (file : List ℕ) : Type 0 where
  pub in_order : WellFormed file
  pub reads_variables : (contents_of file).variables ≡ pb.variables
  pub reads_total : (contents_of file).clauses ≡ pb.total
  pub reads_permutations : file_permutations file ≡ pb.permutations
  pub reads_points : file_points file ≡ points
  pub reads_numbers : file_numbers file ≡ falsified
