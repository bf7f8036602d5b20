-- What of a formula by value the writer looks at: the problem that it makes, so of the images' bytes only those of its
-- permutations.
-- S21: "the reader makes unused bytes 0 and nothing else reads them". Assumes nothing.
use Rattle.std.specs.Prelude.{cond, ◌&&◌, List, [], ◌∷◌, ◌++◌, ◌≡◌, ℕ, ◌^◌, length}
use Rattle.std.proofs.Math.Path.{ap, ap₂}
use Rattle.std.proofs.Math.Dec.{ltb}
use Rattle.std.proofs.Math.ListN.{drop}
use Rattle.point_slices.specs.Slices.{ClauseSlices, SlotSlices}
use Rattle.formula.specs.declared.Formula.{Formula}
use Rattle.formula.specs.Laws.Alike.{Alike}
use Rattle.formula.specs.Laws.AlikeLaws.{same_problem}
use Rattle.formula.specs.Limits.{capacity}
use Rattle.formula.specs.Problem.{Problem, problem_of}
use Rattle.formula.specs.Refusals.{fits, permutation_fault, symmetry_fault, room_fault}
use Rattle.formula.specs.Reply.{written, no_fault, fault, first, unless, unless_kept}
use Rattle.certificate.specs.Rows.{points_fault, numbers_fault}
use Rattle.certificate.specs.Writer.{length_needed, certificate_of, write_fault, write_reply, write_output}

module _ (f g : Formula) (a : Alike f g) (clauses : ClauseSlices) (slots : SlotSlices) (filled : ℕ)
    (out : List ℕ) where
  same : problem_of f clauses ≡ problem_of g clauses
  same = same_problem f g clauses a

  same_fault : write_fault f clauses slots filled out
      ≡ write_fault g clauses slots filled out
  unfolding write_fault
  same_fault =
      ap (λ (pb : Problem). first (cond (fits pb.variables pb.total clauses
      && ltb pb.target (2 ^ pb.variables)) no_fault (fault 10 0)
      ∷ permutation_fault pb.variables pb.permutations ∷ symmetry_fault pb.clauses pb.permutations
      ∷ points_fault (capacity slots) pb.variables filled
      slots.points
      ∷ numbers_fault pb.clauses filled slots.points slots.falsified ∷ room_fault (length_needed pb filled)
      (length out)
      ∷ []))
      same

  pub write_same_reply : write_reply f clauses slots filled out
      ≡ write_reply g clauses slots filled out
  unfolding write_reply
  write_same_reply = ap₂ (λ t (pb : Problem). unless t (written (length_needed pb filled))) same_fault same

  pub write_same_output : write_output f clauses slots filled out
      ≡ write_output g clauses slots filled out
  unfolding write_output
  write_same_output =
      ap₂ (λ t (pb : Problem). unless_kept t (certificate_of pb slots filled
      ++ drop (length_needed pb filled) out) out) same_fault same
