-- What of a formula by value the writer of texts looks at: of the images' bytes only those of its permutations.
-- S21: "the reader makes unused bytes 0 and nothing else reads them". Assumes nothing.
use Rattle.std.specs.Prelude.{cond, ◌&&◌, ◌≡◌, ℕ, ◌^◌, length}
use mathlib.Core.List.{List, [], ◌∷◌}
use Rattle.std.proofs.Math.Path.{ap, ap₂}
use Rattle.std.proofs.Math.Dec.{ltb}
use Rattle.math.specs.Lists.{over}
use Rattle.point_slices.specs.Slices.{ClauseSlices, clauses_of}
use Rattle.formula.specs.declared.Formula.{Formula}
use Rattle.formula.specs.Laws.Alike.{Alike}
use Rattle.formula.specs.Laws.AlikeLaws.{same_problem}
use Rattle.formula.specs.Problem.{Problem, problem_of}
use Rattle.formula.specs.Refusals.{fits, formula_fault, permutation_fault, room_fault}
use Rattle.formula.specs.Reply.{Fault, no_fault, fault, first, written, unless, unless_kept}
use Rattle.dimacs_format.specs.Input.{Input}
use Rattle.dimacs_text.specs.SheetText.{sheet_text, text_of}
use Rattle.dimacs_text.specs.Writer.{text_fault, text_reply, text_output}

module _ (f g : Formula) (a : Alike f g) (clauses : ClauseSlices) where
  same : problem_of f clauses ≡ problem_of g clauses
  same = same_problem f g clauses a

  -- what the problem says, with the clauses without their numbers
  said : Problem → Input
  said pb =
      record {
        variables = pb.variables;
        clauses = clauses_of clauses;
        target = pb.target;
        permutations = pb.permutations;
      }

  same_text : text_of f clauses ≡ text_of g clauses
  unfolding text_of problem_of said
  same_text = ap (λ (pb : Problem). sheet_text (said pb)) same

  same_fault : (lent : ℕ) → text_fault f clauses lent ≡ text_fault g clauses lent
  unfolding text_fault formula_fault problem_of
  same_fault lent =
      ap₂ (λ (pb : Problem) (text : List ℕ). first (cond (fits pb.variables pb.total clauses
      && ltb pb.target (2 ^ pb.variables)) no_fault (fault 10 0)
      ∷ permutation_fault pb.variables pb.permutations ∷ room_fault (length text) lent ∷ [])) same same_text

  module _ (out : List ℕ) where
    pub text_same_reply : text_reply f clauses out ≡ text_reply g clauses out
    unfolding text_reply
    text_same_reply = ap₂ (λ (t : Fault) (text : List ℕ). unless t (written (length text))) (same_fault (length out))
        same_text

    pub text_same_output : text_output f clauses out ≡ text_output g clauses out
    unfolding text_output
    text_same_output = ap₂ (λ (t : Fault) (text : List ℕ). unless_kept t (over text out) out) (same_fault (length out))
        same_text
