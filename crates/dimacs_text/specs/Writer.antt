-- Document 02, 2026-02: what the writer of sheets answers, and what it leaves in the output. Assumes nothing.
use Rattle.std.specs.Prelude.{List, [], ◌∷◌, ℕ, length}
use Rattle.math.specs.Lists.{over}
use Rattle.permutation_theory.specs.Permutations.{permutations_in}
use Rattle.point_slices.specs.Slices.{ClauseSlices}
use Rattle.formula.specs.declared.Formula.{Formula}
use Rattle.formula.specs.Refusals.{formula_fault, permutation_fault, room_fault}
use Rattle.formula.specs.Reply.{Reply, written, Fault, first, unless, unless_kept}
use Rattle.dimacs_text.specs.SheetText.{text_of}

-- Q02.4: "It gives 10, 11, then 19 for short output", for an output of that many bytes; 2026-02 b: 12 is not tested
unfoldable pub text_fault : Formula → ClauseSlices → ℕ → Fault
unfolding formula_fault permutation_fault permutations_in room_fault text_of first
text_fault f clauses lent =
    let row11 = permutation_fault f.variables (permutations_in f.variables f.permutations f.images) in
    first (formula_fault f clauses ∷ row11 ∷ room_fault (length (text_of f clauses)) lent ∷ [])

-- Q02.4: "otherwise the length"
unfoldable pub text_reply : Formula → ClauseSlices → List ℕ → Reply
unfolding text_fault unless
text_reply f clauses out = unless (text_fault f clauses (length out)) (written (length (text_of f clauses)))

-- Q02.4: "bytes past the text are unchanged"; N1: "Every row leaves all lent slices unchanged"
unfoldable pub text_output : Formula → ClauseSlices → List ℕ → List ℕ
unfolding text_fault unless_kept over
text_output f clauses out = unless_kept (text_fault f clauses (length out)) (over (text_of f clauses) out) out
