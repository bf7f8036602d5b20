use Rattle.permutation_theory.specs.Permutations.{is_permutation}
use Rattle.permutation_images.specs.Laws.LoopLaws.{Testing}
use Rattle.formula.proofs.refusals.permutations_refusal.Given as goal

abbrev pub invariant-loop-i : goal.invariant-loop-i
invariant-loop-i l =
    Testing (is_permutation l.permutations.variables) l.permutations.variables l.permutations.count l.permutations.images.now l.i
