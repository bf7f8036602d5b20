use Rattle.points.specs.Points.{numbered}
use Rattle.point_slices.specs.Laws.Contracts.{clauses_lent}
use Rattle.permutation_theory.specs.Permutations.{keeps}
use Rattle.permutation_images.specs.Laws.LoopLaws.{Testing}
use Rattle.permutation_symmetry.proofs.first_not_kept.Given as goal

abbrev pub invariant-loop-j : goal.invariant-loop-j
invariant-loop-j l =
    Testing (keeps (numbered (clauses_lent l.clauses))) l.permutations.variables l.permutations.count l.permutations.images.now l.j
