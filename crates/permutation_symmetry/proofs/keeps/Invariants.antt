use Rattle.std.proofs.Common.{◌≡◌, drop}
use Rattle.math.specs.Lists.{all}
use Rattle.point_slices.specs.Laws.Contracts.{clauses_lent}
use Rattle.permutation_theory.specs.Permutations.{image_among}
use Rattle.permutation_symmetry.proofs.keeps.Given as goal

abbrev pub invariant-loop-i : goal.invariant-loop-i
invariant-loop-i l =
    all (image_among (clauses_lent l.clauses) (record { images = l.e })) (clauses_lent l.clauses)
    ≡ all (image_among (clauses_lent l.clauses) (record { images = l.e })) (drop l.i (clauses_lent l.clauses))
