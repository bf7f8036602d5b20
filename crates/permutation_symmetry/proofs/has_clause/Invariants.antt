use Rattle.std.proofs.Common.{◌≡◌, drop}
use Rattle.math.specs.Lists.{any}
use Rattle.point_slices.specs.Laws.Contracts.{clauses_lent}
use Rattle.points.specs.Laws.Contracts.{clause_of}
use Rattle.permutation_theory.specs.Permutations.{same_clause}
use Rattle.permutation_symmetry.proofs.has_clause.Given as goal

abbrev pub invariant-loop-at : goal.invariant-loop-at
invariant-loop-at l =
    any (same_clause (clause_of l.c)) (clauses_lent l.clauses) ≡ any (same_clause (clause_of l.c)) (drop l.at (clauses_lent l.clauses))
