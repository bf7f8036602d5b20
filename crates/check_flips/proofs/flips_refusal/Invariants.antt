use Rattle.std.proofs.Common.{◌≡◌, drop}
use Rattle.point_slices.specs.Laws.Contracts.{clauses_lent}
use Rattle.math.specs.Lists.{first_failing, below}
use Rattle.math.specs.Laws.ScanLaws.{on_from}
use Rattle.points.specs.Points.{numbered}
use Rattle.point_slices.specs.Slices.{points_of}
use Rattle.permutation_images.specs.Laws.Contracts.{permutations_of}
use Rattle.point_index.specs.Laws.Looking.{indexed_points}
use Rattle.permutation_coverage.specs.Laws.Coverage.{Imaged}
use Rattle.check_flips.specs.Flips.{flips_pass}
use Rattle.check_flips.proofs.flips_refusal.Given as goal

abbrev pub invariant-loop-i : goal.invariant-loop-i
invariant-loop-i l =
    (first_failing (flips_pass l.permutations.variables (numbered (clauses_lent l.clauses)) (permutations_of l.permutations) (indexed_points l.index) l.falsified) (below l.index.count)
    ≡ on_from l.i (first_failing (flips_pass l.permutations.variables (numbered (clauses_lent l.clauses)) (permutations_of l.permutations) (indexed_points l.index) l.falsified) (drop l.i (below l.index.count))))
    × Imaged l.permutations.variables l.permutations.count l.permutations.images.now l.seen (points_of l.moved)
