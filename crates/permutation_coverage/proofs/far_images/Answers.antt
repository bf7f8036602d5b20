-- `permutation_coverage::far_images` meets its contract: each image is changed. Assumes nothing.
use Rattle.std.proofs.Common.{ℕ, ◌<◌, rules}
use Rattle.point_slices.specs.Slices.{points_of}
use Rattle.permutation_coverage.specs.Laws.Coverage.{Stays}
use Rattle.permutation_coverage.specs.Laws.CoverageLaws.{staying_at}
use Rattle.permutation_coverage.proofs.far_images.Goals as goal

pub turn_images-requires-clause-turns : goal.turn_images-requires-clause-turns
turn_images-requires-clause-turns c =
    let p = c.args.permutations in
    let stays : (i : ℕ) → i < p.count → Stays p.variables i p.images.now (points_of c.args.stay.now) = λ i lt. staying_at c.requires.0 lt c.requires.1 in
    search (rules, stays)
