-- `permutation_images::image_of_clause` meets its contract. Assumes nothing.
use Rattle.std.proofs.Common.{ap₂}
use Rattle.points.specs.Points.{Clause}
use Rattle.permutation_theory.specs.Permutations.{image_of_clause}
use Rattle.permutation_images.proofs.image_of_clause.Goals as goal

pub returns : goal.returns
unfolding image_of_clause
returns c = ap₂ (λ p n. let d : Clause = record { positive = p; negative = n } in d) c.image_of_set.ensures c.image_of_set-2.ensures
