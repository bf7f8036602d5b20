-- `permutation_images::image_of_point` meets its contract. Assumes nothing.
use Rattle.permutation_theory.specs.Permutations.{image_of_point}
use Rattle.permutation_images.proofs.image_of_point.Goals as goal

pub returns : goal.returns
unfolding image_of_point
returns c = c.moved.ensures
