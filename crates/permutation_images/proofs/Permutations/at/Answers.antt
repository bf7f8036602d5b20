-- `Permutations::at` meets its contract. Assumes nothing.
use native.Mathlib.Nat.{add-sub_cancel_left}
use Rattle.permutation_images.proofs.Permutations.at.Goals as goal

pub returns : goal.returns
returns c = rw add-sub_cancel_left
