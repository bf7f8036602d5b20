-- `dimacs::read` meets its contract: the images begin as zeros, and go into the formula. Assumes nothing.
use Rattle.dimacs.specs.Laws.ReadLaws.{read_as}
use Rattle.dimacs.proofs.read.Goals as goal

pub returns : goal.returns
returns c = read_as c.with_images.ensures c.read_lent-r.ensures
