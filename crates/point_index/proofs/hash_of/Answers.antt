-- `point_index::hash_of` meets its contract: neither the products nor their sum wrap, and the remainder loses nothing as
-- a `usize`. Assumes nothing.
use Rattle.std.proofs.Common.{refl, mod-lt, zero-lt-suc}
use Rattle.point_index.specs.Laws.Index.{hash_of}
use Rattle.point_index.proofs.hash_of.Goals as goal

pub returns : goal.returns
unfolding hash_of
returns c = (refl, mod-lt _ (zero-lt-suc 4294967295))
