-- `point_index::add` meets its contract: a law of IndexLaws for each way out. Assumes nothing.
use Rattle.std.proofs.Common.{refl}
use Rattle.point_index.specs.Laws.IndexLaws.{adds_none, adds_one}
use Rattle.point_index.proofs.add.Goals as goal

pub returns-in-Ok : goal.returns-in-Ok
returns-in-Ok c = adds_none c.requires c.in-Ok.ensures refl

pub returns-in-Err : goal.returns-in-Err
returns-in-Err c = adds_one c.requires c.in-Err.ensures refl _ c.put.ensures
