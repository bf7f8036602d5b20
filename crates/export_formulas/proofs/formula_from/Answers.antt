-- `export_formulas::formula_from` meets its contract. Assumes nothing.
use Rattle.std.proofs.Common.{refl, sym, rules}
use Rattle.math.specs.Lists.{over}
use Rattle.export_formulas.specs.Formulas.{images_from, formula_from}
use Rattle.export_formulas.proofs.formula_from.Goals as goal

pub put_images-requires : goal.put_images-requires
put_images-requires c = search rules

pub returns : goal.returns
unfolding formula_from images_from over
returns c = rw (sym c.put_images.ensures) refl
