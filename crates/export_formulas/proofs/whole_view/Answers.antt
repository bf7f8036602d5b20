-- `export_formulas::whole_view` meets its contract: all images are lent. Assumes nothing.
use Rattle.export_formulas.specs.Laws.FormulaLaws.{lent-images}
use Rattle.export_formulas.proofs.whole_view.Goals as goal

pub returns : goal.returns
returns c = lent-images c.args.f c.args.images.now c.requires
