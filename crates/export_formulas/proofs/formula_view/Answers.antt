-- `export_formulas::formula_view` meets its contract: the images are all lent, or they are copied. Assumes nothing.
use Rattle.std.proofs.Common.{ap, ◌∙◌, take}
use Rattle.math.specs.Lists.{over}
use Rattle.formula.specs.Laws.Contracts.{formula_with}
use Rattle.formula.specs.Limits.{max_images}
use Rattle.export_formulas.specs.Formulas.{images_from, formula_from}
use Rattle.export_formulas.proofs.formula_view.Goals as goal

pub returns-then-images-lt-MAX_IMAGES : goal.returns-then-images-lt-MAX_IMAGES
unfolding formula_from images_from
returns-then-images-lt-MAX_IMAGES c =
    ap (formula_with c.args.f) (c.put_images.ensures ∙ ap (over (take max_images c.args.images.now)) c.requires)
