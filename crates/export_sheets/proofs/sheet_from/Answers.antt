-- `export_sheets::sheet_from` meets its contract: the formula is made of what is lent. Assumes nothing.
use Rattle.export_sheets.specs.Laws.SheetLaws.{sheet_as}
use Rattle.export_sheets.proofs.sheet_from.Goals as goal

pub returns-then-images-lt-MAX_IMAGES : goal.returns-then-images-lt-MAX_IMAGES
returns-then-images-lt-MAX_IMAGES c = sheet_as c.formula_view.ensures c.write_lent.ensures

pub returns : goal.returns
returns c = sheet_as c.whole_view.ensures c.write_lent-2.ensures
