-- `certificate::bodies::field` meets its contract. Assumes nothing.
use Rattle.std.proofs.Common.{sym, ◌∙◌}
use Rattle.certificate.specs.Bytes.{number_from, field_width}
use Rattle.math.specs.Laws.NumeralLaws.{entry_of}
use Rattle.certificate.proofs.bodies.field.Goals as goal

pub returns : goal.returns
returns c = c.entry.ensures.0 ∙ sym (entry_of number_from field_width 8 c.args.file.now c.args.i c.requires.0)
