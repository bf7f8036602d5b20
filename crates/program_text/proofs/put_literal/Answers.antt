-- `program_text::put_literal` meets its contract: the sign is that of the bit. Assumes nothing.
use Rattle.std.proofs.Common.{sym, ap, ◌∙◌, ◌+◌, ◌<◌, arith}
use Rattle.text_output.specs.Decimal.{field}
use Rattle.text_output.specs.Laws.DecimalLaws.{numeral-length}
use Rattle.text_output.specs.Laws.Putting.{put_as}
use Rattle.program_text.specs.Report.{sign}
use Rattle.program_text.proofs.put_literal.Goals as goal

pub put_field-requires : goal.put_field-requires
put_field-requires c =
    omega (arith, numeral-length 1 (c.args.i + 1) (let z : c.args.i + 1 < 100 = omega (arith, c.requires.0) in z), c.requires.1)

pub returns-then-member : goal.returns-then-member
unfolding sign
returns-then-member c =
    put_as (ap (λ b. field (sign b) (c.args.i + 1)) (sym c.if-member.true ∙ c.member.ensures)) c.put_field.ensures

pub put_field-requires-else-member : goal.put_field-requires-else-member
put_field-requires-else-member c =
    omega (arith, numeral-length 1 (c.args.i + 1) (let z : c.args.i + 1 < 100 = omega (arith, c.requires.0) in z), c.requires.1)

pub returns-else-member : goal.returns-else-member
unfolding sign
returns-else-member c =
    put_as (ap (λ b. field (sign b) (c.args.i + 1)) (sym c.if-member.false ∙ c.member.ensures)) c.put_field-else-member.ensures
