-- `text_output::put_line` meets its contract: two texts with numbers behind them, then the line end. Assumes nothing.
use Rattle.std.proofs.Common.{◌++◌, arith}
use Rattle.text_output.specs.Decimal.{field, line_end}
use Rattle.text_output.specs.Laws.Putting.{places_end, put_both, front_room, back_room}
use Rattle.text_output.proofs.put_line.Goals as goal

pub put_field-first-requires : goal.put_field-first-requires
put_field-first-requires c =
    let s = c.args in
    let a = field s.head.now s.a in
    let b = field s.between.now s.b in
    front_room _ a b places_end (front_room _ (a ++ b) line_end places_end c.requires)

pub put_field-second-requires : goal.put_field-second-requires
put_field-second-requires c =
    let s = c.args in
    let a = field s.head.now s.a in
    let b = field s.between.now s.b in
    back_room _ a b places_end (front_room _ (a ++ b) line_end places_end c.requires) c.put_field-first.ensures

pub put_byte-requires : goal.put_byte-requires
put_byte-requires c =
    let s = c.args in
    let a = field s.head.now s.a in
    let b = field s.between.now s.b in
    omega (arith, back_room _ (a ++ b) line_end places_end c.requires (put_both c.put_field-first.ensures c.put_field-second.ensures))

pub returns : goal.returns
returns c = put_both (put_both c.put_field-first.ensures c.put_field-second.ensures) c.put_byte.ensures
