-- `text_output::put_field` meets its contract: the text, then the number behind it. Assumes nothing.
use Rattle.text_output.specs.Decimal.{numeral}
use Rattle.text_output.specs.Laws.Putting.{places_end, put_both, front_room, back_room}
use Rattle.text_output.proofs.put_field.Goals as goal

pub put_text-place-requires : goal.put_text-place-requires
put_text-place-requires c = front_room c.args.at c.args.head.now (numeral c.args.x) places_end c.requires

pub put_decimal-requires : goal.put_decimal-requires
put_decimal-requires c =
    back_room c.args.at c.args.head.now (numeral c.args.x) places_end c.requires c.put_text-place.ensures

pub returns : goal.returns
returns c = put_both c.put_text-place.ensures c.put_decimal.ensures
