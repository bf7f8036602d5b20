-- `dimacs_output::put_literal` meets its contract: four bytes, of which the next may stand on the first two. Assumes
-- nothing.
use Rattle.std.proofs.Common.{refl, ◌∙◌, ◌+◌, ◌<◌, arith, leb}
use Rattle.dimacs_output.specs.Laws.LiteralPutting.{one_if, literal_put, literal_most, one_most}
use Rattle.dimacs_output.proofs.put_literal.Goals as goal

pub overflow_add-first : goal.overflow_add-first
overflow_add-first c = omega (arith, c.from.ensures, one_if c.args.unwanted, one_most c.args.unwanted, c.requires.1)

pub put_byte-requires-2 : goal.put_byte-requires-2
put_byte-requires-2 c = omega (arith, c.from.ensures, one_if c.args.unwanted, one_most c.args.unwanted, c.requires.1)

pub overflow_add-last : goal.overflow_add-last
overflow_add-last c = omega (arith, c.from.ensures, one_if c.args.unwanted, one_most c.args.unwanted, c.from-2.ensures, one_if (leb 10 (c.args.v + 1)), one_most (leb 10 (c.args.v + 1)), c.requires.1)

pub put_byte-behind-requires : goal.put_byte-behind-requires
put_byte-behind-requires c = omega (arith, c.from.ensures, one_if c.args.unwanted, one_most c.args.unwanted, c.from-2.ensures, one_if (leb 10 (c.args.v + 1)), one_most (leb 10 (c.args.v + 1)), c.requires.1)

pub put_byte-requires-3 : goal.put_byte-requires-3
put_byte-requires-3 c =
    omega (arith, c.from.ensures, one_if c.args.unwanted, one_most c.args.unwanted, c.from-2.ensures, one_if (leb 10 (c.args.v + 1)), one_most (leb 10 (c.args.v + 1)), c.put_byte-behind.ensures.behind, c.requires.1)

pub returns : goal.returns
returns c =
    let a = c.args in
    let lt : a.v + 1 < 100 = omega (arith, c.requires.0) in
    let put = literal_put a.unwanted _ (a.v + 1) lt refl c.put_byte.ensures (c.from.ensures ∙ one_if a.unwanted) c.put_byte-2.ensures (c.from-2.ensures ∙ one_if (leb 10 (a.v + 1))) c.put_byte-behind.ensures c.put_byte-3.ensures in
    (put, literal_most a.unwanted (a.v + 1) lt put)
