-- `dimacs_output::put_variable` meets its contract: both literals, or the one that the clause lists. Assumes nothing.
use Rattle.std.proofs.Common.{sym, ap, ◌∙◌, ◌+◌, arith}
use Rattle.points.specs.Laws.Contracts.{clause_of}
use Rattle.text_output.specs.Laws.Putting.{put_both, put_as}
use Rattle.dimacs_text.specs.Laws.TextParts.{literal_part}
use Rattle.dimacs_output.specs.Laws.LiteralPutting.{signed, common_bit, both_ways, one_way}
use Rattle.dimacs_output.proofs.put_variable.Goals as goal

pub put_literal-place-requires : goal.put_literal-place-requires
put_literal-place-requires c = (c.requires.0, omega (arith, c.requires.2))

pub put_literal-requires : goal.put_literal-requires
put_literal-requires c = (c.requires.0, omega (arith, c.put_literal-place.ensures.1, c.requires.2))

pub returns-then-member : goal.returns-then-member
returns-then-member c =
    let a = c.args in
    put_as (both_ways (clause_of a.c) a.v (sym (common_bit (clause_of a.c) a.v _ _ c.common-both.ensures c.member.ensures) ∙ c.if-member.true))
    (put_both c.put_literal-place.ensures.0 c.put_literal.ensures.0)

pub put_literal-requires-2 : goal.put_literal-requires-2
put_literal-requires-2 c = (c.requires.0, omega (arith, c.requires.2))

pub returns : goal.returns
returns c =
    let a = c.args in
    put_as (ap (λ b. literal_part (signed b (a.v + 1))) c.member-unwanted.ensures ∙ one_way (clause_of a.c) a.v (sym (common_bit (clause_of a.c) a.v _ _ c.common-both.ensures c.member.ensures) ∙ c.if-member.false) c.requires.1)
    c.put_literal-2.ensures.0
