-- `dimacs_output::put_target` meets its contract: the head, the digits, the line end. Assumes nothing.
use Rattle.std.proofs.Common.{sym, arith}
use Rattle.math.specs.Lists.{below}
use Rattle.math.specs.Laws.ListLaws.{length-range}
use Rattle.math.specs.Laws.SplitLaws.{length_flat_map_le}
use Rattle.text_output.specs.Laws.Putting.{put_both, put_as}
use Rattle.dimacs_text.specs.Laws.TextParts.{digit_part, target_parts}
use Rattle.dimacs_output.proofs.put_target.Goals as goal

pub put_byte-requires : goal.put_byte-requires
put_byte-requires c =
    let a = c.args in
    omega (arith, c.put_text-first.ensures.behind, c.put_digits-last.ensures.behind, length_flat_map_le (digit_part a.x) 1 (below a.n) (λ x m. omega arith), length-range 0 a.n, c.requires)

pub returns : goal.returns
returns c =
    let a = c.args in
    put_as (sym (target_parts a.n a.x)) (put_both (put_both c.put_text-first.ensures c.put_digits-last.ensures) c.put_byte.ensures)
