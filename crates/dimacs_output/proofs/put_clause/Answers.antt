-- `dimacs_output::put_clause` meets its contract: a law of ClausePutting for each event of the loop. Assumes nothing.
use Rattle.std.proofs.Common.{lt_of_lt_of_le, arith}
use Rattle.points.specs.Laws.Contracts.{clause_of}
use Rattle.formula.specs.Laws.RefusalLaws.{digits_suffice}
use Rattle.text_output.specs.Laws.Putting.{put_both}
use Rattle.dimacs_output.specs.Laws.ClausePutting.{putting_begins, putting_ends, next_listed}
use Rattle.dimacs_output.specs.Laws.ClausePutting.{variable_room, putting_less, putting_goes_on, clause_put, put_within}
use Rattle.dimacs_output.proofs.put_clause.Goals as goal

pub loop-v-init : goal.loop-v-init
loop-v-init c =
    let a = c.args in
    putting_begins a.n (clause_of a.c) a.at a.out.now c.listed-left.ensures c.requires.1 c.next_variable-v.ensures

pub put_variable-place-requires : goal.put_variable-place-requires
put_variable-place-requires c =
    let a = c.args in
    let p = c.loop-v.invariant in
    let lt = c.loop-v-test.true in
    (lt_of_lt_of_le lt c.requires.0, next_listed a.n (clause_of a.c) a.at a.out.now c.requires.0 p lt, omega (arith, variable_room a.n (clause_of a.c) a.at a.out.now c.requires.0 p lt, c.requires.0, c.requires.2))

pub flip-left-requires : goal.flip-left-requires
flip-left-requires c = lt_of_lt_of_le c.loop-v-test.true (digits_suffice c.requires.0)

pub loop-v-smaller : goal.loop-v-smaller
loop-v-smaller c =
    let a = c.args in
    putting_less a.n (clause_of a.c) a.at a.out.now c.requires.0 c.loop-v.invariant c.loop-v-test.true c.flip-left.ensures

pub loop-v-preserved : goal.loop-v-preserved
loop-v-preserved c =
    let a = c.args in
    putting_goes_on a.n (clause_of a.c) a.at a.out.now c.requires.0 c.loop-v.invariant c.loop-v-test.true c.flip-left.ensures c.next_variable-v-in-loop-v.ensures c.put_variable-place.ensures c.put_variable-place.auto.out

pub put_byte-last-requires : goal.put_byte-last-requires
put_byte-last-requires c =
    let a = c.args in
    omega (arith, put_within a.n (clause_of a.c) a.at a.out.now c.requires.0 c.loop-v.invariant c.loop-v-test.false, c.requires.0, c.requires.2)

pub put_byte-requires : goal.put_byte-requires
put_byte-requires c =
    let a = c.args in
    omega (arith, put_within a.n (clause_of a.c) a.at a.out.now c.requires.0 c.loop-v.invariant c.loop-v-test.false, c.put_byte-last.ensures.behind, c.requires.0, c.requires.2)

pub returns : goal.returns
returns c =
    let a = c.args in
    clause_put a.n (clause_of a.c) a.at a.out.now (putting_ends a.n (clause_of a.c) a.at a.out.now c.requires.0 c.loop-v.invariant c.loop-v-test.false) (put_both c.put_byte-last.ensures c.put_byte.ensures)
