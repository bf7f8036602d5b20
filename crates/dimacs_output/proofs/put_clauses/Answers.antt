-- `dimacs_output::put_clauses` meets its contract: a line each. Assumes nothing.
use Rattle.std.proofs.Common.{sym, ap, subst, ◌^◌, ◌<◌, le_trans, lt_of_lt_of_le, le_of_eq, arith}
use Rattle.math.specs.Laws.ListLaws.{get_d_in}
use Rattle.points.specs.Points.{empty_clause, listed}
use Rattle.point_slices.specs.Laws.Contracts.{clauses_lent}
use Rattle.text_output.specs.Laws.Putting.{places_end, first-none, first_next, first-all, room_left, put_as}
use Rattle.dimacs_text.specs.Laws.TextParts.{clause_part}
use Rattle.dimacs_text.specs.Laws.LengthLaws.{longest_clause}
use Rattle.dimacs_text.proofs.ClauseLines.{clause-length}
use Rattle.dimacs_output.proofs.put_clauses.Goals as goal

pub loop-i-init : goal.loop-i-init
loop-i-init c =
    let a = c.args in
    first-none (clause_part a.n) (clauses_lent a.clauses) a.at a.out.now

pub put_clause-place-requires : goal.put_clause-place-requires
put_clause-place-requires c =
    let a = c.args in
    let cs = clauses_lent a.clauses in
    let lt = lt_of_lt_of_le c.loop-i-test.true (le_of_eq c.count-i-end.ensures) in (
      c.requires.0,
      subst (λ k. listed k < 2 ^ a.n) (sym c.at.ensures) (c.requires.1 _ (get_d_in cs c.loop-i.i empty_clause lt)),
      room_left (clause_part a.n) longest_clause cs (λ k m. le_trans (clause-length a.n k c.requires.0) (omega (arith, c.requires.0))) a.at a.out.now c.loop-i.invariant lt places_end c.requires.2,
    )

pub loop-i-preserved : goal.loop-i-preserved
loop-i-preserved c =
    let a = c.args in
    let cs = clauses_lent a.clauses in
    let lt = lt_of_lt_of_le c.loop-i-test.true (le_of_eq c.count-i-end.ensures) in
    first_next (clause_part a.n) cs a.at a.out.now c.loop-i.invariant empty_clause lt
    (put_as (ap (clause_part a.n) c.at.ensures) c.put_clause-place.ensures) c.put_clause-place.auto.out

pub returns : goal.returns
returns c =
    let a = c.args in
    first-all (clause_part a.n) (clauses_lent a.clauses) a.at a.out.now c.loop-i.invariant (le_trans (le_of_eq (sym c.count-i-end.ensures)) c.loop-i-test.false)
