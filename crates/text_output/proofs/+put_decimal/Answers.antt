-- `text_output::put_decimal` meets its contract: the digits of the tenth, then the last one. The measure is the
-- number. Assumes nothing.
use Rattle.std.proofs.Common.{[], ◌∷◌, sym, ap, subst, ℕ, ◌+◌, ◌/◌, ◌%◌, ◌≤◌, ◌<◌, arith, length, rules}
use Rattle.text_output.specs.Decimal.{numeral}
use Rattle.text_output.specs.Laws.Putting.{places_end, put_as, put_both, front_room, back_room}
use Rattle.text_output.specs.Laws.DecimalLaws.{numeral_small, numeral_large}
use Rattle.text_output.proofs.+put_decimal.Goals as goal

pub put_digit-requires : goal.put_digit-requires
put_digit-requires t c = (c.if-x-lt10.true, omega (arith, ap length (numeral_small c.args.x c.if-x-lt10.true), c.requires))

pub shape_of-out-then-x-lt10 : goal.shape_of-out-then-x-lt10
shape_of-out-then-x-lt10 t c = search rules

pub returns-then-x-lt10 : goal.returns-then-x-lt10
returns-then-x-lt10 t c = put_as (sym (numeral_small c.args.x c.if-x-lt10.true)) c.put_digit.ensures

pub put_decimal-place-requires : goal.put_decimal-place-requires
put_decimal-place-requires t c =
    let a = c.args in
    let room = subst (λ l. a.at + length l ≤ places_end) (numeral_large a.x c.if-x-lt10.false) c.requires in
    (subst (λ (k : ℕ). a.x / 10 < k) c.decreases (omega arith), front_room a.at (numeral (a.x / 10)) ((48 + a.x % 10) ∷ []) places_end room)

pub put_digit-requires-2 : goal.put_digit-requires-2
put_digit-requires-2 t c =
    let a = c.args in
    let room = subst (λ l. a.at + length l ≤ places_end) (numeral_large a.x c.if-x-lt10.false) c.requires in
    (omega arith, omega (arith, back_room a.at (numeral (a.x / 10)) ((48 + a.x % 10) ∷ []) places_end room c.put_decimal-place.ensures))

pub shape_of-out : goal.shape_of-out
shape_of-out t c = search rules

pub returns : goal.returns
returns t c = put_as (sym (numeral_large c.args.x c.if-x-lt10.false)) (put_both c.put_decimal-place.ensures c.put_digit-2.ensures)
