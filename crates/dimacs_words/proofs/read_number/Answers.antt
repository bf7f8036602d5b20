-- `dimacs_words::read_number` meets its contract: the number is, at index i, that of the digits from i on behind those
-- passed. Assumes nothing.
use Rattle.std.proofs.Common.{true, ◌≡◌, sym, ◌∙◌, ◌<◌, arith, get_or, rules}
use Rattle.dimacs_format.specs.Text.{is_digit}
use Rattle.dimacs_words.specs.Laws.ScanLaws.{number_sized, word_holds, number_begins, number_ends}
use Rattle.dimacs_words.specs.Laws.ScanLaws.{number_stops, number_goes_on, digit_within, value_grows, value_small}
use Rattle.dimacs_words.proofs.read_number.Goals as goal
use Rattle.dimacs_words.proofs.read_number.Goals.{Else-not-is_digit}

-- the byte is a digit, and the value passed is small
digit : (c : Else-not-is_digit) → is_digit (get_or c.args.w.now c.loop-b.b-index 0) ≡ true
digit c = sym c.is_digit.ensures ∙ c.if-not-is_digit.false

small : (c : Else-not-is_digit) → c.loop-b.v < 1000
small c = value_small c.loop-b.b-index _ c.loop-b.invariant.0 (omega arith)

pub returns-then-is_empty : goal.returns-then-is_empty
returns-then-is_empty c = number_sized _ c.is_empty.ensures c.then-is_empty.either

pub loop-b-init : goal.loop-b-init
loop-b-init c = (search rules, number_begins _ (word_holds _ (sym c.is_empty.ensures ∙ c.if-is_empty.false)) c.if-w-gt4.false)

pub returns-then-not-is_digit : goal.returns-then-not-is_digit
returns-then-not-is_digit c =
    let l = c.loop-b in
    sym (l.invariant.1 ∙ number_stops l.v _ l.b-index c.loop-b-test.true (sym c.is_digit.ensures ∙ c.if-not-is_digit.true))

pub overflow_mul-v : goal.overflow_mul-v
overflow_mul-v c = omega (arith, small (goal.at.overflow_mul-v c).Else-not-is_digit)

pub overflow_sub-b : goal.overflow_sub-b
overflow_sub-b c = (digit_within _ (digit (goal.at.overflow_sub-b c).Else-not-is_digit)).0

pub overflow_add-v : goal.overflow_add-v
overflow_add-v c =
    let e = (goal.at.overflow_add-v c).Else-not-is_digit in omega (arith, small e, (digit_within _ (digit e)).1, c.from.ensures)

pub loop-b-preserved : goal.loop-b-preserved
loop-b-preserved c =
    let l = c.loop-b in
    let d = digit (goal.at.loop-b-preserved c).Else-not-is_digit in
    rw c.from.ensures
    (value_grows l.b-index l.v _ l.invariant.0 (let z = (digit_within _ d).1 in omega arith), l.invariant.1 ∙ number_goes_on l.v _ l.b-index c.loop-b-test.true d)

pub returns : goal.returns
returns c =
    let l = c.loop-b in
    sym (l.invariant.1 ∙ number_ends l.v _ l.b-index c.loop-b-test.false)
