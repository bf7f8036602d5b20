-- `dimacs_words::read_digits` meets its contract: the digits passed, and one law for each way out. Assumes nothing.
use Rattle.std.proofs.Common.{true, ◌≡◌, sym, ◌∙◌, ◌<◌, arith, length, subst, get_or}
use Rattle.dimacs_format.specs.Text.{is_digit}
use Rattle.dimacs_words.specs.Laws.ScanLaws.{Passed, passed_first, passed_digit, digits-none, digits_end}
use Rattle.dimacs_words.specs.Laws.ScanLaws.{digits_bad, digits_many, digit_within, value_small}
use Rattle.dimacs_words.proofs.read_digits.Goals as goal
use Rattle.dimacs_words.proofs.read_digits.Goals.{Else-passed-ge4}

-- the byte is a digit, and the value passed is small
digit : (c : Else-passed-ge4) → is_digit (get_or c.args.text.now c.loop-i.i 0) ≡ true
digit c = sym c.is_digit-in-loop-i.ensures ∙ c.if-not-is_digit-2.false

small : (c : Else-passed-ge4) → c.loop-i.v < 1000
small c = value_small _ _ c.loop-i.invariant.small (let few = c.if-passed-ge4.false in omega arith)

pub returns-then-text-from : goal.returns-then-text-from
returns-then-text-from c = digits-none c.args.text.now _ _ c.requires (λ lt. absurd (let z : ⊥ = omega (arith, c.if-text-from.true) in z))

pub returns-then-not-is_digit : goal.returns-then-not-is_digit
returns-then-not-is_digit c = digits-none c.args.text.now _ _ c.requires (λ lt. sym c.is_digit.ensures ∙ c.if-not-is_digit.true)

pub overflow_sub-first : goal.overflow_sub-first
overflow_sub-first c = (digit_within _ (sym c.is_digit.ensures ∙ c.if-not-is_digit.false)).0

pub loop-i-init : goal.loop-i-init
loop-i-init c = rw c.from-v.ensures (passed_first c.if-text-from.false (sym c.is_digit.ensures ∙ c.if-not-is_digit.false))

pub returns-then-not-ends_word : goal.returns-then-not-ends_word
returns-then-not-ends_word c = digits_bad c.loop-i.invariant _ c.loop-i-test.true (sym c.is_digit-in-loop-i.ensures ∙ c.if-not-is_digit-2.true) (sym c.ends_word.ensures ∙ c.if-not-ends_word.true)

pub returns-then-not-is_digit-2 : goal.returns-then-not-is_digit-2
returns-then-not-is_digit-2 c = digits_end c.loop-i.invariant _ (omega arith) (λ _. sym c.ends_word.ensures ∙ c.if-not-ends_word.false) c.made_word.ensures

pub returns-then-passed-ge4 : goal.returns-then-passed-ge4
returns-then-passed-ge4 c = digits_many c.loop-i.invariant _ c.loop-i-test.true (sym c.is_digit-in-loop-i.ensures ∙ c.if-not-is_digit-2.false) c.if-passed-ge4.true

pub overflow_mul-v : goal.overflow_mul-v
overflow_mul-v c = omega (arith, small (goal.at.overflow_mul-v c).Else-passed-ge4)

pub overflow_sub-b : goal.overflow_sub-b
overflow_sub-b c = (digit_within _ (digit (goal.at.overflow_sub-b c).Else-passed-ge4)).0

pub overflow_add-v : goal.overflow_add-v
overflow_add-v c =
    let e = (goal.at.overflow_add-v c).Else-passed-ge4 in omega (arith, small e, (digit_within _ (digit e)).1, c.from.ensures)

pub loop-i-preserved : goal.loop-i-preserved
loop-i-preserved c =
    rw c.from.ensures
    (passed_digit c.loop-i.invariant c.loop-i-test.true (digit (goal.at.loop-i-preserved c).Else-passed-ge4) c.if-passed-ge4.false)

pub returns : goal.returns
returns c =
    let end : c.loop-i.i ≡ length c.args.text.now = omega arith in
    digits_end (subst (Passed c.args.text.now c.args.from c.loop-i.v) end c.loop-i.invariant) _ (omega arith) (λ lt. absurd (let z : ⊥ = omega arith in z)) c.made_word-2.ensures
