-- `dimacs_targets::target_digits` meets its contract: at digit i what is left is read behind those passed. Assumes
-- nothing.
use Rattle.std.proofs.Common.{sym, ap, ◌∙◌, subst, ◌<◌, ◌+◌, ◌^◌, lt_of_lt_of_le, arith, take, drop, rules}
use Rattle.dimacs_targets.specs.Laws.TargetScans.{with_digit}
use Rattle.dimacs_targets.specs.Laws.TargetScanLaws.{binary_from, binary-begins, digit_joins, digit-below}
use Rattle.dimacs_targets.specs.Laws.TargetScanLaws.{binary_ends, binary_stops, binary_goes_on, binary_within}
use Rattle.formula.specs.Laws.RefusalLaws.{digits_suffice}
use Rattle.dimacs_targets.proofs.target_digits.Goals as goal

pub loop-i-init : goal.loop-i-init
loop-i-init c = (search rules, binary-begins _ _)

pub returns-in_err-one : goal.returns-in_err-one
returns-in_err-one c =
    let l = c.loop-i in
    rw c.from_residual.ensures
    (sym (l.invariant.1 ∙ binary_stops _ _ c.requires.1 l.x l.i c.loop-i-test.true c.in_err-one.ensures))

pub with_digit-x-requires : goal.with_digit-x-requires
with_digit-x-requires c = lt_of_lt_of_le c.loop-i-test.true (digits_suffice c.requires.0)

pub loop-i-preserved : goal.loop-i-preserved
loop-i-preserved c =
    let l = c.loop-i in
    let read = c.in_ok-one.ensures in
    let within = binary_within _ read.0 in
    let moved = c.with_digit-x.ensures ∙ ap (with_digit l.x l.i) read.1 ∙ digit_joins l.x l.i _ l.invariant.0 within.0 within.1 in (
      subst (λ y. y < 2 ^ (l.i + 1)) (sym moved) (digit-below l.x l.i _ l.invariant.0 (let hi = within.1 in omega arith)),
      l.invariant.1 ∙ binary_goes_on _ _ c.requires.1 l.x l.i c.loop-i-test.true read.0
          ∙ ap (λ y. binary_from y (l.i + 1) (drop (l.i + 1) (take c.args.n c.args.bytes.now))) (sym moved),
    )

pub returns : goal.returns
returns c =
    let l = c.loop-i in
    sym (l.invariant.1 ∙ binary_ends _ _ c.requires.1 l.x l.i c.loop-i-test.false)
