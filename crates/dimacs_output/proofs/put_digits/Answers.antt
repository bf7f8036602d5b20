-- `dimacs_output::put_digits` meets its contract: a digit each. Assumes nothing.
use Rattle.std.proofs.Common.{cond, [], ◌∷◌, sym, ap, ◌∙◌, subst, ℕ, ◌<◌, ◌≤◌, zero-add, arith, length, ◌+◌}
use Rattle.math.specs.Bits.{bit}
use Rattle.math.specs.Lists.{below}
use Rattle.math.specs.Laws.ListLaws.{length-range, get_d_range}
use Rattle.text_output.specs.Laws.Putting.{places_end, first-none, first_next, first-all, room_left, put_as}
use Rattle.dimacs_text.specs.Laws.TextParts.{digit_part}
use Rattle.dimacs_output.specs.Laws.LiteralPutting.{digit_if}
use Rattle.dimacs_output.proofs.put_digits.Goals as goal

inside : (i n : ℕ) → i < n → i < length (below n)
inside i n lt = subst (λ k. i < k) (sym (length-range 0 n)) lt

pub loop-i-init : goal.loop-i-init
loop-i-init c = let a = c.args in first-none (digit_part a.x) (below a.n) a.at a.out.now

pub put_byte-place-requires : goal.put_byte-place-requires
put_byte-place-requires c =
    let a = c.args in
    let lt = inside c.loop-i.i a.n c.loop-i-test.true in
    omega (arith, room_left (digit_part a.x) 1 (below a.n) (λ x m. omega arith) a.at a.out.now c.loop-i.invariant lt places_end (omega (arith, length-range 0 a.n, c.requires)))

pub loop-i-preserved : goal.loop-i-preserved
loop-i-preserved c =
    let a = c.args in
    let i = c.loop-i.i in
    let lt = c.loop-i-test.true in
    first_next (digit_part a.x) (below a.n) a.at a.out.now c.loop-i.invariant 0 (inside i a.n lt)
    (put_as (ap (λ b. b ∷ []) (ap (λ d. 48 + d) c.from-digit.ensures ∙ digit_if c.member.result ∙ ap (λ t. cond {A = ℕ} t 49 48) (c.member.ensures ∙ ap (bit a.x) (sym (get_d_range 0 a.n i 0 lt ∙ zero-add i))))) c.put_byte-place.ensures) c.put_byte-place.auto.out

pub returns : goal.returns
returns c =
    let a = c.args in
    first-all (digit_part a.x) (below a.n) a.at a.out.now c.loop-i.invariant (subst (λ k. k ≤ c.loop-i.i) (sym (length-range 0 a.n)) c.loop-i-test.false)
