-- What the functions on the target line promise, from what was said to what is said with one line more. Assumes
-- nothing.
use Rattle.std.specs.Prelude.{Bool, false, true, cond, List, ◌≡◌, ℕ, ◌^◌, eqb, take, Option as Answer, Some, None, Result}
use Rattle.std.proofs.Math.Option.{Option, some, none}
use Rattle.std.specs.Int.Bits.{bit_or}
use Rattle.math.specs.Lists.{all}
use Rattle.formula.specs.declared.reasons.Refusal.{Refusal}
use Rattle.dimacs_format.specs.Reader.{is_binary, binary, goes, target_said}
use Rattle.dimacs_format.specs.Laws.AnswerLaws.{step_then}

-- the target that the code holds, if there is one
abbrev pub wanted_of : Answer ℕ → Option ℕ
wanted_of (Some x) = some x
wanted_of None = none

-- the digit that a byte is
abbrev pub DigitRead : ℕ → Answer Bool → Type 0
DigitRead b (Some one) = (is_binary b ≡ true) × (one ≡ eqb b 49)
DigitRead b None = is_binary b ≡ false

-- a point with one more digit, that of bit i
abbrev pub with_digit : ℕ → ℕ → Bool → ℕ
with_digit x i one = cond one (bit_or x (2 ^ i)) x

-- the first n bytes as digits 0 and 1
unfoldable pub binary_in : ℕ → List ℕ → Option ℕ
unfolding all is_binary binary
binary_in n bytes = cond (all is_binary (take n bytes)) (some (binary (take n bytes))) none

-- what a target line leads to
pub record TargetRead (n place : ℕ) (bytes : List ℕ) (w : Answer ℕ) (r : Result ℕ Refusal) : Type 0 where
  pub step : step_then r (λ x. goes (some x)) ≡ target_said n (wanted_of w) place bytes
