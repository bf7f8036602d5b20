-- `formula::refusals::permutations_refusal` meets its contract: too many first, then the first that is none. Assumes
-- nothing.
use Rattle.std.proofs.Common.{List, ◌≡◌, ℕ, sym, ap, not, ◌∙◌, ◌≤◌, le_of_eq, le_trans, lt_of_lt_of_le, length}
use Rattle.math.specs.Lists.{first_failing}
use Rattle.permutation_images.specs.Laws.LoopLaws.{length-permutations, testing_begins, testing_whole, testing_stops}
use Rattle.permutation_images.specs.Laws.LoopLaws.{testing_goes_on, testing_ends}
use Rattle.permutation_theory.specs.Permutations.{Permutation, is_permutation}
use Rattle.formula.specs.Limits.{max_permutations}
use Rattle.formula.specs.Refusals.{permutation_fault}
use Rattle.formula.specs.Reply.{Fault, fault_at}
use Rattle.formula.specs.Laws.ReplyLaws.{fault_zero, fault_found}
use Rattle.formula.specs.Laws.RefusalLaws.{too_many, few_enough, digits_suffice}
use Rattle.formula.proofs.refusals.permutations_refusal.Goals as goal

-- of few enough permutations the fault is that of the first which is none
few : (n k : ℕ) (es : List Permutation) {f : Fault} → k ≤ max_permutations → length es ≡ k
    → f ≡ fault_at 11 (first_failing (is_permutation n) es) → f ≡ permutation_fault n es
few n k es room e h = h ∙ sym (few_enough n es (le_trans (le_of_eq e) room))

pub returns-then-permutations-gt-MAX_PERMUTATIONS : goal.returns-then-permutations-gt-MAX_PERMUTATIONS
returns-then-permutations-gt-MAX_PERMUTATIONS c = too_many _ _ (lt_of_lt_of_le c.if-permutations-gt-MAX_PERMUTATIONS.true (le_of_eq (sym (length-permutations _ _ _))))

pub loop-i-init : goal.loop-i-init
loop-i-init c = testing_begins (c.requires.1 c.if-permutations-gt-MAX_PERMUTATIONS.false)

pub at-requires : goal.at-requires
at-requires c = testing_whole c.loop-i.invariant c.loop-i-test.true

pub is_permutation-requires : goal.is_permutation-requires
is_permutation-requires c = digits_suffice c.requires.0

pub returns-then-not-is_permutation : goal.returns-then-not-is_permutation
returns-then-not-is_permutation c =
    few _ _ _ c.if-permutations-gt-MAX_PERMUTATIONS.false (length-permutations _ _ _)
    (fault_found 11 _ _ (testing_stops c.loop-i.invariant c.loop-i-test.true c.at.ensures c.is_permutation.ensures (ap not c.if-not-is_permutation.true)))

pub loop-i-preserved : goal.loop-i-preserved
loop-i-preserved c = testing_goes_on c.loop-i.invariant c.loop-i-test.true c.at.ensures c.is_permutation.ensures (ap not c.if-not-is_permutation.false)

pub returns : goal.returns
returns c =
    few _ _ _ c.if-permutations-gt-MAX_PERMUTATIONS.false (length-permutations _ _ _)
    (fault_zero 11 _ (sym (testing_ends c.loop-i.invariant c.loop-i-test.false)))
