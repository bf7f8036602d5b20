-- `dimacs_permutations::read_permutation` meets its contract: a number right behind the head, the numbers stored, the
-- permutation test over them. Assumes nothing.
use Rattle.std.proofs.Common.{◌≡◌, sym, ◌∙◌, length, eqb-true, arith, rules}
use native.Mathlib.Nat.{add-sub_cancel_left}
use Rattle.dimacs_words.specs.Laws.ScanLaws.{word_holds}
use Rattle.dimacs_permutations.specs.Laws.PermutationScanLaws.{permutation_empty, permutation_blank}
use Rattle.dimacs_permutations.specs.Laws.PermutationScanLaws.{permutation_unstored, permutation_stored, part_size}
use Rattle.formula.specs.Laws.RefusalLaws.{digits_suffice}
use Rattle.dimacs_permutations.proofs.read_permutation.Goals as goal
use Rattle.dimacs_permutations.proofs.read_permutation.Goals.{After-store_numbers}

-- the part keeps its n bytes
sized : (c : After-store_numbers) → length c.store_numbers.new.part ≡ c.args.n
sized c = c.store_numbers.auto.part ∙ part_size c.args.n c.args.at c.args.images.now c.requires.1

pub returns-then-is_empty : goal.returns-then-is_empty
returns-then-is_empty c =
    let none : length c.args.bytes.now ≡ 0 = eqb-true _ _ (sym c.is_empty.ensures ∙ c.if-is_empty.true) in
    permutation_empty _ c.args.bytes.now c.args.at _ (omega arith)

pub returns-then-blank : goal.returns-then-blank
returns-then-blank c =
    permutation_blank _ c.args.bytes.now c.args.at _ (sym c.is_blank-blank.ensures ∙ c.if-blank.true) (word_holds _ (sym c.is_empty.ensures ∙ c.if-is_empty.false))

pub is_permutation-requires : goal.is_permutation-requires
is_permutation-requires c = search (rules, digits_suffice)

pub returns-then-store_numbers : goal.returns-then-store_numbers
returns-then-store_numbers c =
    permutation_stored _ c.args.bytes.now c.args.at c.args.images.now _ _ (add-sub_cancel_left c.args.at c.args.n) c.requires.1 (sized (goal.at.returns-then-store_numbers c).After-store_numbers)
    (sym c.is_blank-blank.ensures ∙ c.if-blank.false) (word_holds _ (sym c.is_empty.ensures ∙ c.if-is_empty.false)) c.store_numbers.result c.store_numbers.ensures c.if-store_numbers.true _ c.is_permutation.ensures

pub returns-else-store_numbers : goal.returns-else-store_numbers
returns-else-store_numbers c =
    rw c.if-store_numbers.false
    (permutation_unstored _ c.args.bytes.now c.args.at c.args.images.now _ _ (add-sub_cancel_left c.args.at c.args.n) c.requires.1 (sized (goal.at.returns-else-store_numbers c).After-store_numbers)
    (sym c.is_blank-blank.ensures ∙ c.if-blank.false) (word_holds _ (sym c.is_empty.ensures ∙ c.if-is_empty.false)) c.store_numbers.result c.store_numbers.ensures c.if-store_numbers.false)
