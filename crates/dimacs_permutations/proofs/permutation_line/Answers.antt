-- `dimacs_permutations::permutation_line` meets its contract: a seventeenth line, a malformed one, a permutation behind
-- those before. Assumes nothing.
use Rattle.std.proofs.Common.{rules}
use Rattle.dimacs_permutations.specs.Laws.HandlerLaws.{permutation_over, permutation_malformed, permutation_good}
use Rattle.dimacs_permutations.proofs.permutation_line.Goals as goal

pub returns-then-permutations-ge-MAX_PERMUTATIONS : goal.returns-then-permutations-ge-MAX_PERMUTATIONS
returns-then-permutations-ge-MAX_PERMUTATIONS c = search (rules, permutation_over)

pub returns-then-read_permutation : goal.returns-then-read_permutation
returns-then-read_permutation c =
    permutation_good c.read_permutation.ensures c.if-permutations-ge-MAX_PERMUTATIONS.false c.if-read_permutation.true c.requires.0 c.requires.1 c.read_permutation.auto.images

pub returns-else-read_permutation : goal.returns-else-read_permutation
returns-else-read_permutation c =
    permutation_malformed c.read_permutation.ensures c.if-permutations-ge-MAX_PERMUTATIONS.false c.if-read_permutation.false
