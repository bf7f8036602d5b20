-- `dimacs_permutations::next_image` meets its contract: one law for each way out. Assumes nothing.
use Rattle.std.proofs.Common.{inr, eq-eqb, ne_eqb}
use Rattle.dimacs_format.specs.Text.{ends_line}
use Rattle.dimacs_permutations.specs.Laws.PermutationScanLaws.{digits_absent, digits-over, digits_last, digits_parted}
use Rattle.dimacs_permutations.proofs.next_image.Goals as goal

pub returns-in_default : goal.returns-in_default
returns-in_default c =
    digits_absent c.args.n c.args.bytes.now _ _ c.run_end-from.ensures c.in_default.ensures

pub returns-then-bytes-to : goal.returns-then-bytes-to
returns-then-bytes-to c =
    digits_last c.args.n c.args.bytes.now _ _ c.run_end-from.ensures c.in-Some.field-0 c.in-Some.ensures c.if-bytes-to.true c.image_made.ensures

pub returns-then-bytes-to-eq10 : goal.returns-then-bytes-to-eq10
unfolding ends_line
returns-then-bytes-to-eq10 c =
    inr (digits-over c.args.n c.args.bytes.now _ _ c.run_end-from.ensures c.in-Some.field-0 c.in-Some.ensures c.if-bytes-to.false (eq-eqb _ _ c.if-bytes-to-eq10.true))

pub returns : goal.returns
unfolding ends_line
returns c =
    digits_parted c.args.n c.args.bytes.now _ _ c.run_end-from.ensures c.in-Some.field-0 c.in-Some.ensures c.if-bytes-to.false (ne_eqb _ _ c.if-bytes-to-eq10.false) c.image_made-2.ensures
