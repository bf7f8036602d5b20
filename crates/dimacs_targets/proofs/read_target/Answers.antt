-- `dimacs_targets::read_target` meets its contract: long enough, then blanks behind the digits, then the digits.
-- Assumes nothing.
use Rattle.std.proofs.Common.{sym, ◌∙◌}
use Rattle.dimacs_targets.specs.Laws.TargetScanLaws.{target_short, target_unblank, target_blank}
use Rattle.dimacs_targets.proofs.read_target.Goals as goal

pub returns-then-bytes-size : goal.returns-then-bytes-size
returns-then-bytes-size c = target_short _ _ c.if-bytes-size.true

pub returns-then-not-blank_from : goal.returns-then-not-blank_from
returns-then-not-blank_from c = target_unblank _ c.args.bytes.now (sym c.blank_from.ensures ∙ c.if-not-blank_from.true)

pub returns : goal.returns
returns c =
    c.target_digits.ensures ∙ target_blank _ c.args.bytes.now c.if-bytes-size.false (sym c.blank_from.ensures ∙ c.if-not-blank_from.false)
