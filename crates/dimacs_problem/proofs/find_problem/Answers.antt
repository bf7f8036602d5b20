-- `dimacs_problem::find_problem` meets its contract: what is left from a line on is what the whole has. Assumes nothing.
use Rattle.std.proofs.Common.{◌≡◌, refl, sym, ◌∙◌, not, false, zero-le, arith, ap}
use borrow.Author.Tests.{not-false}
use Rattle.dimacs_words.specs.Laws.Scans.{lines_behind}
use Rattle.dimacs_problem.specs.Laws.ProblemScanLaws.{preamble_skips, preamble_stops, preamble_ends, preamble_goes_on}
use Rattle.dimacs_format.specs.Reader.{from_problem}
use Rattle.dimacs_format.specs.Text.{lines}
use Rattle.dimacs_problem.proofs.find_problem.Lts as lts
use Rattle.dimacs_problem.proofs.find_problem.Reads as reads
use Rattle.dimacs_problem.proofs.find_problem.Tie as tie
use Rattle.dimacs_problem.proofs.find_problem.Goals as goal

-- a line that is skipped leaves the lines behind it
passed : (c : lts.After-is_skipped tie.the-claims reads.Pre reads.Post goal.the-invariant-loop-start goal.the-decreases-loop-start) → not c.is_skipped.result ≡ false
    → from_problem (lines 0 c.args.text.now) ≡ from_problem (lines_behind c.args.text.now c.line_end-stop.result)
passed c e = c.loop-start.invariant.1 ∙ preamble_skips c.args.text.now _ _ c.line_end-stop.ensures (sym c.is_skipped.ensures ∙ not-false _ e)

pub loop-start-init : goal.loop-start-init
loop-start-init c = (zero-le, refl)

pub line_end-stop-requires : goal.line_end-stop-requires
line_end-stop-requires c = c.loop-start.invariant.0

pub returns-then-not-is_skipped : goal.returns-then-not-is_skipped
returns-then-not-is_skipped c = (c.line_end-stop.ensures, c.loop-start.invariant.1 ∙ preamble_stops c.args.text.now _ _ c.line_end-stop.ensures (sym c.is_skipped.ensures ∙ c.if-not-is_skipped.true))

pub returns-then-text-stop : goal.returns-then-text-stop
returns-then-text-stop c = passed c.before.before.before (ap not c.if-not-is_skipped.false) ∙ preamble_ends c.args.text.now _ c.if-text-stop.true

pub loop-start-smaller : goal.loop-start-smaller
loop-start-smaller c = let o = c.line_end-stop.ensures.ordered in omega (arith, c.if-text-stop.false)

pub loop-start-preserved : goal.loop-start-preserved
loop-start-preserved c = (omega (arith, c.if-text-stop.false), passed c.before.before.before (ap not c.if-not-is_skipped.false) ∙ preamble_goes_on c.args.text.now _ c.if-text-stop.false)
