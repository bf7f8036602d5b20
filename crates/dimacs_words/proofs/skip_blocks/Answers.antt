-- `dimacs_words::skip_blocks` meets its contract: the line does not end in the blocks passed. Assumes nothing.
use Rattle.std.proofs.Common.{sym, ◌∙◌, le_refl, arith}
use Rattle.dimacs_words.specs.declared.Class.TheVariants.{Line}
use Rattle.dimacs_words.specs.Laws.Scans.{belongs}
use Rattle.dimacs_words.specs.Laws.ScanLaws.{run-begins, block_goes_on}
use Rattle.dimacs_words.proofs.skip_blocks.Goals as goal

pub loop-i-init : goal.loop-i-init
loop-i-init c = record {
  ordered = le_refl c.args.from;
  within = c.requires;
  passes = run-begins (belongs Line) c.args.text.now c.args.from;
}

pub loop-i-preserved : goal.loop-i-preserved
loop-i-preserved c =
    let l = c.loop-i.invariant in
    let o = l.ordered in
    let w = l.within in
    let within = c.loop-i-test.true in
    record {
      ordered = omega arith;
      within = omega arith;
      passes = block_goes_on c.args.text.now _ _ _ (omega arith) l.passes (sym c.ends_inside-ended.ensures ∙ c.if-ended.false);
    }
