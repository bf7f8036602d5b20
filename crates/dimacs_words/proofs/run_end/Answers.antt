-- `dimacs_words::run_end` meets its contract: the bytes passed belong to the run. Assumes nothing.
use Rattle.std.proofs.Common.{sym, ◌∙◌, arith}
use Rattle.dimacs_words.specs.Laws.Scans.{belongs}
use Rattle.dimacs_words.specs.Laws.ScanLaws.{run-begins, run_goes_on}
use Rattle.dimacs_words.proofs.run_end.Goals as goal

pub loop-i-init : goal.loop-i-init
loop-i-init c = run-begins (belongs _) c.args.bytes.now c.args.from

pub returns-then-not-belongs : goal.returns-then-not-belongs
returns-then-not-belongs c = record {
  ordered = omega arith;
  within = omega arith;
  passes = c.loop-i.invariant;
  stops = λ _. sym c.belongs.ensures ∙ c.if-not-belongs.true;
}

pub loop-i-preserved : goal.loop-i-preserved
loop-i-preserved c =
    run_goes_on (belongs _) c.args.bytes.now _ _ c.loop-i.invariant (sym c.belongs.ensures ∙ c.if-not-belongs.false)

pub returns : goal.returns
returns c = record {
  ordered = c.requires;
  within = omega arith;
  passes = λ k lo hi. c.loop-i.invariant k lo (omega arith);
  stops = λ lt. absurd (let z : ⊥ = omega arith in z);
}
