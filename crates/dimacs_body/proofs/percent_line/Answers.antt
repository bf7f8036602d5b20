-- `dimacs_body::percent_line` meets its contract: a percent sign, and blanks up to the end of its line. Assumes
-- nothing.
use Rattle.std.proofs.Common.{sym, ◌∙◌, arith}
use Rattle.dimacs_words.specs.declared.Class.TheVariants.{Line}
use Rattle.dimacs_words.specs.Laws.Scans.{belongs}
use Rattle.dimacs_words.specs.Laws.ScanLaws.{run_length}
use Rattle.dimacs_body.specs.Laws.LineScanLaws.{percent_not, percent_blank, percent_inside}
use Rattle.dimacs_body.proofs.percent_line.Goals as goal

pub returns-then-not-opens_with : goal.returns-then-not-opens_with
returns-then-not-opens_with c = sym (percent_not c.args.text.now c.requires (sym c.opens_with.ensures ∙ c.if-not-opens_with.true))

pub blank_from-requires : goal.blank_from-requires
blank_from-requires c =
    let line = c.line_end-stop.ensures in
    let inside = percent_inside c.args.text.now c.requires line (sym c.opens_with.ensures ∙ c.if-not-opens_with.false) in
    omega (arith, run_length (belongs Line) c.args.text.now _ _ line)

pub returns : goal.returns
returns c = percent_blank c.args.text.now c.requires c.line_end-stop.ensures (sym c.opens_with.ensures ∙ c.if-not-opens_with.false) c.blank_from.ensures
