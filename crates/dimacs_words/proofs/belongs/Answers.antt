-- `dimacs_words::belongs` meets its contract, class by class. Assumes nothing.
use Rattle.std.proofs.Common.{not, sym, ap, ◌∙◌}
use Rattle.dimacs_words.specs.Laws.Scans.{belongs}
use Rattle.dimacs_format.specs.Text.{ends_line}
use Rattle.dimacs_words.proofs.belongs.Goals as goal

pub returns-in-Blank : goal.returns-in-Blank
unfolding belongs
returns-in-Blank c = c.is_blank.ensures ∙ sym (ap (λ k. belongs k c.args.b) c.in-Blank.is)

pub returns-in-Word : goal.returns-in-Word
unfolding belongs
returns-in-Word c = ap not c.is_blank-in-Word.ensures ∙ sym (ap (λ k. belongs k c.args.b) c.in-Word.is)

pub returns-in-Line : goal.returns-in-Line
unfolding belongs ends_line
returns-in-Line c = sym (ap (λ k. belongs k c.args.b) c.in-Line.is)
