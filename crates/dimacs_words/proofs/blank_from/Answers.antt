-- `dimacs_words::blank_from` meets its contract: the library's test of all bytes is that of the text's definitions.
-- Assumes nothing.
use Rattle.std.proofs.Common.{true, false, ◌≡◌, ◌∙◌, ap, rules}
use Rattle.std.proofs.lemmas.Iterator.{cases_from_all, YieldsList-from_slice}
use Rattle.math.specs.Lists.{all}
use Rattle.dimacs_format.specs.Text.{is_blank, all_blank}
use Rattle.dimacs_words.specs.Laws.ScanLaws.{all_tested, part_end}
use Rattle.dimacs_words.proofs.blank_from.Goals as goal

pub returns : goal.returns
unfolding all_blank
returns c =
    all_tested is_blank _ c.all.result
    (cases_from_all _ _ _ (λ b. is_blank b ≡ true) (λ b. is_blank b ≡ false) c.all.ensures.ran (YieldsList-from_slice _ c.iter.ensures.rest) (λ x q k. search rules) (λ x q k. search rules))
    ∙ ap (all is_blank) (part_end c.args.bytes.now c.args.from)
