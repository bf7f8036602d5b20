-- `certificate::read` meets its contract: a law of ReaderLaws for each way out. Assumes nothing.
use Rattle.std.proofs.Common.{sym, ap, ◌∙◌, length}
use Rattle.certificate.specs.Certificate.{FileContents, fitting}
use Rattle.certificate.specs.Laws.CertificateLaws.{short_file, long_file}
use Rattle.certificate.specs.Laws.ReaderLaws.{opens, refuses}
use Rattle.certificate.proofs.read.Goals as goal

pub returns-then-size-lt-CONTENTS : goal.returns-then-size-lt-CONTENTS
returns-then-size-lt-CONTENTS c = let a = c.args in refuses a.file.now (short_file a.file.now c.if-size-lt-CONTENTS.true)

pub returns-then-in_order : goal.returns-then-in_order
returns-then-in_order c =
    let file = c.args.file.now in
    let same = c.contents_from-c.ensures in
    opens file c.contents_from-c.result
    (long_file file c.if-size-lt-CONTENTS.false ∙ ap (λ (k : FileContents). fitting k (length file)) (sym same) ∙ sym c.in_order.ensures ∙ c.if-in_order.true) same

pub returns-else-in_order : goal.returns-else-in_order
returns-else-in_order c =
    let file = c.args.file.now in
    refuses file
    (long_file file c.if-size-lt-CONTENTS.false ∙ ap (λ (k : FileContents). fitting k (length file)) (sym c.contents_from-c.ensures) ∙ sym c.in_order.ensures ∙ c.if-in_order.false)
