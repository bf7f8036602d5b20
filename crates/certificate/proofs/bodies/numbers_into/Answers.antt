-- `certificate::bodies::numbers_into` meets its contract: before index i the first i are copied. Assumes nothing.
use Rattle.std.proofs.Common.{rules}
use Rattle.certificate.specs.Laws.BytesLaws.{decoding_begins, decoding_goes_on}
use Rattle.certificate.specs.Laws.BytesLaws.{decoding_ends}
use Rattle.certificate.proofs.bodies.numbers_into.Goals as goal

pub loop-i-init : goal.loop-i-init
loop-i-init c = search (rules, decoding_begins)

pub loop-i-preserved : goal.loop-i-preserved
loop-i-preserved c = search (rules, decoding_goes_on)

pub returns : goal.returns
returns c = search (rules, decoding_ends)
