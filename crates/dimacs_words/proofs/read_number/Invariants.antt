use Rattle.std.proofs.Common.{◌≡◌, ◌<◌, ◌^◌, drop}
use Rattle.dimacs_format.specs.Text.{number_in}
use Rattle.dimacs_words.specs.Laws.ScanLaws.{number_from}
use Rattle.dimacs_words.proofs.read_number.Given as goal

abbrev pub invariant-loop-b : goal.invariant-loop-b
invariant-loop-b l = (l.v < 10 ^ l.b-index) × (number_in l.w ≡ number_from l.v (drop l.b-index l.w))
