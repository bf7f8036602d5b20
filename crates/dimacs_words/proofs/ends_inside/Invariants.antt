use Rattle.std.proofs.Common.{◌≡◌}
use Rattle.math.specs.Lists.{any}
use Rattle.dimacs_format.specs.Text.{ends_line}
use Rattle.dimacs_words.specs.Laws.ScanLaws.{any_left}
use Rattle.dimacs_words.proofs.ends_inside.Given as goal

abbrev pub invariant-loop-b : goal.invariant-loop-b
invariant-loop-b l = any ends_line l.bytes ≡ any_left ends_line l.bytes l.found l.b-index
