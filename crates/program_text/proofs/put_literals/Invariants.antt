use Rattle.std.proofs.Common.{◌≡◌, length}
use Rattle.text_output.specs.Laws.Putting.{Put}
use Rattle.program_text.specs.Report.{literals}
use Rattle.program_text.proofs.put_literals.Given as goal

abbrev pub invariant-loop-i : goal.invariant-loop-i
invariant-loop-i l = (length l.out ≡ length l.initial.out) × Put l.at (literals l.x l.i) l.initial.out l.place l.out
