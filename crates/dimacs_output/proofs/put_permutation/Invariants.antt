use Rattle.text_output.specs.Laws.Putting.{PutFirst}
use Rattle.dimacs_text.specs.Laws.TextParts.{image_part}
use Rattle.dimacs_output.proofs.put_permutation.Given as goal

abbrev pub invariant-loop-image : goal.invariant-loop-image
invariant-loop-image l = PutFirst image_part l.e l.initial.place l.initial.out l.image-index l.place l.out
