use Rattle.permutation_images.specs.Laws.Contracts.{permutations_of}
use Rattle.text_output.specs.Laws.Putting.{PutFirst}
use Rattle.dimacs_text.specs.Laws.TextParts.{permutation_part}
use Rattle.dimacs_output.proofs.put_permutations.Given as goal

abbrev pub invariant-loop-i : goal.invariant-loop-i
invariant-loop-i l = PutFirst permutation_part (permutations_of l.fn.permutations) l.at l.initial.out l.i l.place l.out
