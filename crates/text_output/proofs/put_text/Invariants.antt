use Rattle.std.proofs.Common.{[], ◌∷◌}
use Rattle.text_output.specs.Laws.Putting.{PutFirst}
use Rattle.text_output.proofs.put_text.Given as goal

abbrev pub invariant-loop-b : goal.invariant-loop-b
invariant-loop-b l = PutFirst (λ b. b ∷ []) l.text l.at l.initial.out l.b-index l.place l.out
