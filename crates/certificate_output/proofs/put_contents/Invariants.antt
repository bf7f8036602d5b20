use Rattle.std.proofs.Common.{[], ◌∷◌}
use Rattle.certificate.specs.Bytes.{field_width}
use Rattle.certificate.specs.Certificate.{contents_length}
use Rattle.certificate_output.specs.Laws.OutputLaws.{Storing}
use Rattle.certificate_output.proofs.put_contents.Given as goal

abbrev pub invariant-loop-i : goal.invariant-loop-i
invariant-loop-i l =
    Storing field_width 0 8 (l.n ∷ l.m ∷ l.permutations ∷ contents_length ∷ l.count ∷ l.points_at ∷ l.count ∷ l.numbers_at ∷ []) l.initial.out l.i l.out
