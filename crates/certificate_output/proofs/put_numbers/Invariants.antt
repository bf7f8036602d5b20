use Rattle.certificate.specs.Bytes.{number_width}
use Rattle.certificate_output.specs.Laws.OutputLaws.{Storing}
use Rattle.certificate_output.proofs.put_numbers.Given as goal

abbrev pub invariant-loop-next : goal.invariant-loop-next
invariant-loop-next l = Storing number_width l.at l.count l.numbers l.initial.out l.next l.out
