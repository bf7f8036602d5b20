-- `program_search::search_sheet` meets its contract: an answer that few slots suffice for is that with all. Assumes
-- nothing.
use Rattle.std.proofs.Common.{subst, arith}
use Rattle.point_slices.specs.Slices.{slices_lent, first_clauses}
use Rattle.formula.specs.Reply.{Reply}
use Rattle.program_text.specs.Report.{report_of}
use Rattle.program_text.specs.Laws.Putting.{Printed}
use Rattle.program_search.specs.Laws.SettlingLaws.{settles_all}
use Rattle.program_search.proofs.search_sheet.Goals as goal

pub returns-then-is_settled : goal.returns-then-is_settled
returns-then-is_settled c =
    let put = c.put_report in
    let a = c.args in
    let clauses = first_clauses a.f.clauses (slices_lent a.clauses) in
    subst (λ (r : Reply). Printed (report_of a.f.variables r) a.out.now put.result put.new.out)
    (settles_all a.f clauses 256 (omega arith) _ c.search_with-few.ensures (c.is_settled.ensures c.if-is_settled.true)) put.ensures
