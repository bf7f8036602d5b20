-- `point_index::child_of` meets its contract: the digit that was tested chooses the link. Assumes nothing.
use Rattle.std.proofs.Common.{sym, ap, ◌∙◌}
use Rattle.point_index.specs.Laws.Index.{child_of}
use Rattle.point_index.proofs.child_of.Goals as goal

pub returns-then-member : goal.returns-then-member
unfolding child_of
returns-then-member c = ap (child_of c.args.heads c.args.j) (sym c.if-member.true ∙ c.member.ensures)

pub returns-else-member : goal.returns-else-member
unfolding child_of
returns-else-member c = ap (child_of c.args.heads c.args.j) (sym c.if-member.false ∙ c.member.ensures)
