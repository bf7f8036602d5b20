-- `Clauses::at` meets its contract: past the end of either slice there is no clause. Assumes nothing.
use Rattle.std.proofs.Common.{sym, inl, inr}
use Rattle.point_slices.specs.Laws.SliceLaws.{clause-at, clause_past}
use Rattle.point_slices.specs.Slices.{points_of}
use Rattle.point_slices.proofs.Clauses.at.Goals as goal
use Rattle.point_slices.proofs.Clauses.at.Goals.{else-i-self-via-then-i-self+else-i-self-2, else-i-self-via-else-i-self}

pub returns-then-i-self-2 : goal.returns-then-i-self-2
unfolding points_of
returns-then-i-self-2 c = sym (clause-at _ _ c.args.i c.if-i-self.true c.if-i-self-2.true)

pub returns-else-i-self : goal.returns-else-i-self
unfolding points_of
returns-else-i-self c =
    elim c.else-i-self.branch [ else-i-self-via-then-i-self+else-i-self-2 w ↦ clause_past _ _ c.args.i (inr w.if-i-self-2.false) | else-i-self-via-else-i-self w ↦ clause_past _ _ c.args.i (inl w.if-i-self.false) ]
