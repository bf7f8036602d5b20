use Rattle.std.proofs.Common.{◌≡◌, ◌-◌, length}
use Rattle.point_slices.specs.Slices.{clause_slices}
use Rattle.dimacs_body.specs.Laws.LineScans.{Passing}
use Rattle.dimacs_body.proofs.read_lines.Given as goal

abbrev pub invariant-loop-last : goal.invariant-loop-last
invariant-loop-last l =
    Passing l.sizes l.text l.end (clause_slices l.positive l.negative) l.images l.state l.last × (length l.positive ≡ length l.initial.positive)
    × (length l.negative ≡ length l.initial.negative) × (length l.images ≡ length l.initial.images)

abbrev pub decreases-loop-last : goal.decreases-loop-last
decreases-loop-last l = length l.text - l.last
