use Rattle.std.proofs.Common.{◌≡◌, ◌-◌, length}
use Rattle.point_slices.specs.Slices.{clause_slices}
use Rattle.dimacs_body.specs.Laws.LineScans.{Going}
use Rattle.dimacs_body.proofs.clause_lines.Given as goal

abbrev pub invariant-loop-step : goal.invariant-loop-step
invariant-loop-step l =
    Going l.sizes l.text l.start (clause_slices l.initial.positive l.initial.negative) l.initial.state (clause_slices l.positive l.negative) l.state l.first
    × (length l.positive ≡ length l.initial.positive) × (length l.negative ≡ length l.initial.negative)

abbrev pub decreases-loop-step : goal.decreases-loop-step
decreases-loop-step l = length l.text - l.first
