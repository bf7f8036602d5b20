use Rattle.std.proofs.Common.{◌≡◌, ◌-◌, length}
use Rattle.point_slices.specs.Slices.{clause_slices}
use Rattle.dimacs_clauses.specs.Laws.ClauseScans.{Along}
use Rattle.dimacs_clauses.proofs.clause_line.Given as goal

abbrev pub invariant-loop-cursor : goal.invariant-loop-cursor
invariant-loop-cursor l =
    Along l.sizes l.text l.start (clause_slices l.initial.positive l.initial.negative) l.initial.state (clause_slices l.positive l.negative) l.state l.cursor.at
    × (length l.positive ≡ length l.initial.positive) × (length l.negative ≡ length l.initial.negative)

abbrev pub decreases-loop-cursor : goal.decreases-loop-cursor
decreases-loop-cursor l = length l.text - l.cursor.at
