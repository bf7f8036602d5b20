-- What contracts of functions inside the library cite beside the definitions. Assumes nothing.
use Rattle.std.specs.Prelude.{Option as Found, Some, None}
use Rattle.std.proofs.Math.Option.{Option, some, none}
use Rattle.points.specs.Points.{Clause}
use Rattle.points.specs.Laws.Contracts.{clause_of}
use Rattle.points.specs.declared.Clause.{Clause as ClauseValue}

-- the clause that the code's answer holds
abbrev pub clause_found : Found ClauseValue → Option Clause
clause_found None = none
clause_found (Some c) = some (clause_of c)
