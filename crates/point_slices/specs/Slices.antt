-- How points, clauses and slots lie in lent slices. Definitions over these records see points, whatever holds them.
-- Assumes nothing.
use Rattle.std.specs.Prelude.{List, [], ◌∷◌, ℕ, min, length, take}
use Rattle.points.specs.Points.{Clause}
use Rattle.point_slices.specs.declared.Clauses.{Clauses}

-- the points of a lent slice, one word each
unfoldable pub points_of : List ℕ → List ℕ
points_of s = s

-- the words behind its last whole point: none, where a point is one word
unfoldable pub rest_of : List ℕ → List ℕ
rest_of s = []

-- S23: "Rules go to two lent slices": the points of both, and what lies behind them
pub record ClauseSlices : Type 0 where
  pub positive : List ℕ
  pub negative : List ℕ
  pub positive_rest : List ℕ
  pub negative_rest : List ℕ

-- two lent slices: their points and the words behind these, and so all that they hold (`clauses-whole`)
abbrev pub clause_slices : List ℕ → List ℕ → ClauseSlices
clause_slices positive negative =
    record {
      positive = points_of positive;
      negative = points_of negative;
      positive_rest = rest_of positive;
      negative_rest = rest_of negative;
    }

-- the same of the two slices that a value of the code's type lends
abbrev pub slices_lent : Clauses → ClauseSlices
slices_lent c = clause_slices c.positive.now c.negative.now

-- slices that hold these points and nothing behind them
abbrev pub whole_clauses : List ℕ → List ℕ → ClauseSlices
whole_clauses positive negative =
    record { positive = positive; negative = negative; positive_rest = []; negative_rest = [] }

-- S3: "two such numbers: names wanted yes, names wanted no", side by side
unfoldable pub beside : List ℕ → List ℕ → List Clause
beside [] ns = []
beside (p ∷ ps) [] = []
beside (p ∷ ps) (n ∷ ns) = record { positive = p; negative = n } ∷ beside ps ns

-- the clauses of the slices
abbrev pub clauses_of : ClauseSlices → List Clause
clauses_of s = beside s.positive s.negative

-- the first k clauses alone
abbrev pub first_clauses : ℕ → ClauseSlices → ClauseSlices
first_clauses k s = whole_clauses (take k s.positive) (take k s.negative)

-- how many clauses there is room for: the shortest length
abbrev pub clause_room : ClauseSlices → ℕ
clause_room s = min (length s.positive) (length s.negative)

-- F9: "three parallel lent slices": the slots' points and what lies behind them, their clause numbers and their depths
pub record SlotSlices : Type 0 where
  pub points : List ℕ
  pub points_rest : List ℕ
  pub falsified : List ℕ
  pub depths : List ℕ

-- three lent slices, all that they hold (`slots-whole`)
abbrev pub slot_slices : List ℕ → List ℕ → List ℕ → SlotSlices
slot_slices points falsified depths =
    record { points = points_of points; points_rest = rest_of points; falsified = falsified; depths = depths }

-- slices that hold these points and nothing behind them
abbrev pub whole_slots : List ℕ → List ℕ → List ℕ → SlotSlices
whole_slots points falsified depths =
    record { points = points; points_rest = []; falsified = falsified; depths = depths }
