-- Document 01, 'Sheet': S22: "The limits 64, 4,096, 16 and 65,536 belong to the sheet's own kind." Assumes nothing.
use Rattle.std.specs.Prelude.{ℕ, ◌*◌, min, length}
use Rattle.point_slices.specs.Slices.{SlotSlices}

-- the most variables, clauses, permutations and slots
abbrev pub max_variables : ℕ
max_variables = 64

abbrev pub max_clauses : ℕ
max_clauses = 4096

abbrev pub max_permutations : ℕ
max_permutations = 16

abbrev pub max_slots : ℕ
max_slots = 65536

-- S21: "the exchanges as 1,024 bytes": one for each variable of each permutation
abbrev pub max_images : ℕ
max_images = max_permutations * max_variables

-- W2: "The number of slots P is the shortest length lent, at most 65,536 used."
unfoldable pub capacity : SlotSlices → ℕ
capacity s = min max_slots (min (length s.points) (min (length s.falsified) (length s.depths)))
