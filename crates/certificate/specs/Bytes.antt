-- Document 01, 'Certificate': numbers as bytes, and how wide an entry of each body is. Assumes nothing.
use Rattle.std.specs.Prelude.{List, ℕ}
use Rattle.math.specs.Numerals.{digits_of, value, entries}

-- C1: "numbers are 32-bit, low byte first": the lowest w bytes of x
abbrev pub bytes_of : ℕ → ℕ → List ℕ
bytes_of w x = digits_of 8 w x

-- the number that bytes stand for, low byte first
abbrev pub number_from : List ℕ → ℕ
number_from bytes = value 8 bytes

-- the first k numbers of a run of bytes, w bytes each
abbrev pub numbers_in : ℕ → ℕ → List ℕ → List ℕ
numbers_in w k bytes = entries number_from w k bytes

-- C1: "numbers are 32-bit": the bytes of a number in the contents
abbrev pub field_width : ℕ
field_width = 4

-- C3: "n bytes per exchange (e(1) first), 8 per point low byte first, 4 per rule number"
abbrev pub permutation_width : ℕ → ℕ
permutation_width n = n

abbrev pub point_width : ℕ
point_width = 8

abbrev pub number_width : ℕ
number_width = 4
