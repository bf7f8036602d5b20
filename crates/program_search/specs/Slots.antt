-- Document 01, 'Sheets to try': how many slots the program searches with. Assumes nothing.
use Rattle.std.specs.Prelude.{ℕ}

-- P1: "with 4,096 slots"
abbrev pub slots : ℕ
slots = 4096
