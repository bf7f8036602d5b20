-- Document 01, 'Sheets to try': the text that the program `nearest` prints for a reply. Definitions alone; ReportLaws
-- has what follows. Assumes nothing.
use Rattle.std.specs.Prelude.{Bool, true, false, List, [], ◌++◌, ℕ, zero, suc, ◌+◌, ◌*◌}
use Rattle.formula.specs.Limits.{max_variables}
use Rattle.math.specs.Bits.{bit}
use Rattle.dimacs_format.specs.Text.{ascii}
use Rattle.text_output.specs.Decimal.{line_end, numeral, field, line}
use Rattle.formula.specs.Reply.{Reply, refused, satisfiable, unsatisfiable, unknown, parsed, written, opened, accepted}

-- ---- names

-- P3: "minus for no": a space, and a minus behind it for no
unfoldable pub sign : Bool → List ℕ
sign true = ascii " "
sign false = ascii " -"

-- the name of digit i of a point, with its sign
abbrev pub literal : ℕ → ℕ → List ℕ
literal x i = field (sign (bit x i)) (i + 1)

-- P3: "`v` gives each name ascending": the first names
unfoldable pub literals : ℕ → ℕ → List ℕ
unfolding numeral sign bit
literals x zero = []
literals x (suc i) = literals x i ++ literal x i

-- ---- the text

-- `s SATISFIABLE` and, on the next line, `v`
abbrev pub satisfiable_head : List ℕ
satisfiable_head = ascii "s SATISFIABLE\nv"

-- P3: "then 0"
abbrev pub values_end : List ℕ
values_end = ascii " 0\n"

-- `c changes`
abbrev pub changes_head : List ℕ
changes_head = ascii "c changes "

-- ` slots`
abbrev pub slots_between : List ℕ
slots_between = ascii " slots "

-- `s UNSATISFIABLE` and, on the next line, `c slots`
abbrev pub unsatisfiable_head : List ℕ
unsatisfiable_head = ascii "s UNSATISFIABLE\nc slots "

-- `s UNKNOWN` and, on the next line, `c room`
abbrev pub unknown_head : List ℕ
unknown_head = ascii "s UNKNOWN\nc room "

-- `c refused`
abbrev pub refused_head : List ℕ
refused_head = ascii "c refused "

-- between two numbers with no word there
abbrev pub space : List ℕ
space = ascii " "

-- P3: "`v` gives each name ascending, minus for no, then 0."; the last line has the changes and the slots
unfoldable pub satisfiable_text : ℕ → ℕ → ℕ → ℕ → List ℕ
unfolding numeral literals
satisfiable_text n x d filled = satisfiable_head ++ literals x n ++ values_end ++ line changes_head d slots_between filled

-- P4: "two lines, `s UNSATISFIABLE` and `c slots` with the slots filled"
unfoldable pub unsatisfiable_text : ℕ → List ℕ
unfolding numeral
unsatisfiable_text filled = field unsatisfiable_head filled ++ line_end

-- P4: "or `s UNKNOWN` and `c room` with d and the slots filled"
unfoldable pub unknown_text : ℕ → ℕ → List ℕ
unfolding numeral
unknown_text b filled = line unknown_head b space filled

-- P4: "or the one line `c refused` with number and place"
unfoldable pub refused_text : ℕ → ℕ → List ℕ
unfolding numeral
refused_text code place = line refused_head code space place

-- what the program prints for a reply, with n names in the sheet; the other replies are never the program's
unfoldable pub report_of : ℕ → Reply → List ℕ
unfolding satisfiable_text unsatisfiable_text unknown_text refused_text
report_of n (satisfiable x d filled) = satisfiable_text n x d filled
report_of n (unsatisfiable filled) = unsatisfiable_text filled
report_of n (unknown b filled) = unknown_text b filled
report_of n (refused code place) = refused_text code place
report_of n parsed = []
report_of n (written size) = []
report_of n opened = []
report_of n accepted = []

-- a bound for the text of a literal, in bytes: a blank, a minus, and the variable's digits
abbrev pub longest_literal : ℕ
longest_literal = 4

-- a bound for the text of every reply, in bytes: 15 in front of the literals, 3 behind them, 38 in the last
-- line
abbrev pub longest_text : ℕ
longest_text = 15 + longest_literal * max_variables + 3 + 38
