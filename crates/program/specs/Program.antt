-- Document 01, 'Sheets to try': what the program `nearest` prints for its input. Definitions alone; ProgramLaws has
-- what follows. Assumes nothing.
use Rattle.std.specs.Prelude.{cond, List, ℕ, ltb, length}
use Rattle.formula.specs.Reply.{Reply, refused}
use Rattle.claims.specs.Claim.{Sheet, from_text, formula_in}
use Rattle.solver.specs.Solver.{blank, sheet_reply}
use Rattle.program_text.specs.Report.{report_of}
use Rattle.program_search.specs.Slots.{slots}

-- P1: "The program `nearest` reads standard input, a sheet of at most 65,536 bytes, with 4,096 slots."
abbrev pub max_input : ℕ
max_input = 65536

-- the sheet that an input is: the reader is lent slices for the most clauses
abbrev pub sheet_in : List ℕ → Sheet
sheet_in input = from_text input blank

-- P4: "(1 and 65536 for a longer input)"
unfoldable pub reply_to : List ℕ → Reply
unfolding sheet_reply
reply_to input = cond (ltb max_input (length input)) (refused 1 max_input) (sheet_reply (sheet_in input) slots)

-- P2: "it prints just": the text of the reply
unfoldable pub printed : List ℕ → List ℕ
unfolding reply_to report_of
printed input = report_of (formula_in (sheet_in input)).variables (reply_to input)
