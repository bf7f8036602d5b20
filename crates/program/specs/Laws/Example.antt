-- Document 01's example, and one text for each other reply, by computation. Assumes nothing.
use Rattle.std.specs.Prelude.{List, [], ◌∷◌, ◌≡◌, refl, ℕ}
use Rattle.formula.specs.Reply.{refused, unsatisfiable, unknown}
use Rattle.dimacs_format.specs.Laws.Example.{satisfiable_text_lem}
use Rattle.dimacs_format.specs.Reader.{read_reply, read_formula, read_clauses}
use Rattle.search.specs.Search.{search_reply}
use Rattle.solver.specs.Solver.{blank}
use Rattle.program_text.specs.Report.{report_of}
use Rattle.program.specs.Program.{printed}

-- `s SATISFIABLE`, `v -1 2 -3 0` and `c changes 1 slots 3` on three lines
abbrev pub satisfiable-printed : List ℕ
satisfiable-printed =
    115 ∷ 32 ∷ 83 ∷ 65 ∷ 84 ∷ 73 ∷ 83 ∷ 70 ∷ 73 ∷ 65 ∷ 66 ∷ 76 ∷ 69 ∷ 10
    ∷ 118 ∷ 32 ∷ 45 ∷ 49 ∷ 32 ∷ 50 ∷ 32 ∷ 45 ∷ 51 ∷ 32 ∷ 48 ∷ 10
    ∷ 99 ∷ 32 ∷ 99 ∷ 104 ∷ 97 ∷ 110 ∷ 103 ∷ 101 ∷ 115 ∷ 32 ∷ 49 ∷ 32 ∷ 115 ∷ 108 ∷ 111 ∷ 116 ∷ 115 ∷ 32 ∷ 51 ∷ 10 ∷ []

-- P2: "For `p cnf 3 2`, `c wish 000`, `1 2 0`, `-1 3 0` on four lines it prints just"; Q03.5: "Case B, the program's
-- example too, now fills 3 slots"
pub prints_example : printed satisfiable_text_lem ≡ satisfiable-printed
unfolding printed blank read_reply read_formula read_clauses search_reply
prints_example = refl

-- P4: `s UNSATISFIABLE` and `c slots 10`
pub prints_unsatisfiable : report_of 3 (unsatisfiable 10)
    ≡ 115 ∷ 32 ∷ 85 ∷ 78 ∷ 83 ∷ 65 ∷ 84 ∷ 73 ∷ 83 ∷ 70 ∷ 73 ∷ 65 ∷ 66 ∷ 76 ∷ 69 ∷ 10 ∷ 99 ∷ 32 ∷ 115 ∷ 108 ∷ 111 ∷ 116
    ∷ 115 ∷ 32 ∷ 49 ∷ 48 ∷ 10 ∷ []
unfolding report_of
prints_unsatisfiable = refl

-- P4: `s UNKNOWN` and `c room 8 4096`
pub prints_unknown : report_of 3 (unknown 8 4096)
    ≡ 115 ∷ 32 ∷ 85 ∷ 78 ∷ 75 ∷ 78 ∷ 79 ∷ 87 ∷ 78 ∷ 10 ∷ 99 ∷ 32 ∷ 114 ∷ 111 ∷ 111 ∷ 109 ∷ 32 ∷ 56 ∷ 32 ∷ 52 ∷ 48 ∷ 57
    ∷ 54 ∷ 10 ∷ []
unfolding report_of
prints_unknown = refl

-- P4: `c refused 1 65536`
pub prints_refusal : report_of 0 (refused 1 65536)
    ≡ 99 ∷ 32 ∷ 114 ∷ 101 ∷ 102 ∷ 117 ∷ 115 ∷ 101 ∷ 100 ∷ 32 ∷ 49 ∷ 32 ∷ 54 ∷ 53 ∷ 53 ∷ 51 ∷ 54 ∷ 10 ∷ []
unfolding report_of
prints_refusal = refl
