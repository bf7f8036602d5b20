-- What the functions that print a sheet's answer promise each other. Assumes nothing.
use Rattle.std.specs.Prelude.{Result, Ok, Err, List, ◌≡◌, ℕ}
use Rattle.formula.specs.Reasons.{code_of}
use Rattle.formula.specs.declared.reasons.Refusal.{Refusal}
use Rattle.formula.specs.Reply.{refused}
use Rattle.dimacs_format.specs.Reader.{read_reply}
use Rattle.claims.specs.Claim.{formula_in}
use Rattle.solver.specs.Solver.{sheet_reply}
use Rattle.solver.specs.Laws.Steps.{zeros}
use Rattle.program_text.specs.Report.{refused_text, report_of}
use Rattle.program_text.specs.Laws.Putting.{Printed}
use Rattle.program_search.specs.Slots.{slots}
use Rattle.program.specs.Program.{sheet_in}

-- the text of a sheet's answer
abbrev pub report_for : List ℕ → List ℕ
report_for text = report_of (formula_in (sheet_in text)).variables (sheet_reply (sheet_in text) slots)

-- with arrays for k clauses the answer's text is put, or the reader refuses the sheet and the output is as it was
abbrev pub PrintedIn : ℕ → List ℕ → List ℕ → Result ℕ Refusal → List ℕ → Type 0
PrintedIn k text out₀ (Ok size) out₁ = Printed (report_for text) out₀ size out₁
PrintedIn k text out₀ (Err r) out₁ = (refused (code_of r.reason) r.place ≡ read_reply text (zeros k)) × (out₁ ≡ out₀)

-- what was put stays, or the text of the refusal is put
abbrev pub Told : Result ℕ Refusal → List ℕ → ℕ → List ℕ → Type 0
Told (Ok size) out₀ r out₁ = (r ≡ size) × (out₁ ≡ out₀)
Told (Err e) out₀ r out₁ = Printed (refused_text (code_of e.reason) e.place) out₀ r out₁
