-- What `dimacs::read` promises: its answer is the reply of the text's definitions, beside the formula and the slices
-- that they say. Assumes nothing.
use Rattle.std.specs.Prelude.{List, ◌≡◌, ℕ}
use Rattle.point_slices.specs.Slices.{ClauseSlices}
use Rattle.dimacs_lines.specs.Reply.{reply_of_parse}
use Rattle.dimacs_format.specs.Reader.{read_reply, read_formula, read_clauses}
use Rattle.dimacs_lines.specs.declared.Parsed.{Parsed}

-- G.a, D2.1: "A sheet is read as DIMACS CNF, as document 01 fixes it.": from a text and the clause slices at entry, the
-- answer and the slices at exit
pub record Read (text : List ℕ) (clauses₀ : ClauseSlices) (r : Parsed) (clauses₁ : ClauseSlices) : Type 0 where
  pub reply : reply_of_parse r.answer ≡ read_reply text clauses₀
  pub formula : r.formula ≡ read_formula text clauses₀
  pub clauses : clauses₁ ≡ read_clauses text clauses₀
