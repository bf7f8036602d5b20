-- What the exported reader returns, and what it leaves in the slices lent to it. Assumes nothing.
use Rattle.std.specs.Prelude.{Bool, cond, ◌&&◌, List, ◌≡◌, ℕ, leb, length}
use Rattle.formula.specs.Limits.{max_images}
use Rattle.point_slices.specs.Slices.{ClauseSlices}
use Rattle.math.specs.Lists.{over}
use Rattle.dimacs_format.specs.Reader.{read_reply, read_formula, read_clauses}
use Rattle.export_words.specs.Words.{words_of, has_room}
use Rattle.export_formulas.specs.Formulas.{numbers_of, put_if_parsed}

-- whether there is room for an answer's words and for a formula's numbers and images
abbrev pub has_formula_room : List ℕ → List ℕ → List ℕ → Bool
has_formula_room numbers images reply = has_room reply && has_room numbers && leb max_images (length images)

-- D2.1 for a caller in another language: with room for the answer, it, the formula and the clause slices are the
-- reader's; D1.2: "after a refusal each lent slice holds what it held before", those for the formula too; without room
-- nothing changes
pub record ReadReturns (text : List ℕ) (clauses₀ : ClauseSlices) (numbers₀ images₀ reply₀ : List ℕ) (r : ℕ)
    (clauses₁ : ClauseSlices) (numbers₁ images₁ reply₁ : List ℕ) : Type 0 where
  pub returned : r ≡ cond (has_formula_room numbers₀ images₀ reply₀) 1 0
  pub reply : reply₁ ≡ cond (has_formula_room numbers₀ images₀ reply₀)
      (over (words_of (read_reply text clauses₀)) reply₀) reply₀
  pub numbers : numbers₁ ≡ cond (has_formula_room numbers₀ images₀ reply₀)
      (put_if_parsed (read_reply text clauses₀) (numbers_of (read_formula text clauses₀)) numbers₀) numbers₀
  pub images : images₁ ≡ cond (has_formula_room numbers₀ images₀ reply₀)
      (put_if_parsed (read_reply text clauses₀) (read_formula text clauses₀).images images₀) images₀
  pub clauses : clauses₁ ≡ cond (has_formula_room numbers₀ images₀ reply₀) (read_clauses text clauses₀) clauses₀
