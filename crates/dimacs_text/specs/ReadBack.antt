-- Document 02, 2026-02: what reading a written sheet gives. Assumes nothing.
use Rattle.std.specs.Prelude.{List, ◌≡◌, ℕ, ◌*◌, take}
use Rattle.point_slices.specs.Slices.{ClauseSlices, clauses_of}
use Rattle.formula.specs.declared.Formula.{Formula}
use Rattle.formula.specs.Limits.{max_images}
use Rattle.formula.specs.Reply.{parsed}
use Rattle.dimacs_format.specs.Input.{padded}
use Rattle.dimacs_format.specs.Reader.{stored_in, read_reply, read_formula, read_clauses}

-- Q02.3: "the same sheet (unused exchange bytes 0)"
unfoldable pub unused_zero : Formula → Formula
unfolding padded
unused_zero f =
    record {
      variables = f.variables;
      clauses = f.clauses;
      target = f.target;
      permutations = f.permutations;
      images = padded max_images (take (f.permutations * f.variables) f.images);
    }

-- Q02.3: "Reading it, with rule slices long enough, gives the same sheet (unused exchange bytes 0) and rules": a text
-- read to these slices gives this formula and these clauses
pub record ReadsBack (f : Formula) (clauses : ClauseSlices) (text : List ℕ) (slices : ClauseSlices) : Type 0 where
  pub reply : read_reply text slices ≡ parsed
  pub formula : read_formula text slices ≡ unused_zero f
  pub rules : read_clauses text slices ≡ stored_in slices (clauses_of clauses)
