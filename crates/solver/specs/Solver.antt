-- The solver composes reader, search, writer and checker: what it answers and leaves in lent memory, by their
-- definitions. Assumes nothing.
use Rattle.std.specs.Prelude.{List, ℕ, replicate}
use Rattle.std.proofs.Math.Option.{Option, some, none}
use Rattle.point_slices.specs.Slices.{ClauseSlices, SlotSlices, whole_clauses}
use Rattle.formula.specs.Limits.{max_clauses, capacity}
use Rattle.formula.specs.Reply.{Reply, refused, satisfiable, unsatisfiable, unknown, parsed, written, opened, accepted}
use Rattle.dimacs_format.specs.Reader.{read_reply}
use Rattle.search.specs.Search.{search_reply, search_slices}
use Rattle.claims.specs.Claim.{Sheet, from_text, by_value, formula_in, slices_in, writer_reply, writer_output}

-- the clause slices that the solver lends to the reader: the most clauses, 0 throughout
unfoldable pub blank : ClauseSlices
blank = whole_clauses (replicate max_clauses 0) (replicate max_clauses 0)

-- ---- the reader, then the search

-- the reader's reply to a sheet; one by value is not read
abbrev pub reading_of : Sheet → Reply
reading_of (from_text text clauses) = read_reply text clauses
reading_of (by_value f clauses) = parsed

-- a refusal of the reader stands; else what comes after it does
module _ {A : Type 0} where
  unfoldable pub after_reading : Reply → A → A → A
  after_reading (refused code place) kept new = kept
  after_reading (satisfiable x d filled) kept new = new
  after_reading (unsatisfiable filled) kept new = new
  after_reading (unknown b filled) kept new = new
  after_reading parsed kept new = new
  after_reading (written size) kept new = new
  after_reading opened kept new = new
  after_reading accepted kept new = new

unfoldable pub sheet_reply : Sheet → ℕ → Reply
unfolding after_reading
sheet_reply s lent = after_reading (reading_of s) (reading_of s)
    (search_reply (formula_in s) (slices_in s) lent)

unfoldable pub sheet_slices : Sheet → SlotSlices → SlotSlices
unfolding after_reading
sheet_slices s slots = after_reading (reading_of s) slots (search_slices (formula_in s) (slices_in s) slots)

-- ---- then, for 'cannot be met', the writer

module _ {A : Type 0} where
  -- of the filled slots, or nothing new
  unfoldable pub on_refutation : Reply → A → (ℕ → A) → A
  on_refutation (unsatisfiable filled) kept new = new filled
  on_refutation (refused code place) kept new = kept
  on_refutation (satisfiable x d filled) kept new = kept
  on_refutation (unknown b filled) kept new = kept
  on_refutation parsed kept new = kept
  on_refutation (written size) kept new = kept
  on_refutation opened kept new = kept
  on_refutation accepted kept new = kept

unfoldable pub certificate_reply : Sheet → SlotSlices → List ℕ → Option Reply
unfolding on_refutation
certificate_reply s slots out = on_refutation (sheet_reply s (capacity slots)) none
    (λ filled. some (writer_reply s slots filled out))

unfoldable pub certificate_output : Sheet → SlotSlices → List ℕ → List ℕ
unfolding on_refutation
certificate_output s slots out = on_refutation (sheet_reply s (capacity slots)) out
    (λ filled. writer_output s slots filled out)
