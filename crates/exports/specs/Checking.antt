-- What the exported checker and the exported readers of certificates return, and what they leave in the slices lent to
-- them. Assumes nothing.
use Rattle.std.specs.Prelude.{Bool, cond, ◌&&◌, List, ◌≡◌, ℕ, leb, length}
use Rattle.std.proofs.Math.Option.{Option}
use Rattle.point_slices.specs.Slices.{ClauseSlices}
use Rattle.math.specs.Lists.{over}
use Rattle.formula.specs.declared.Formula.{Formula}
use Rattle.certificate.specs.Reader.{opened_reply, opened_contents}
use Rattle.checker.specs.Checker.{check_reply}
use Rattle.export_words.specs.Words.{words_of, has_room}
use Rattle.export_words.specs.Replies.{entry_words, contents_words}

-- D2.3 for a caller in another language: with room for the answer, it is the checker's; without, nothing changes
pub record CheckReturns (f : Formula) (clauses : ClauseSlices) (file reply₀ : List ℕ) (r : ℕ) (reply₁ : List ℕ) : Type 0
  where
    pub returned : r ≡ cond (has_room reply₀) 1 0
    pub reply : reply₁ ≡ cond (has_room reply₀) (over (words_of (check_reply f clauses file)) reply₀) reply₀

-- whether there is room for an answer's words and for the eight numbers of a file's contents
abbrev pub has_contents_room : List ℕ → List ℕ → Bool
has_contents_room contents reply = has_room reply && leb 8 (length contents)

-- N7 for a caller in another language: with room for both, the answer and the contents are the reader's, and a refusal
-- leaves the contents as they were; without, nothing changes
pub record OpenReturns (file contents₀ reply₀ : List ℕ) (r : ℕ) (contents₁ reply₁ : List ℕ) : Type 0 where
  pub returned : r ≡ cond (has_contents_room contents₀ reply₀) 1 0
  pub reply : reply₁ ≡ cond (has_contents_room contents₀ reply₀) (over (words_of (opened_reply file)) reply₀) reply₀
  pub contents : contents₁ ≡ cond (has_contents_room contents₀ reply₀)
      (over (contents_words (opened_contents file)) contents₀) contents₀

-- whether there is room for the two words of an entry
abbrev pub has_entry_room : List ℕ → Bool
has_entry_room reply = leb 2 (length reply)

-- F4 for a caller in another language: with room for it, the entry of a body; without, nothing changes
pub record EntryReturns (entry : Option ℕ) (reply₀ : List ℕ) (r : ℕ) (reply₁ : List ℕ) : Type 0 where
  pub returned : r ≡ cond (has_entry_room reply₀) 1 0
  pub reply : reply₁ ≡ cond (has_entry_room reply₀) (over (entry_words entry) reply₀) reply₀
