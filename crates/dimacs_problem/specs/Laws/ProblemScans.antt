-- What the functions that look for the problem line and read it promise. Assumes nothing.
use Rattle.std.specs.Prelude.{false, List, [], ◌∷◌, ◌≡◌, ℕ, ◌+◌, ◌-◌, ◌≤◌, length, take, drop}
use Rattle.std.specs.Prelude.{Option as Answer, Some, None}
use Rattle.std.proofs.Math.Option.{Option, some, none}
use Rattle.dimacs_words.specs.declared.Class.TheVariants.{Line as LineBytes}
use Rattle.dimacs_words.specs.declared.Cursor.{Cursor}
use Rattle.dimacs_problem.specs.declared.Number.{Number}
use Rattle.dimacs_problem.specs.declared.Line.{Line as FoundLine}
use Rattle.dimacs_format.specs.Text.{piece, lines, words, spelled, same_bytes, number_in}
use Rattle.dimacs_format.specs.Reader.{Sizes, from_problem}
use Rattle.dimacs_words.specs.Laws.Scans.{belongs, Stretch, lines_behind}

-- the sizes that an answer of the code is
abbrev pub sizing_of : Answer Sizes → Option Sizes
sizing_of (Some z) = some z
sizing_of None = none

-- the spelling of the words from a place on
abbrev pub spelled_from : List ℕ → ℕ → List (List ℕ)
spelled_from line at = spelled (words (0 + at) (drop at line))

-- the first word from a place on is the given one, or it is another or there is none
abbrev pub WordMatched : List ℕ → ℕ → List ℕ → Answer Cursor → Type 0
WordMatched line at word (Some c) = (c.at ≤ length line) × (spelled_from line at ≡ word ∷ spelled_from line c.at)
WordMatched line at word None = (w : List ℕ) (ws : List (List ℕ)) → spelled_from line at ≡ w ∷ ws
    → same_bytes w word ≡ false

-- the first word from a place on is a number, or it is none or there is none
abbrev pub NumberMatched : List ℕ → ℕ → Answer Number → Type 0
NumberMatched line at (Some n) = (n.next.at ≤ length line)
    × ((w : List ℕ) × (spelled_from line at ≡ w ∷ spelled_from line n.next.at) × (number_in w ≡ some n.value))
NumberMatched line at None = (w : List ℕ) (ws : List (List ℕ)) → spelled_from line at ≡ w ∷ ws → number_in w ≡ none

-- the lines from the problem line on
abbrev pub ProblemFound : List ℕ → Answer FoundLine → Type 0
ProblemFound text (Some l) =
    Stretch (belongs LineBytes) text l.start l.stop × (from_problem (lines 0 text)
    ≡ piece l.start (take (l.stop - l.start) (drop l.start text)) ∷ lines_behind text l.stop)
ProblemFound text None = from_problem (lines 0 text) ≡ []
