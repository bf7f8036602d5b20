-- An answer as words of a lent slice. Assumes nothing.
use Rattle.std.specs.Prelude.{Bool, List, [], ◌∷◌, ℕ, leb, length}
use Rattle.formula.specs.Reply.{Reply, refused, satisfiable, unsatisfiable, unknown, parsed, written, opened, accepted}

-- F10: an answer as four words: which it is, then what it carries, in its order, then 0
unfoldable pub words_of : Reply → List ℕ
words_of (refused code place) = 0 ∷ code ∷ place ∷ 0 ∷ []
words_of (satisfiable x d filled) = 1 ∷ x ∷ d ∷ filled ∷ []
words_of (unsatisfiable filled) = 2 ∷ filled ∷ 0 ∷ 0 ∷ []
words_of (unknown b filled) = 3 ∷ b ∷ filled ∷ 0 ∷ []
words_of parsed = 4 ∷ 0 ∷ 0 ∷ 0 ∷ []
words_of (written size) = 5 ∷ size ∷ 0 ∷ 0 ∷ []
words_of opened = 6 ∷ 0 ∷ 0 ∷ 0 ∷ []
words_of accepted = 7 ∷ 0 ∷ 0 ∷ 0 ∷ []

-- whether a slice has room for an answer's four words
abbrev pub has_room : List ℕ → Bool
has_room reply = leb 4 (length reply)
