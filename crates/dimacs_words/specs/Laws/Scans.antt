-- What the functions on bytes and words promise, in the terms of Text, and the lines behind a place. Assumes nothing.
use Rattle.std.specs.Prelude.{Bool, true, false, not, cond, ◌||◌, ◌&&◌, List, [], ◌∷◌, ◌≡◌, ℕ, zero, suc, ◌+◌, ◌-◌, ◌≤◌, ◌<◌, ltb, eqb, length, get_or, take, drop}
use Rattle.std.specs.Prelude.{Option as Answer, Some, None}
use Rattle.std.proofs.Math.Option.{Option, some, none}
use Rattle.dimacs_words.specs.declared.Class.{Class}
use Rattle.dimacs_words.specs.declared.Class.TheVariants.{Blank, Word as WordBytes, Line as LineBytes}
use Rattle.dimacs_words.specs.declared.Word.{Word as WordValue}
use Rattle.dimacs_format.specs.Text.{ends_line, is_blank, Line, piece, lines, words, Token, literal, close, malformed}
use Rattle.dimacs_format.specs.Text.{pos, neg, number_in, unsigned, negated, token_in}

-- ---- runs

-- a byte belongs to a run of the class
unfoldable pub belongs : Class → ℕ → Bool
unfolding is_blank ends_line
belongs Blank b = is_blank b
belongs WordBytes b = not (is_blank b)
belongs LineBytes b = not (ends_line b)

-- a word of a text ends before a blank and at the end of its line
unfoldable pub ends_word : ℕ → Bool
unfolding is_blank ends_line
ends_word b = is_blank b || ends_line b

abbrev pub in_word : ℕ → Bool
in_word b = not (ends_word b)

-- the bytes from one place up to another pass the test, and the one there does not
pub record Stretch (t : ℕ → Bool) (bytes : List ℕ) (from to : ℕ) : Type 0 where
  pub ordered : from ≤ to
  pub within : to ≤ length bytes
  pub passes : (k : ℕ) → from ≤ k → k < to → t (get_or bytes k 0) ≡ true
  pub stops : to < length bytes → t (get_or bytes to 0) ≡ false

-- the line that stands at one place goes on up to another
pub record Skipped (text : List ℕ) (from to : ℕ) : Type 0 where
  pub ordered : from ≤ to
  pub within : to ≤ length text
  pub passes : (k : ℕ) → from ≤ k → k < to → belongs LineBytes (get_or text k 0) ≡ true

-- ---- numbers and words

-- the number that an answer of the code is
abbrev pub number_of : Answer ℕ → Option ℕ
number_of (Some v) = some v
number_of None = none

-- the token of a number with its sign: a zero closes a clause
abbrev pub signed : Bool → ℕ → Token
signed b zero = close
signed false (suc v) = literal (pos (suc v))
signed true (suc v) = literal (neg (suc v))

-- a number with its sign, which may be malformed
abbrev pub with_sign : Bool → Option ℕ → Token
with_sign false o = unsigned o
with_sign true o = negated o

-- the word of a value with its sign, with the place behind it
abbrev pub word_with : Bool → ℕ → ℕ → WordValue
word_with b v at = record { negated = b; value = v; next = record { at = at } }

-- what digits up to a place make, of this value
abbrev pub word_made : Bool → ℕ → ℕ → Answer WordValue
word_made b v at = cond (eqb v 0 && b) None (Some (word_with b v at))

-- the digits from a place on go up to another place, and with their sign they are the token
pub record DigitsAt (text : List ℕ) (sign : Bool) (from next : ℕ) (t : Token) : Type 0 where
  pub run : Stretch in_word text from next
  pub token : with_sign sign (number_in (take (next - from) (drop from text))) ≡ t

-- what the reader of digits answers
abbrev pub DigitsRead : List ℕ → Bool → ℕ → Answer WordValue → Type 0
DigitsRead text sign from (Some w) = DigitsAt text sign from w.next.at (signed w.negated w.value)
DigitsRead text sign from None = (next : ℕ) × DigitsAt text sign from next malformed

-- a word of a text stands at a place, goes up to another one and is the token
pub record Spelt (text : List ℕ) (at next : ℕ) (t : Token) : Type 0 where
  pub run : Stretch in_word text at next
  pub token : token_in (take (next - at) (drop at text)) ≡ t

-- what the word reader answers at a place
abbrev pub WordRead : List ℕ → ℕ → Answer WordValue → Type 0
WordRead text at (Some w) = Spelt text at w.next.at (signed w.negated w.value)
WordRead text at None = (next : ℕ) × Spelt text at next malformed

-- the first word from a place of a line on stands there, goes up to another place and is the token
pub record WordAt (line : List ℕ) (at next : ℕ) (t : Token) : Type 0 where
  pub later : at < next
  pub within : next ≤ length line
  pub token : token_in (take (next - at) (drop at line)) ≡ t
  pub parts : (s : ℕ) → words (s + at) (drop at line)
      ≡ piece (s + at) (take (next - at) (drop at line)) ∷ words (s + next) (drop next line)

-- ---- lines

-- the lines behind one that ends at a place: none if that is the text's end
unfoldable pub lines_behind : List ℕ → ℕ → List Line
unfolding lines
lines_behind text end = cond (ltb end (length text)) (lines (end + 1) (drop (end + 1) text)) []
