-- Document 01, 'Sheet', the text, with request 2026-01 of document 02: its lines, their words, and the numbers that
-- words are. Definitions alone; TextLaws has what follows. Assumes nothing.
use Rattle.std.specs.Prelude.{Bool, true, false, not, cond, ◌&&◌, ◌||◌, List, [], ◌∷◌, ◌++◌, map, ◌≡◌, ℕ, zero, suc, ◌+◌, ◌-◌, ◌*◌, eqb, leb, length, take, drop}
use Rattle.std.proofs.Math.Option.{Option, some, none}
use Prim.Native.Char.{code}
use Prim.Native.String.{String, [] as end, ◌∷◌ as ◌then◌}
use Rattle.math.specs.Lists.{all, select}

-- ---- bytes

-- the bytes of a text of ASCII characters
abbrev pub ascii : String → List ℕ
ascii end = []
ascii (c then s) = code c ∷ ascii s

-- S7: "The text is at most 1,048,576 bytes."
abbrev pub max_text : ℕ
max_text = 1048576

-- S8: "Lines end with byte 10"
unfoldable pub ends_line : ℕ → Bool
ends_line b = eqb b 10

-- S9: "Blanks are bytes 32, 9 and 13."
unfoldable pub is_blank : ℕ → Bool
is_blank b = eqb b 32 || eqb b 9 || eqb b 13

-- S13: "one to four digits": a decimal digit, 0 to 9
unfoldable pub is_digit : ℕ → Bool
is_digit b = leb 48 b && leb b 57

-- ---- runs of bytes between separators

-- a run of bytes, with the place of its first byte in the text
pub record Piece : Type 0 where
  pub start : ℕ
  pub bytes : List ℕ

abbrev pub piece : ℕ → List ℕ → Piece
piece at bytes = record { start = at; bytes = bytes }

-- no byte of the run passes the test t for separators
abbrev pub Clean : (ℕ → Bool) → List ℕ → Type 0
Clean t run = all (λ b. not (t b)) run ≡ true

-- the runs between separators, in order; the first byte of all stands at the given place
pub data Split (t : ℕ → Bool) : ℕ → List ℕ → List Piece → Type 0 where
  split_last : {at : ℕ} {run : List ℕ} → Clean t run → Split t at run (piece at run ∷ [])
  split_more : {at b : ℕ} {run rest : List ℕ} {ps : List Piece} → Clean t run → t b ≡ true
      → Split t (suc (at + length run)) rest ps
      → Split t at (run ++ b ∷ rest) (piece at run ∷ ps)

-- a byte in front of the runs behind it: one that separates leaves an empty run, another one belongs to the first run
unfoldable pub joined : Bool → ℕ → ℕ → List Piece → List Piece
joined true at b ps = piece at [] ∷ ps
joined false at b [] = piece at (b ∷ []) ∷ []
joined false at b (p ∷ ps) = piece at (b ∷ p.bytes) ∷ ps

-- the same, computed
unfoldable pub pieces : (ℕ → Bool) → ℕ → List ℕ → List Piece
unfolding joined
pieces t at [] = piece at [] ∷ []
pieces t at (b ∷ bs) = joined (t b) at b (pieces t (suc at) bs)

-- ---- lines and words

-- a run of bytes between byte 10 and byte 10, and one between blanks
abbrev pub Line : Type 0
Line = Piece

abbrev pub Word : Type 0
Word = Piece

-- S8: "Lines end with byte 10; the last may lack it." Behind a last byte 10 stands one more line, an empty one, which
-- is all blanks.
unfoldable pub lines : ℕ → List ℕ → List Line
unfolding pieces ends_line
lines at bytes = pieces ends_line at bytes

-- a run that is not empty
unfoldable pub holds_bytes : Piece → Bool
holds_bytes p = leb 1 (length p.bytes)

-- S13: "words parted by blanks": the runs of bytes that are no blanks, none of them empty; the first byte of all stands
-- at the given place
unfoldable pub words : ℕ → List ℕ → List Word
unfolding pieces is_blank select holds_bytes
words at bytes = select holds_bytes (pieces is_blank at bytes)

-- the words of a line
abbrev pub words_of : Line → List Word
words_of l = words l.start l.bytes

-- the bytes of each word of a line
abbrev pub spelled : List Word → List (List ℕ)
spelled ws = map (λ (w : Word). w.bytes) ws

-- two runs of bytes are equal
unfoldable pub same_bytes : List ℕ → List ℕ → Bool
same_bytes [] [] = true
same_bytes [] (y ∷ ys) = false
same_bytes (x ∷ xs) [] = false
same_bytes (x ∷ xs) (y ∷ ys) = eqb x y && same_bytes xs ys

-- S18: "A line that begins with the seven bytes": a run of bytes has the given head
unfoldable pub begins : List ℕ → List ℕ → Bool
unfolding same_bytes
begins head bytes = same_bytes head (take (length head) bytes)

-- S10: "A line whose first byte is `c` is a comment."
unfoldable pub is_comment : Line → Bool
unfolding begins
is_comment l = begins (ascii "c") l.bytes

-- "all blanks"
unfoldable pub all_blank : List ℕ → Bool
unfolding all is_blank
all_blank bytes = all is_blank bytes

-- ---- the fixed words and heads

-- the words of the problem line that are fixed
abbrev pub problem_word : List ℕ
problem_word = ascii "p"

abbrev pub format_word : List ℕ
format_word = ascii "cnf"

-- the heads of the two comments with meaning
abbrev pub target_head : List ℕ
target_head = ascii "c wish "

abbrev pub permutation_head : List ℕ
permutation_head = ascii "c exch "

-- the first byte of a line that ends the sheet
abbrev pub percent_sign : List ℕ
percent_sign = ascii "%"

-- what stands behind the head of a line
abbrev pub behind : List ℕ → Line → List ℕ
behind head l = drop (length head) l.bytes

-- S18: "A line that begins with the seven bytes `c wish `"
unfoldable pub is_target_line : Line → Bool
unfolding begins
is_target_line l = begins target_head l.bytes

-- S19: "One that begins with `c exch `"
unfoldable pub is_permutation_line : Line → Bool
unfolding begins
is_permutation_line l = begins permutation_head l.bytes

-- Q01.2: "a line whose first byte is `%` and that otherwise holds blanks"
unfoldable pub is_percent_line : Line → Bool
unfolding begins all_blank
is_percent_line l = begins percent_sign l.bytes && all_blank (behind percent_sign l)

-- ---- numbers

-- the value of decimal digits, behind digits of the value v
unfoldable pub decimal : ℕ → List ℕ → ℕ
decimal v [] = v
decimal v (b ∷ bs) = decimal (v * 10 + (b - 48)) bs

-- S13: "one to four digits, leading zeros allowed"
unfoldable pub is_number : List ℕ → Bool
unfolding all is_digit
is_number w = leb 1 (length w) && leb (length w) 4 && all is_digit w

-- the number that a word without sign is, if it is one
unfoldable pub number_in : List ℕ → Option ℕ
unfolding is_number decimal
number_in w = cond (is_number w) (some (decimal 0 w)) none

-- a variable wanted 1 or wanted 0
pub data Literal : Type 0 where
  pos : ℕ → Literal
  neg : ℕ → Literal

-- its variable
unfoldable pub variable : Literal → ℕ
variable (pos v) = v
variable (neg v) = v

-- S13, S14: "signed decimal numbers": a word is a literal, the zero that closes a clause, or malformed
pub data Token : Type 0 where
  literal : Literal → Token
  close : Token
  malformed : Token

-- a number without minus
unfoldable pub unsigned : Option ℕ → Token
unsigned none = malformed
unsigned (some zero) = close
unsigned (some (suc v)) = literal (pos (suc v))

-- S13: "a minus before value 0 malformed"
unfoldable pub negated : Option ℕ → Token
negated none = malformed
negated (some zero) = malformed
negated (some (suc v)) = literal (neg (suc v))

-- S13: "an optional minus, one to four digits, leading zeros allowed, a minus before value 0 malformed"
unfoldable pub token_in : List ℕ → Token
unfolding number_in unsigned negated
token_in [] = malformed
token_in (b ∷ bs) = cond (eqb b 45) (negated (number_in bs)) (unsigned (number_in (b ∷ bs)))
