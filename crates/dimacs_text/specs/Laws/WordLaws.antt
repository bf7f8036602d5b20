-- The words of a written text: how they stand between bytes 32, what the reader takes them for, and that it finds them
-- and their lines again. Assumes nothing.
use Rattle.std.specs.Prelude.{false, not, cond, ◌≡◌, refl, ℕ, zero, suc, ◌+◌, ◌/◌, ◌%◌, ◌^◌, ◌≤◌, ◌<◌, leb, length}
use mathlib.Core.List.Memᴰ
use mathlib.Core.List.{List, [], ◌∷◌, ◌++◌, flat_map, append_assoc, append-nil}
use Rattle.std.proofs.Math.Option.{some}
use Rattle.std.proofs.Common.{sym, ap, ◌∙◌, arith, length-append, le-leb, ne_eqb}
use Rattle.math.specs.Laws.ListLaws.{here, and_split, and_join, all_of}
use Rattle.math.specs.Laws.PartLaws.{each_nil, each_cons, each_append}
use Rattle.math.specs.Laws.SplitLaws.{select-cons}
use Rattle.math.specs.Lists.{◌∈◌, all, select}
use Rattle.dimacs_format.specs.Laws.TextLaws.{pieces_end, pieces_next}
use Rattle.dimacs_format.specs.Text.{ascii, ends_line, is_blank, is_digit, piece, Clean, pieces, lines, holds_bytes, words}
use Rattle.dimacs_format.specs.Text.{spelled, problem_word, format_word, is_number, number_in, Literal, pos, neg, variable}
use Rattle.dimacs_format.specs.Text.{literal, unsigned, negated, token_in}
use Rattle.text_output.specs.Decimal.{digits, numeral, line_end}
use Rattle.text_output.specs.Laws.DecimalLaws.{numeral-length, numeral-value}
use Rattle.dimacs_text.specs.SheetText.{spaced, lined, spelling}

-- ---- words with a byte 32 before or behind each

-- behind each word but the last
pub spaced_last : (ws : List (List ℕ)) (w : List ℕ) → spaced (ws ++ w ∷ []) ≡ flat_map (λ v. v ++ 32 ∷ []) ws ++ w
unfolding spaced flat_map
spaced_last [] w = refl
spaced_last (v ∷ ws) w =
    let front : List ℕ = flat_map (λ v. v ++ 32 ∷ []) ws in
    behind-first ws ∙ ap (λ l. v ++ 32 ∷ l) (spaced_last ws w) ∙ sym (append_assoc v (32 ∷ front) w)
    ∙ ap (λ l. l ++ w) (sym (append_assoc v (32 ∷ []) front))
  where
    behind-first : (us : List (List ℕ)) → spaced (v ∷ (us ++ w ∷ [])) ≡ v ++ 32 ∷ spaced (us ++ w ∷ [])
    behind-first [] = refl
    behind-first (u ∷ us) = refl

-- before each word
pub spaced-first : (w : List ℕ) (ws : List (List ℕ)) → 32 ∷ spaced (w ∷ ws) ≡ flat_map (λ v. 32 ∷ v) (w ∷ ws)
unfolding spaced flat_map
spaced-first w [] = sym (append-nil (32 ∷ w))
spaced-first w (v ∷ ws) = ap (λ l. (32 ∷ w) ++ l) (spaced-first v ws)

-- ---- words of numbers: the bytes 45 to 57, among them the minus and the digits

abbrev pub NumberByte : ℕ → Type 0
NumberByte b = (45 ≤ b) × (b ≤ 57)

pub record NumberWord (w : List ℕ) : Type 0 where
  pub some_byte : 1 ≤ length w
  pub bytes : (b : ℕ) → b ∈ w → NumberByte b

-- the digits among them
abbrev DigitByte : ℕ → Type 0
DigitByte b = (48 ≤ b) × (b ≤ 57)

digit_byte : (x : ℕ) → (b : ℕ) → b ∈ ((48 + x % 10) ∷ []) → DigitByte b
digit_byte x = each_cons DigitByte (omega arith, omega arith) (each_nil DigitByte)

digits_bytes : (f q : ℕ) → (b : ℕ) → b ∈ digits f q → DigitByte b
unfolding digits
digits_bytes zero q = each_nil DigitByte
digits_bytes (suc f) zero = each_nil DigitByte
digits_bytes (suc f) (suc q) = each_append DigitByte (digits f (suc q / 10)) (digits_bytes f (suc q / 10))
    (digit_byte (suc q))

numeral_bytes : (x : ℕ) → (b : ℕ) → b ∈ numeral x → DigitByte b
unfolding numeral
numeral_bytes x = each_append DigitByte (digits x (x / 10)) (digits_bytes x (x / 10)) (digit_byte x)

pub numeral-word : (x : ℕ) → NumberWord (numeral x)
unfolding numeral
numeral-word x =
    record {
      some_byte = omega (arith, length-append (digits x (x / 10)) ((48 + x % 10) ∷ []));
      bytes = λ b m. let d = numeral_bytes x b m in (omega (arith, d.0), d.1);
    }

pub spelling-word : (l : Literal) → NumberWord (spelling l)
unfolding spelling
spelling-word (pos v) = numeral-word v
spelling-word (neg v) =
    record {
      some_byte = omega arith;
      bytes = each_cons NumberByte (omega arith, omega arith) (numeral-word v).bytes;
    }

pub zero_word : NumberWord (ascii "0")
zero_word =
    record { some_byte = omega arith; bytes = each_cons NumberByte (omega arith, omega arith) (each_nil NumberByte) }

-- ---- what the reader takes them for

-- S13: "one to four digits"
pub numeral_number : (x : ℕ) → x < 10 ^ 4 → number_in (numeral x) ≡ some x
unfolding number_in is_number is_digit
numeral_number x lt =
    rw (
      le-leb 1 (length (numeral x)) (numeral-word x).some_byte,
      le-leb (length (numeral x)) 4 (numeral-length 3 x lt),
      all_of is_digit (numeral x) (λ b m. let d = numeral_bytes x b m in
          and_join (leb 48 b) (leb b 57) (le-leb 48 b d.0) (le-leb b 57 d.1)),
    )
    (ap some (numeral-value x))

-- a word of digits has no minus
token_unsigned : (w : List ℕ) → ((b : ℕ) → b ∈ w → DigitByte b) → token_in w ≡ unsigned (number_in w)
unfolding token_in
token_unsigned [] h = refl
token_unsigned (b ∷ bs) h =
    ap (λ t. cond t (negated (number_in bs)) (unsigned (number_in (b ∷ bs))))
    (ne_eqb b 45 (λ e. let d = h b (here b bs) in let z : ⊥ = omega (arith, d.0) in z))

pub token_spelled : (l : Literal) → 1 ≤ variable l → variable l < 10 ^ 4 → token_in (spelling l) ≡ literal l
unfolding spelling variable token_in
token_spelled (pos zero) low high = absurd (omega arith)
token_spelled (pos (suc v)) low high = token_unsigned (numeral (suc v)) (numeral_bytes (suc v))
    ∙ ap unsigned (numeral_number (suc v) high)
token_spelled (neg zero) low high = absurd (omega arith)
token_spelled (neg (suc v)) low high = ap negated (numeral_number (suc v) high)

-- ---- words and lines are found again

-- a run that is not empty, of bytes that part neither words nor lines
pub record IsWord (w : List ℕ) : Type 0 where
  pub some_byte : 1 ≤ length w
  pub unblank : Clean is_blank w
  pub inside : Clean ends_line w

-- no byte of a number is a blank
pub number_unblank : (b : ℕ) → NumberByte b → is_blank b ≡ false
unfolding is_blank
number_unblank b r = rw (
  ne_eqb b 32 (λ e. let z : ⊥ = omega (arith, r.0) in z),
  ne_eqb b 9 (λ e. let z : ⊥ = omega (arith, r.0) in z),
  ne_eqb b 13 (λ e. let z : ⊥ = omega (arith, r.0) in z),
)

pub number_word : (w : List ℕ) → NumberWord w → IsWord w
unfolding ends_line
number_word w h =
    record {
      some_byte = h.some_byte;
      unblank = all_of (λ b. not (is_blank b)) w (λ b m. ap not (number_unblank b (h.bytes b m)));
      inside = all_of (λ b. not (ends_line b)) w
          (λ b m. let r = h.bytes b m in ap not (ne_eqb b 10 (λ e. let z : ⊥ = omega (arith, r.0) in z)));
    }

pub problem_word_lem : IsWord problem_word
unfolding all is_blank ends_line
problem_word_lem = record { some_byte = omega arith; unblank = refl; inside = refl }

pub format_word_lem : IsWord format_word
unfolding all is_blank ends_line
format_word_lem = record { some_byte = omega arith; unblank = refl; inside = refl }

-- Q02.2: "one byte 32 between words"
pub words-spaced : (at : ℕ) (ws : List (List ℕ)) → ((w : List ℕ) → w ∈ ws → IsWord w)
    → spelled (words at (spaced ws)) ≡ ws
unfolding words spaced holds_bytes
words-spaced at [] h = refl
words-spaced at (w ∷ []) h =
    let k = h w (here w []) in
    ap (λ l. spelled (select holds_bytes l)) (pieces_end is_blank at w k.unblank)
    ∙ ap spelled (select-cons holds_bytes {x = piece at w} [] (le-leb 1 (length w) k.some_byte))
words-spaced at (w ∷ v ∷ ws) h =
    let k = h w (here w (v ∷ ws)) in
    ap (λ l. spelled (select holds_bytes l)) (pieces_next is_blank at w 32 (spaced (v ∷ ws)) k.unblank refl)
    ∙ ap spelled (select-cons holds_bytes {x = piece at w} (pieces is_blank (suc (at + length w)) (spaced (v ∷ ws)))
    (le-leb 1 (length w) k.some_byte))
    ∙ ap (λ l. w ∷ l) (words-spaced (suc (at + length w)) (v ∷ ws) (λ u m. h u (Memᴰ.tail m)))

pub spaced_inside : (ws : List (List ℕ)) → ((w : List ℕ) → w ∈ ws → IsWord w) → Clean ends_line (spaced ws)
unfolding spaced all ends_line
spaced_inside [] h = refl
spaced_inside (w ∷ []) h = (h w (here w [])).inside
spaced_inside (w ∷ v ∷ ws) h = joined w (h w (here w (v ∷ ws))).inside
    (spaced_inside (v ∷ ws) (λ u m. h u (Memᴰ.tail m)))
  where
    joined : (u : List ℕ) → Clean ends_line u → Clean ends_line (spaced (v ∷ ws))
        → Clean ends_line (u ++ 32 ∷ spaced (v ∷ ws))
    joined [] a b = b
    joined (x ∷ u) a b =
        let k = and_split (not (ends_line x)) (all (λ b. not (ends_line b)) u) a in
        and_join (not (ends_line x)) (all (λ b. not (ends_line b)) (u ++ 32 ∷ spaced (v ∷ ws))) k.0 (joined u k.1 b)

-- Q02.2: "byte 10 after each line"
pub line_next : (at : ℕ) (l : List ℕ) (ls : List (List ℕ)) → Clean ends_line l
    → lines at (lined (l ∷ ls)) ≡ piece at l ∷ lines (suc (at + length l)) (lined ls)
unfolding lines lined
line_next at l ls clean = ap (pieces ends_line at) (append_assoc l line_end (lined ls))
    ∙ pieces_next ends_line at l 10 (lined ls) clean refl
