-- A number without sign in a line: `read_digits` ends a word at byte 10 as well, which a line cut from its text does
-- not have; where one stands all the same, the word goes on and is no number. Assumes nothing.
use Rattle.std.specs.Prelude.{Bool, true, false, not, ◌&&◌, ◌||◌, List, ◌≡◌, refl, ℕ, zero, suc, ◌+◌, ◌-◌, ◌≤◌, ◌<◌, leb, length, get_or, take, drop}
use Rattle.std.proofs.Math.Bool.{and-false}
use Rattle.std.proofs.Math.Option.{Option, some, none}
use Rattle.std.proofs.Common.{sym, ap, ◌∙◌, arith, length-take, length-drop, get_or-take, get_or-drop, eqb-true}
use Rattle.std.proofs.Math.Decide.{dec_lt}
use Rattle.math.specs.Laws.ListLaws.{not-all, get_d_in}
use Rattle.math.specs.Lists.{◌∈◌}
use Rattle.dimacs_words.specs.declared.Class.TheVariants.{Word}
use Rattle.dimacs_format.specs.Text.{is_blank, ends_line, is_digit, is_number, number_in, unsigned}
use Rattle.dimacs_format.specs.Text.{Token, literal, close, malformed, pos, neg}
use Rattle.dimacs_words.specs.Laws.Scans.{belongs, ends_word, in_word, Stretch, signed, DigitsAt}
use Rattle.dimacs_words.specs.Laws.ScanLaws.{run_exists, run_goes_on}

-- the number of a token, whatever its sign
value_of : Token → Option ℕ
value_of (literal (pos v)) = some v
value_of (literal (neg v)) = some v
value_of close = some 0
value_of malformed = none

value-unsigned : (o : Option ℕ) → value_of (unsigned o) ≡ o
unfolding unsigned value_of
value-unsigned none = refl
value-unsigned (some zero) = refl
value-unsigned (some (suc v)) = refl

value-signed : (b : Bool) (v : ℕ) → value_of (signed b v) ≡ some v
unfolding value_of
value-signed false zero = refl
value-signed true zero = refl
value-signed false (suc v) = refl
value-signed true (suc v) = refl

-- ---- bytes

word_byte : (b : ℕ) → in_word b ≡ true → belongs Word b ≡ true
unfolding belongs ends_word
word_byte b = by (is_blank b) (ends_line b)
  where
    by : (x y : Bool) → not (x || y) ≡ true → not x ≡ true
    by false y e = refl
    by true y e = e

word_over : (b : ℕ) → ends_line b ≡ false → in_word b ≡ false → belongs Word b ≡ false
unfolding belongs ends_word
word_over b = by (is_blank b) (ends_line b)
  where
    by : (x y : Bool) → y ≡ false → not (x || y) ≡ false → not x ≡ false
    by false false f e = e
    by false true f e = f
    by true y f e = refl

-- byte 10 is in a word of a line, and no digit
newline_byte : (b : ℕ) → ends_line b ≡ true → (belongs Word b ≡ true) × (is_digit b ≡ false)
unfolding belongs ends_line is_blank is_digit
newline_byte b e = rw (eqb-true b 10 e) (refl, refl)

-- ---- words

-- a byte that is no digit spoils a number
number_spoilt : (bytes : List ℕ) {from e : ℕ} (k : ℕ) → e ≤ length bytes → from ≤ k → k < e
    → is_digit (get_or bytes k 0) ≡ false → number_in (take (e - from) (drop from bytes)) ≡ none
unfolding number_in is_number
number_spoilt bytes {from} {e} k le lo hi d =
    let w = take (e - from) (drop from bytes) in
    let at : get_or w (k - from) 0 ≡ get_or bytes k 0 =
    get_or-take (e - from) (drop from bytes) (k - from) 0 (omega arith) ∙ get_or-drop from bytes (k - from) 0
    ∙ ap (λ (j : ℕ). get_or bytes j 0) (let z : from + (k - from) ≡ k = omega arith in z) in
    let here : get_or w (k - from) 0 ∈ w =
    get_d_in w (k - from) 0 (omega (arith, length-take (e - from) (drop from bytes), length-drop from bytes)) in
    rw (not-all is_digit here (ap is_digit at ∙ d), and-false (leb 1 (length w) && leb (length w) 4))

-- ---- what the digits are in the line

module _ {bytes : List ℕ} {from next : ℕ} {t : Token} (d : DigitsAt bytes false from next t) where
  abbrev plain : Option ℕ
  plain = number_in (take (next - from) (drop from bytes))

  plain_is : plain ≡ value_of t
  plain_is = sym (value-unsigned plain) ∙ ap value_of d.token

  inside : (k : ℕ) → from ≤ k → k < next → belongs Word (get_or bytes k 0) ≡ true
  inside k lo hi = word_byte (get_or bytes k 0) (d.run.passes k lo hi)

  -- where no line ends, the word does
  pub plain_word : (next < length bytes → ends_line (get_or bytes next 0) ≡ false) → Stretch (belongs Word) bytes from next
  plain_word here =
      record {
        ordered = d.run.ordered;
        within = d.run.within;
        passes = inside;
        stops = λ lt. word_over (get_or bytes next 0) (here lt) (d.run.stops lt);
      }

  -- where one does, the word goes on and is no number
  pub plain_spoilt : next < length bytes → ends_line (get_or bytes next 0) ≡ true
      → (e : ℕ) × Stretch (belongs Word) bytes from e × (number_in (take (e - from) (drop from bytes)) ≡ none)
  plain_spoilt lt here =
      let byte = newline_byte (get_or bytes next 0) here in
      let o = d.run.ordered in
      let run = run_exists (belongs Word) bytes from (next + 1) (omega arith) (omega arith)
      (run_goes_on (belongs Word) bytes from next inside byte.0) in
      let past = run.1 in
      (run.0, run.2, number_spoilt bytes next run.2.within o (omega arith) byte.1)

pub plain_number : {bytes : List ℕ} {from next : ℕ} (b : Bool) (v : ℕ) → DigitsAt bytes false from next (signed b v)
    → number_in (take (next - from) (drop from bytes)) ≡ some v
plain_number b v d = plain_is d ∙ value-signed b v

-- digits that are malformed are a word of the line that is no number
pub plain_malformed : {bytes : List ℕ} {from next : ℕ} → DigitsAt bytes false from next malformed
    → (e : ℕ) × Stretch (belongs Word) bytes from e × (number_in (take (e - from) (drop from bytes)) ≡ none)
unfolding value_of
plain_malformed {bytes} {from} {next} d = by (dec_lt next (length bytes)) (ends_line (get_or bytes next 0)) refl
  where
    none_here : (next < length bytes → ends_line (get_or bytes next 0) ≡ false)
        → (e : ℕ) × Stretch (belongs Word) bytes from e × (number_in (take (e - from) (drop from bytes)) ≡ none)
    none_here h = (next, plain_word d h, plain_is d)

    by : Dec (next < length bytes) → (x : Bool) → ends_line (get_or bytes next 0) ≡ x
        → (e : ℕ) × Stretch (belongs Word) bytes from e × (number_in (take (e - from) (drop from bytes)) ≡ none)
    by (no ge) x e = none_here (λ lt. absurd (let z : ⊥ = omega arith in z))
    by (yes lt) true e = plain_spoilt d lt e
    by (yes lt) false e = none_here (λ _. e)
