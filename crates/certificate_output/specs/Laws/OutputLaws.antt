-- Laws of stores into the output: numbers that stand without gaps, one more at a time, and the eight numbers of the
-- contents. Assumes nothing.
use Rattle.std.specs.Int.{w64, to_le_bytes, bytes_low_first, byte_at}
use native.Mathlib.Nat.{div-one}
use Rattle.std.proofs.lemmas.Bool.{cases_lt}
use Rattle.std.proofs.lemmas.Nat.{pow-add}
use Rattle.std.proofs.lemmas.List.{get_or_past}
use mathlib.Core.List.{List, [], ◌∷◌, ◌++◌, flat_map}
use Rattle.std.specs.Prelude.{◌≡◌, refl, ℕ, zero, suc, ◌+◌, ◌*◌, ◌/◌, ◌%◌, ◌^◌, ◌≤◌, ◌<◌, length, get_or, take}
use Rattle.std.proofs.Math.Path.{sym}
use Rattle.std.proofs.Common.{ap, ap₂, ◌∙◌, zero-le, add-zero, zero-add, le_of_lt, le_antisymm, lt_of_lt_of_le, add-one, pow-suc, mul-suc, ⊎_elim, arith, length-take-le, take-suc}
use Rattle.math.specs.Lists.{spliced}
use Rattle.math.specs.Laws.SpliceLaws.{spliced-none, spliced_next}
use Rattle.math.specs.Laws.SplitLaws.{length_flat_map, flat_map_append, flat_map_snoc}
use Rattle.certificate.specs.Bytes.{bytes_of, field_width, point_width}
use Rattle.math.specs.Laws.NumeralLaws.{length_digits, digit_at, digit_above}
use Rattle.certificate.specs.Certificate.{fields_of, layout, contents_length}

-- behind one part, another
pub part_stored : (at place : ℕ) (a b old before after : List ℕ) → at ≤ length old → place ≡ at + length a
    → before ≡ spliced at a old → after ≡ spliced place b before → after ≡ spliced at (a ++ b) old
part_stored at place a b old before after room here e f = f ∙ ap₂ (λ (k : ℕ) (l : List ℕ). spliced k b l) here e
    ∙ spliced_next at a b old room

module _ (w at : ℕ) (old : List ℕ) (room : at ≤ length old) where
  -- no number stored yet
  pub none_stored : old ≡ spliced at (flat_map (bytes_of w) []) old
  unfolding flat_map
  none_stored = sym (spliced-none at old)

  -- behind the numbers xs, w bytes each, one more
  pub one_stored : (xs : List ℕ) (x place : ℕ) (before after : List ℕ) → place ≡ at + length xs * w
      → before ≡ spliced at (flat_map (bytes_of w) xs) old → after ≡ spliced place (bytes_of w x) before
      → after ≡ spliced at (flat_map (bytes_of w) (xs ++ x ∷ [])) old
  one_stored xs x place before after here e f =
      part_stored at place (flat_map (bytes_of w) xs) (bytes_of w x) old before after room
      (here ∙ ap (λ (k : ℕ). at + k) (sym (length_flat_map (bytes_of w) w xs (λ y _. length_digits 8 w y)))) e f
      ∙ ap (λ l. spliced at l old) (sym (flat_map_snoc (bytes_of w) xs x))

-- the loop that stores `count` numbers, w bytes each, from place `at` on: the first i are there
pub record Storing (w at count : ℕ) (xs old : List ℕ) (i : ℕ) (out : List ℕ) : Type 0 where
  pub room : at + count * w ≤ length old
  pub enough : count ≤ length xs
  pub within : i ≤ count
  pub long : length out ≡ length old
  pub stored : out ≡ spliced at (flat_map (bytes_of w) (take i xs)) old

module _ {w at count : ℕ} {xs old : List ℕ} where
  -- before the first turn nothing is stored
  pub storing_begins : at + count * w ≤ length old → count ≤ length xs → Storing w at count xs old 0 old
  storing_begins r m =
      record { room = r; enough = m; within = zero-le; long = refl; stored = none_stored w at old (omega arith) }

  -- a turn stores number i behind the others
  pub storing_goes_on : {i x : ℕ} {before after : List ℕ} → Storing w at count xs old i before → i < count
      → x ≡ get_or xs i 0 → length after ≡ length before → after ≡ spliced (at + i * w) (bytes_of w x) before
      → Storing w at count xs old (i + 1) after
  storing_goes_on {i} {x} {before} {after} s more e same f =
      let inside : i < length xs = lt_of_lt_of_le more s.enough in
      record {
        room = s.room;
        enough = s.enough;
        within = omega arith;
        long = same ∙ s.long;
        stored =
            one_stored w at old (omega arith) (take i xs) x (at + i * w) before after
            (rw (length-take-le i xs (le_of_lt inside))) s.stored f
            ∙ ap (λ l. spliced at (flat_map (bytes_of w) l) old) (rw (e, add-one, take-suc xs i 0));
      }

  -- after the last turn all are stored
  pub storing_ends : {i : ℕ} {out : List ℕ} → Storing w at count xs old i out → count ≤ i
      → out ≡ spliced at (flat_map (bytes_of w) (take count xs)) old
  storing_ends s all =
      s.stored ∙ ap (λ (k : ℕ). spliced at (flat_map (bytes_of w) (take k xs)) old) (le_antisymm s.within all)

-- four numbers of the contents, one behind the other
pub four_stored : (at : ℕ) (old : List ℕ) → at ≤ length old → (a b c d : ℕ) (one two three four : List ℕ)
    → one ≡ spliced at (bytes_of field_width a) old → two ≡ spliced (at + 4) (bytes_of field_width b) one
    → three ≡ spliced (at + 8) (bytes_of field_width c) two → four ≡ spliced (at + 12) (bytes_of field_width d) three
    → four ≡ spliced at (flat_map (bytes_of field_width) (a ∷ b ∷ c ∷ d ∷ [])) old
four_stored at old room a b c d one two three four e f g h =
    let none = none_stored field_width at old room in
    let first = one_stored field_width at old room [] a at old one (sym (add-zero at)) none e in
    let second = one_stored field_width at old room (a ∷ []) b (at + 4) one two refl first f in
    let third = one_stored field_width at old room (a ∷ b ∷ []) c (at + 8) two three refl second g in
    one_stored field_width at old room (a ∷ b ∷ c ∷ []) d (at + 12) three four refl third h

-- C2: "n, m (rules), then count and offset of each body": the eight numbers of the contents
pub fields_stored : (n m a k points numbers : ℕ) (old new : List ℕ)
    → points ≡ contents_length + a * n → numbers ≡ contents_length + a * n + k * point_width
    → new ≡ spliced 0 (flat_map (bytes_of field_width) (n ∷ m ∷ a ∷ contents_length ∷ k ∷ points ∷ k ∷ numbers ∷ [])) old
    → new ≡ spliced 0 (flat_map (bytes_of field_width) (fields_of (layout n m a k k))) old
unfolding fields_of layout
fields_stored n m a k points numbers old new p q e =
    e
    ∙ ap₂ (λ (u v : ℕ). spliced 0 (flat_map (bytes_of field_width) (n ∷ m ∷ a ∷ contents_length ∷ k ∷ u ∷ k ∷ v ∷ [])) old) p
    q

-- the same, four of the eight numbers and then the others
pub contents_stored : (n m a k points numbers : ℕ) (old half whole : List ℕ)
    → points ≡ contents_length + a * n → numbers ≡ contents_length + a * n + k * point_width
    → half ≡ spliced 0 (flat_map (bytes_of field_width) (n ∷ m ∷ a ∷ contents_length ∷ [])) old
    → whole ≡ spliced 16 (flat_map (bytes_of field_width) (k ∷ points ∷ k ∷ numbers ∷ [])) half
    → whole ≡ spliced 0 (flat_map (bytes_of field_width) (fields_of (layout n m a k k))) old
contents_stored n m a k points numbers old half whole p q e f =
    let front : List ℕ = n ∷ m ∷ a ∷ contents_length ∷ [] in
    let back : List ℕ = k ∷ points ∷ k ∷ numbers ∷ [] in
    fields_stored n m a k points numbers old whole p q
    (part_stored 0 16 (flat_map (bytes_of field_width) front) (flat_map (bytes_of field_width) back) old half whole zero-le
    (sym (zero-add (length (flat_map (bytes_of field_width) front))
    ∙ length_flat_map (bytes_of field_width) field_width front (λ y _. length_digits 8 field_width y))) e f
    ∙ ap (λ l. spliced 0 l old) (sym (flat_map_append (bytes_of field_width) front back)))

-- the bytes of a word are its digits
powers : (i : ℕ) → 256 ^ i ≡ 2 ^ (8 * i)
powers zero = refl
powers (suc i) = pow-suc 256 i ∙ ap (λ (y : ℕ). y * 256) (powers i) ∙ sym (pow-add 2 (8 * i) 8)
    ∙ ap (λ (k : ℕ). 2 ^ k) (sym (mul-suc 8 i))

byte_digit : (i x : ℕ) → byte_at i x ≡ x / 2 ^ (8 * i) % 2 ^ 8
byte_digit zero x = ap (λ (y : ℕ). y % 256) (sym (div-one x))
byte_digit (suc i) x = ap (λ (y : ℕ). x / y % 256) (powers (suc i))

low_first : (i k j x : ℕ) → j < k → get_or (bytes_low_first i k x) j 0 ≡ byte_at (i + j) x
low_first i zero j x lt = absurd (omega arith)
low_first i (suc k) zero x lt = ap (λ (m : ℕ). byte_at m x) (sym (add-zero i))
low_first i (suc k) (suc j) x lt =
    low_first (suc i) k j x (omega arith) ∙ ap (λ (m : ℕ). byte_at m x) (let z : suc i + j ≡ i + suc j = omega arith in z)

pub word_bytes : (w i x : ℕ) → x < 2 ^ 64 → i < w → get_or (to_le_bytes w64 x) i 0 ≡ get_or (bytes_of w x) i 0
word_bytes w i x h lt =
    ⊎_elim (λ few. low_first 0 8 i x few ∙ ap (λ (j : ℕ). byte_at j x) (zero-add i) ∙ byte_digit i x)
    (λ past. get_or_past (to_le_bytes w64 x) i 0 past ∙ sym (digit_above 8 8 x i h past)) (cases_lt i 8)
    ∙ sym (digit_at 8 w x i lt)
