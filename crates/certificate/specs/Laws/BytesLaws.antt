-- Laws of the loops that copy numbers out of a body, and of permutations as entries. Assumes nothing.
use Rattle.std.specs.Prelude.{List, [], ◌∷◌, ◌++◌, ◌≡◌, ℕ, ◌+◌, ◌*◌, ◌^◌, ◌≤◌, ◌<◌, length, get_or, set, take, drop}
use native.Mathlib.Nat.{pow-le-pow_right, pow-succ'}
use Rattle.std.proofs.lemmas.List.{nil_from_length}
use Rattle.std.proofs.Math.Seq.{append_snoc, get_or-append_seam}
use Rattle.std.proofs.Common.{sym, ap, ◌∙◌, refl, subst, append-nil, length-append, lt_of_lt_of_le, zero-lt-suc, arith, suc-mul, le_trans, le_of_eq, mul-le-mul_right, take_all}
use Rattle.math.specs.Laws.NumeralLaws.{length-entries, entry_of}
use Rattle.math.specs.Laws.OverLaws.{Copying, copying_begins, copying_goes_on, copying_ends}
use Rattle.math.specs.Lists.{over}
use Rattle.math.specs.Numerals.{value}
use Rattle.certificate.specs.Bytes.{number_from, numbers_in}

-- the loop that copies the first `count` numbers of a body, w bytes each, into a slice: the first i are there
pub record Decoding (w count : ℕ) (body old : List ℕ) (i : ℕ) (to : List ℕ) : Type 0 where
  pub enough : count * w ≤ length body
  pub copying : Copying count (numbers_in w count body) old i to

module _ {w count : ℕ} {body old : List ℕ} where
  pub decoding_begins : count ≤ length old → count * w ≤ length body → Decoding w count body old 0 old
  decoding_begins r m = record {
    enough = m;
    copying = copying_begins (le_of_eq (sym (length-entries number_from w count body))) r;
  }

  -- in a turn number i lies in the body whole
  pub decoding_whole : {i : ℕ} {to : List ℕ} → Decoding w count body old i to → i < count → i * w + w ≤ length body
  decoding_whole s more = rw (← suc-mul) (le_trans (mul-le-mul_right w more) s.enough)

  pub decoding_goes_on : {i x : ℕ} {to after : List ℕ} → Decoding w count body old i to → i < count
      → x ≡ number_from (take w (drop (i * w) body)) → after ≡ set to i x → Decoding w count body old (i + 1) after
  decoding_goes_on {i} s more e f = record {
    enough = s.enough;
    copying = copying_goes_on s.copying more (e ∙ sym (entry_of number_from w count body i more)) f;
  }

  pub decoding_ends : {i : ℕ} {to : List ℕ} → Decoding w count body old i to → count ≤ i
      → to ≡ over (numbers_in w count body) old
  decoding_ends s all = copying_ends s.copying all
      ∙ ap (λ l. over l old) (take_all count (numbers_in w count body)
      (le_of_eq (length-entries number_from w count body)))

-- a walk over bytes from the last to the first: r is the number that those behind the rest stand for
pub record Reading (bytes rest : List ℕ) (r : ℕ) : Type 0 where
  pub behind : List ℕ
  pub parts : rest ++ behind ≡ bytes
  pub reads : r ≡ number_from behind
  pub small : r < 256 ^ length behind

pub reading_begins : (bytes : List ℕ) → Reading bytes bytes 0
unfolding value
reading_begins bytes = record { behind = []; parts = append-nil bytes; reads = refl; small = omega arith }

-- the last byte of the rest is one of the bytes
last_byte : (bytes rest behind : List ℕ) (x : ℕ) → rest ++ x ∷ behind ≡ bytes → get_or bytes (length rest) 0 ≡ x
last_byte bytes rest behind x e = ap (λ (l : List ℕ). get_or l (length rest) 0) (sym e) ∙ get_or-append_seam rest x behind 0

module _ {bytes rest : List ℕ} {r : ℕ} (g : Reading bytes rest r) where
  -- a turn takes the last byte of the rest
  pub reading_goes_on : (rest' : List ℕ) (x : ℕ) → rest ≡ rest' ++ x ∷ [] → ((i : ℕ) → get_or bytes i 0 < 256)
      → Reading bytes rest' (r * 256 + x)
  unfolding value
  reading_goes_on rest' x next small_bytes =
      let parts : rest' ++ x ∷ g.behind ≡ bytes = sym (append_snoc rest' x g.behind) ∙ ap (λ (l : List ℕ). l ++ g.behind) (sym next) ∙ g.parts in
      let byte : x < 256 = subst (λ (y : ℕ). y < 256) (last_byte bytes rest' g.behind x parts) (small_bytes (length rest')) in
      record { behind = x ∷ g.behind; parts = parts; reads = omega (arith, g.reads); small = rw pow-succ' (omega (arith, g.small)) }

  -- at most eight bytes stand for at most 64 bits
  pub reading_fits : length bytes ≤ 8 → r < 256 ^ 8
  reading_fits few =
      let long : length rest + length g.behind ≡ length bytes = sym (length-append rest g.behind) ∙ ap length g.parts in
      let most : length g.behind ≤ 8 = omega arith in
      lt_of_lt_of_le g.small (pow-le-pow_right (zero-lt-suc 255) most)

  pub reading_ends : length rest ≡ 0 → (r ≡ number_from bytes) × (r < 256 ^ length bytes)
  reading_ends none =
      let all : g.behind ≡ bytes = ap (λ (l : List ℕ). l ++ g.behind) (sym (nil_from_length rest none)) ∙ g.parts in
      (g.reads ∙ ap number_from all, subst (λ (l : List ℕ). r < 256 ^ length l) all g.small)
