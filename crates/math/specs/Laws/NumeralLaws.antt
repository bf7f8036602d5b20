-- Laws of numbers by their digits and of entries that stand without gaps: what is put out reads back. Assumes nothing.
use mathlib.Core.List.Memᴰ
use mathlib.Core.List.{List, [], ◌∷◌, ◌++◌, flat_map, append_assoc, append-nil}
use Rattle.std.proofs.Math.Option.{some, none}
use Rattle.std.specs.Prelude.{◌≡◌, get_or, take}
use Rattle.std.proofs.Math.Path.{refl, sym, ap, ap₂}
use Rattle.std.proofs.Common.{◌∙◌, subst, pow-suc, zero-mul, suc-mul, add_comm, not-suc-le-zero, le_of_suc-le-suc, div-one, lt_of_lt_of_le, mul-le-mul_left, div-lt_iff_lt-mul, mul-zero, mul-suc, zero-lt-suc, pow_mono, shr-shr, take_at, drop_at, drop-drop, drop-cons}
use Prim.Native.Nat.{ℕ, zero, suc, ◌+◌, ◌*◌, ◌/◌, ◌^◌, ◌≤◌, ◌<◌, ◌%◌}
use Rattle.std.proofs.Math.Nat.{pow-zero, mod-add-div, div-eq_of_lt, zero-mod, one-le-pow}
use Rattle.std.proofs.Math.Arith.{lt-one}
use Rattle.std.proofs.Math.ListN.{length, get_elem?, drop}
use Rattle.math.specs.Lists.{◌∈◌}
use Rattle.math.specs.Laws.ListLaws.{here}
use Rattle.math.specs.Laws.PartLaws.{index_some}
use Rattle.math.specs.Numerals.{digits_of, value, entries}

-- ---- one number

module _ (b : ℕ) where
  pub length_digits : (w x : ℕ) → length (digits_of b w x) ≡ w
  unfolding digits_of
  length_digits zero x = refl
  length_digits (suc w) x = ap suc (length_digits w (x / 2 ^ b))

  -- digit i of a number
  pub digit_at : (w x i : ℕ) → i < w → get_or (digits_of b w x) i 0 ≡ x / 2 ^ (b * i) % 2 ^ b
  unfolding digits_of
  digit_at zero x i h = absurd (not-suc-le-zero h)
  digit_at (suc w) x zero h = ap (λ (y : ℕ). y % 2 ^ b) (sym (div-one x) ∙ ap (λ (k : ℕ). x / 2 ^ k) (sym (mul-zero b)))
  digit_at (suc w) x (suc i) h =
      digit_at w (x / 2 ^ b) i (le_of_suc-le-suc h)
      ∙ ap (λ (y : ℕ). y % 2 ^ b) (shr-shr x b (b * i) ∙ ap (λ (k : ℕ). x / 2 ^ k) (add_comm b (b * i) ∙ sym
      (mul-suc b i)))

  -- a number of k digits has none behind them
  pub digit_above : (k x i : ℕ) → x < 2 ^ (b * k) → k ≤ i → x / 2 ^ (b * i) % 2 ^ b ≡ 0
  digit_above k x i h le = ap (λ (y : ℕ). y % 2 ^ b) (div-eq_of_lt (lt_of_lt_of_le h (pow_mono (mul-le-mul_left b le))))
      ∙ zero-mod (2 ^ b)

  -- a number that fits its digits is the number that they stand for
  pub value-digits : (w x : ℕ) → x < (2 ^ b) ^ w → value b (digits_of b w x) ≡ x
  unfolding digits_of value
  value-digits zero x h = sym (lt-one (subst (λ (y : ℕ). x < y) (pow-zero (2 ^ b)) h))
  value-digits (suc w) x h =
      ap (λ (y : ℕ). x % 2 ^ b + 2 ^ b * y) (value-digits w (x / 2 ^ b) ((div-lt_iff_lt-mul (one-le-pow b 2
      (zero-lt-suc 1))).1
      (subst (λ (y : ℕ). x < y) (pow-suc (2 ^ b) w) h)))
      ∙ mod-add-div x (2 ^ b)

  -- the number from index i on is the digit there, and 2 ^ b times the number behind it
  pub value_next : (ds : List ℕ) (i : ℕ) → i < length ds
      → value b (drop i ds) ≡ get_or ds i 0 + 2 ^ b * value b (drop (suc i) ds)
  unfolding value
  value_next ds i h = ap (value b) (drop-cons ds i 0 h)

-- ---- entries

module _ {A : Type 0} (write : A → List ℕ) (w : ℕ) where
  -- entries of w digits each that read back one by one read back as a list, whatever stands behind them
  pub entries_flat_map : (read : List ℕ → A) (xs : List A) (behind : List ℕ) → ((x : A) → x ∈ xs → length (write x) ≡ w)
      → ((x : A) → x ∈ xs → read (write x) ≡ x)
      → entries read w (length xs) (flat_map write xs ++ behind) ≡ xs
  unfolding flat_map entries
  entries_flat_map read [] behind h r = refl
  entries_flat_map read (x ∷ xs) behind h r =
      let long : length (write x) ≡ w = h x (here x xs) in
      let whole : (write x ++ flat_map write xs) ++ behind
      ≡ write x ++ (flat_map write xs ++ behind) = append_assoc (write x) (flat_map write xs) behind in
      ap₂ ◌∷◌ (ap (λ l. read (take w l)) whole ∙ ap read (take_at (write x) (flat_map write xs ++ behind) w long)
      ∙ r x (here x xs))
      (ap (λ l. entries read w (length xs) (drop w l)) whole
      ∙ ap (entries read w (length xs)) (drop_at (write x) (flat_map write xs ++ behind) w long)
      ∙ entries_flat_map read xs behind (λ y m. h y (Memᴰ.tail m)) (λ y m. r y (Memᴰ.tail m)))

  pub entries-all : (read : List ℕ → A) (xs : List A) → ((x : A) → x ∈ xs → length (write x) ≡ w)
      → ((x : A) → x ∈ xs → read (write x) ≡ x)
      → entries read w (length xs) (flat_map write xs) ≡ xs
  entries-all read xs h r = ap (entries read w (length xs)) (sym (append-nil (flat_map write xs)))
      ∙ entries_flat_map read xs [] h r

module _ {A : Type 0} (read : List ℕ → A) (w : ℕ) where
  pub length-entries : (k : ℕ) (run : List ℕ) → length (entries read w k run) ≡ k
  unfolding entries
  length-entries zero run = refl
  length-entries (suc k) run = ap suc (length-entries k (drop w run))

  -- the entry of an index is the one that stands there
  pub entries_at : (k : ℕ) (run : List ℕ) (i : ℕ) → i < k
      → get_elem? (entries read w k run) i ≡ some (read (take w (drop (i * w) run)))
  unfolding entries
  entries_at zero run i h = absurd (not-suc-le-zero h)
  entries_at (suc k) run zero h = ap (λ (j : ℕ). some (read (take w (drop j run)))) (sym (zero-mul w))
  entries_at (suc k) run (suc i) h =
      entries_at k (drop w run) i (le_of_suc-le-suc h)
      ∙ ap (λ l. some (read (take w l))) (drop-drop (i * w) w run
      ∙ ap (λ (j : ℕ). drop j run) (add_comm w (i * w) ∙ sym (suc-mul i w)))

  -- and from the number of entries on there is none
  pub entries_outside : (k : ℕ) (run : List ℕ) (i : ℕ) → k ≤ i → get_elem? (entries read w k run) i ≡ none
  unfolding entries
  entries_outside zero run i h = refl
  entries_outside (suc k) run zero h = absurd (not-suc-le-zero h)
  entries_outside (suc k) run (suc i) h = entries_outside k (drop w run) i (le_of_suc-le-suc h)

  -- one entry more is the one that stands behind the others
  pub entries_snoc : (k : ℕ) (run : List ℕ)
      → entries read w (suc k) run ≡ entries read w k run ++ read (take w (drop (k * w) run)) ∷ []
  unfolding entries
  entries_snoc zero run = ap (λ (j : ℕ). read (take w (drop j run)) ∷ []) (sym (zero-mul w))
  entries_snoc (suc k) run =
      ap (λ l. read (take w run) ∷ l) (entries_snoc k (drop w run)
      ∙ ap (λ l. entries read w k (drop w run) ++ read (take w l) ∷ [])
      (drop-drop (k * w) w run ∙ ap (λ (j : ℕ). drop j run) (add_comm w (k * w) ∙ sym (suc-mul k w))))

-- the number of an index
pub entry_of : (read : List ℕ → ℕ) (w k : ℕ) (run : List ℕ) (i : ℕ) → i < k
    → get_or (entries read w k run) i 0 ≡ read (take w (drop (i * w) run))
entry_of read w k run i h =
    let inside : get_elem? (entries read w k run) i
    ≡ some (get_or (entries read w k run) i 0) = index_some (entries read w k run) i 0
    (subst (λ (j : ℕ). i < j) (sym (length-entries read w k run)) h) in
    let there : get_elem? (entries read w k run) i
    ≡ some (read (take w (drop (i * w) run))) = entries_at read w k run i h in
    cc
