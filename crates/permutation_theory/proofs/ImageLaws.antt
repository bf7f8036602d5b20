-- Laws of images under a permutation: the computed image is the one that the sentence fixes, those of two points differ
-- in the images of the variables in which the points do, and that of a flipped point is the flipped image. Assumes
-- nothing.
use Rattle.std.specs.Prelude.{true, false, ◌&&◌, ◌||◌, List, [], ◌∷◌, ◌≡◌, refl, ℕ, zero, suc, ◌-◌, ◌*◌, ◌/◌, ◌%◌, ◌^◌, ◌≤◌, ◌<◌, eqb, length, get_or}
use Rattle.std.proofs.Math.Bool.{and-true, and-false, or-false}
use Rattle.std.specs.Bool.{xor}
use Rattle.std.proofs.Common.{true≢false, ⊎_elim, sym, ap, ap₂, ◌∙◌, subst, suc-le-suc, zero-mul, one-mul, not-suc-le-zero, le_of_suc-le-suc, lt_of_le_of_lt, mul-le-mul_right, le_of_eq, zero-lt-suc, arith, pow_pos, eqb-true, eq-eqb, ne_eqb}
use mathlib.Core.List.Memᴰ
use Rattle.std.specs.Int.Bits.{bit_or, bit_xor, or_zero_r}
use Rattle.std.proofs.lemmas.Nat.{or_lt, xor_lt}
use Rattle.std.proofs.Math.Pow.{pow-lt}
use Rattle.math.specs.Laws.BitLaws.{digit_lt, bit-zero, bit-suc, bit_of_zero, bit-or, bit-xor, bit-pow}
use Rattle.math.specs.Laws.BitLaws.{bits_ext_below, bits_ext, no_bits}
use Rattle.math.specs.Bits.{bit, flip}
use Rattle.math.specs.Laws.CountLaws.{distinct_index}
use Rattle.math.specs.Laws.ListLaws.{here, get_d_in, in_get_d, or-none, same_tests, or_left, or_right}
use Rattle.math.specs.Laws.ListLaws.{or_split, and_split, and_join, not-true-false}
use Rattle.math.specs.Lists.{◌∈◌, Distinct, distinct_cons}
use Rattle.permutation_theory.specs.Laws.PermutationLaws.{permutation_within, permutation_distinct}
use Rattle.permutation_theory.specs.Laws.PermutationLaws.{permutation_onto}
use Rattle.permutation_theory.specs.Permutations.{Permutation, IsPermutation, moved, IsImage, image_of_point}

-- a digit put at place k
pub bit-digit : (d k j : ℕ) → d < 2 → bit (d * 2 ^ k) j ≡ eqb d 1 && eqb k j
bit-digit zero k j h = ap (λ x. bit x j) (zero-mul (2 ^ k)) ∙ bit_of_zero j
bit-digit (suc zero) k j h = ap (λ x. bit x j) (one-mul (2 ^ k)) ∙ bit-pow k j
bit-digit (suc (suc d)) k j h = absurd (not-suc-le-zero (le_of_suc-le-suc (le_of_suc-le-suc h)))

-- every number of the list is at least 1: a variable's
abbrev Positive : List ℕ → Type 0
Positive vs = (v : ℕ) → v ∈ vs → 1 ≤ v

step : (v : ℕ) (vs : List ℕ) (s j : ℕ)
    → bit (moved (v ∷ vs) s) j ≡ (eqb (s % 2) 1 && eqb (v - 1) j) || bit (moved vs (s / 2)) j
unfolding moved
step v vs s j = bit-or (s % 2 * 2 ^ (v - 1)) (moved vs (s / 2)) j
    ∙ ap (λ b. b || bit (moved vs (s / 2)) j) (bit-digit (s % 2) (v - 1) j (digit_lt s))

-- of the empty set nothing is sent
pub moved_none : (vs : List ℕ) → moved vs 0 ≡ 0
unfolding moved
moved_none [] = refl
moved_none (v ∷ vs) = ap (bit_or (0 * 2 ^ (v - 1))) (moved_none vs) ∙ or_zero_r (0 * 2 ^ (v - 1))
    ∙ zero-mul (2 ^ (v - 1))

-- nothing is sent where no number of the list points
pub moved_off : (vs : List ℕ) (s j : ℕ) → Positive vs → (suc j ∈ vs → ⊥) → bit (moved vs s) j ≡ false
unfolding moved
moved_off [] s j pos out = bit_of_zero j
moved_off (v ∷ vs) s j pos out =
    step v vs s j
    ∙ or-none (eqb (s % 2) 1 && eqb (v - 1) j) (bit (moved vs (s / 2)) j)
    (ap (λ b. eqb (s % 2) 1 && b) (ne_eqb (v - 1) j (λ e. out (Memᴰ.head (same e (pos v (here v vs))))))
    ∙ and-false (eqb (s % 2) 1))
    (moved_off vs (s / 2) j (λ u m. pos u (Memᴰ.tail m)) (λ m. out (Memᴰ.tail m)))
  where
    same : v - 1 ≡ j → 1 ≤ v → suc j ≡ v
    same e h = omega arith

-- variable i goes where the i-th number points
pub moved_at : (vs : List ℕ) (s i : ℕ) → Distinct vs → Positive vs → i < length vs
    → bit (moved vs s) (get_or vs i 0 - 1) ≡ bit s i
moved_at [] s i d pos h = absurd (not-suc-le-zero h)
moved_at (v ∷ vs) s zero (distinct_cons new d) pos h =
    step v vs s (v - 1)
    ∙ ap₂ ◌||◌ (ap (λ b. eqb (s % 2) 1 && b) (eq-eqb (v - 1) (v - 1) refl) ∙ and-true (eqb (s % 2) 1))
    (moved_off vs (s / 2) (v - 1) (λ u m. pos u (Memᴰ.tail m))
    (λ m. new (subst (λ u. u ∈ vs) (same (pos v (here v vs))) m)))
    ∙ or-false (eqb (s % 2) 1) ∙ sym (bit-zero s)
  where
    same : 1 ≤ v → suc (v - 1) ≡ v
    same h = omega arith
moved_at (v ∷ vs) s (suc i) (distinct_cons new d) pos h =
    let m = get_d_in vs i 0 (le_of_suc-le-suc h) in
    step v vs s (get_or vs i 0 - 1)
    ∙ ap₂ ◌||◌
    (ap (λ b. eqb (s % 2) 1 && b)
    (ne_eqb (v - 1) (get_or vs i 0 - 1) (λ e. new (subst (λ u. u ∈ vs)
    (same (get_or vs i 0) e (pos v (here v vs)) (pos (get_or vs i 0) (Memᴰ.tail m))) m)))
    ∙ and-false (eqb (s % 2) 1))
    (moved_at vs (s / 2) i d (λ u k. pos u (Memᴰ.tail k)) (le_of_suc-le-suc h))
    ∙ sym (bit-suc s i)
  where
    same : (u : ℕ) → v - 1 ≡ u - 1 → 1 ≤ v → 1 ≤ u → u ≡ v
    same u e hv hu = omega arith

-- ---- which variables are sent where, whatever the numbers are

-- a variable of the set is sent where its number points
pub moved_to : (vs : List ℕ) (s i : ℕ) → i < length vs → bit s i ≡ true → bit (moved vs s) (get_or vs i 0 - 1) ≡ true
moved_to [] s i h e = absurd (not-suc-le-zero h)
moved_to (v ∷ vs) s zero h e =
    step v vs s (v - 1)
    ∙ or_left (eqb (s % 2) 1 && eqb (v - 1) (v - 1)) (bit (moved vs (s / 2)) (v - 1))
    (and_join (eqb (s % 2) 1) (eqb (v - 1) (v - 1)) (sym (bit-zero s) ∙ e) (eq-eqb (v - 1) (v - 1) refl))
moved_to (v ∷ vs) s (suc i) h e =
    step v vs s (get_or vs i 0 - 1)
    ∙ or_right (eqb (s % 2) 1 && eqb (v - 1) (get_or vs i 0 - 1)) (bit (moved vs (s / 2)) (get_or vs i 0 - 1))
    (moved_to vs (s / 2) i (le_of_suc-le-suc h) (sym (bit-suc s i) ∙ e))

-- the variable j comes from one of the set
pub record Source (vs : List ℕ) (s j : ℕ) : Type 0 where
  pub from : ℕ
  pub within : from < length vs
  pub member : bit s from ≡ true
  pub sent : get_or vs from 0 - 1 ≡ j

pub moved-from : (vs : List ℕ) (s j : ℕ) → bit (moved vs s) j ≡ true → Source vs s j
unfolding moved
moved-from [] s j e = absurd (true≢false (sym e ∙ bit_of_zero j))
moved-from (v ∷ vs) s j e =
    ⊎_elim first (λ h. rest (moved-from vs (s / 2) j h))
    (or_split (eqb (s % 2) 1 && eqb (v - 1) j) (bit (moved vs (s / 2)) j) (sym (step v vs s j) ∙ e))
  where
    first : eqb (s % 2) 1 && eqb (v - 1) j ≡ true → Source (v ∷ vs) s j
    first h =
        let both = and_split (eqb (s % 2) 1) (eqb (v - 1) j) h in
        record { from = 0; within = zero-lt-suc (length vs); member = bit-zero s ∙ both.0; sent = eqb-true (v - 1) j both.1 }

    rest : Source vs (s / 2) j → Source (v ∷ vs) s j
    rest w =
        record {
          from = suc w.from;
          within = suc-le-suc w.within;
          member = bit-suc s w.from ∙ w.member;
          sent = w.sent;
        }

-- of a set without variables that the list has a number for nothing is sent
pub moved_idle : (vs : List ℕ) (s : ℕ) → ((i : ℕ) → i < length vs → bit s i ≡ false) → moved vs s ≡ 0
moved_idle vs s none =
    no_bits (moved vs s) (λ j. not-true-false (bit (moved vs s) j) (λ e. let w = moved-from vs s j e in
    true≢false (sym w.member ∙ none w.from w.within)))

-- a set that is made of two is sent where these are sent
pub moved_union : (vs : List ℕ) (s a b : ℕ) → ((i : ℕ) → bit s i ≡ bit a i || bit b i)
    → moved vs s ≡ bit_or (moved vs a) (moved vs b)
moved_union vs s a b made =
    bits_ext (moved vs s) (bit_or (moved vs a) (moved vs b))
    (λ j. same_tests (bit (moved vs s) j) (bit (bit_or (moved vs a) (moved vs b)) j) (apart j) (together j))
  where
    one : (t : ℕ) (j : ℕ) → ((i : ℕ) → bit t i ≡ true → bit s i ≡ true) → bit (moved vs t) j ≡ true
        → bit (moved vs s) j ≡ true
    one t j sub e =
        let w = moved-from vs t j e in
        ap (bit (moved vs s)) (sym w.sent) ∙ moved_to vs s w.from w.within (sub w.from w.member)

    together : (j : ℕ) → bit (bit_or (moved vs a) (moved vs b)) j ≡ true → bit (moved vs s) j ≡ true
    together j e =
        ⊎_elim (one a j (λ i m. made i ∙ or_left (bit a i) (bit b i) m))
        (one b j (λ i m. made i ∙ or_right (bit a i) (bit b i) m))
        (or_split (bit (moved vs a) j) (bit (moved vs b) j) (sym (bit-or (moved vs a) (moved vs b) j) ∙ e))

    apart : (j : ℕ) → bit (moved vs s) j ≡ true → bit (bit_or (moved vs a) (moved vs b)) j ≡ true
    apart j e =
        let w = moved-from vs s j e in
        let i = w.from in
        let there : (t : ℕ) → bit t i ≡ true → bit (moved vs t) j ≡ true =
        λ t m. ap (bit (moved vs t)) (sym w.sent) ∙ moved_to vs t i w.within m in
        bit-or (moved vs a) (moved vs b) j
        ∙ ⊎_elim (λ m. or_left (bit (moved vs a) j) (bit (moved vs b) j) (there a m))
        (λ m. or_right (bit (moved vs a) j) (bit (moved vs b) j) (there b m))
        (or_split (bit a i) (bit b i) (sym (made i) ∙ w.member))

-- a set of variables that are sent to themselves stays
pub moved_still : (vs : List ℕ) (s : ℕ)
    → ((i : ℕ) → bit s i ≡ true → (i < length vs) × (get_or vs i 0 - 1 ≡ i)) → moved vs s ≡ s
moved_still vs s still =
    bits_ext (moved vs s) s (λ j. same_tests (bit (moved vs s) j) (bit s j)
    (λ e. let w = moved-from vs s j e in
    ap (bit s) (sym w.sent ∙ (still w.from w.member).1) ∙ w.member)
    (λ e. let w = still j e in ap (bit (moved vs s)) (sym w.1) ∙ moved_to vs s j w.0 e))

-- one variable is sent where its number points
pub moved-one : (vs : List ℕ) (v : ℕ) → v < length vs → moved vs (2 ^ v) ≡ 2 ^ (get_or vs v 0 - 1)
moved-one vs v lt =
    bits_ext (moved vs (2 ^ v)) (2 ^ (get_or vs v 0 - 1)) (λ j. same_tests (bit (moved vs (2 ^ v)) j)
    (bit (2 ^ (get_or vs v 0 - 1)) j)
    (λ e. let w = moved-from vs (2 ^ v) j e in
    let from : v ≡ w.from = eqb-true v w.from (sym (bit-pow v w.from) ∙ w.member) in
    bit-pow (get_or vs v 0 - 1) j ∙ eq-eqb (get_or vs v 0 - 1) j (ap (λ i. get_or vs i 0 - 1) from ∙ w.sent))
    (λ e. let at = eqb-true (get_or vs v 0 - 1) j (sym (bit-pow (get_or vs v 0 - 1) j) ∙ e) in
    ap (bit (moved vs (2 ^ v))) (sym at) ∙ moved_to vs (2 ^ v) v lt (bit-pow v v ∙ eq-eqb v v refl)))

pub moved-lt : (n : ℕ) (vs : List ℕ) (s : ℕ) → ((v : ℕ) → v ∈ vs → (1 ≤ v) × (v ≤ n)) → moved vs s < 2 ^ n
unfolding moved
moved-lt n [] s h = pow_pos n
moved-lt n (v ∷ vs) s h =
    or_lt n (s % 2 * 2 ^ (v - 1)) (moved vs (s / 2))
    (lt_of_le_of_lt (mul-le-mul_right (2 ^ (v - 1)) (le_of_suc-le-suc (digit_lt s)))
    (lt_of_le_of_lt (le_of_eq (one-mul (2 ^ (v - 1)))) (pow-lt (low (h v (here v vs))))))
    (moved-lt n vs (s / 2) (λ u m. h u (Memᴰ.tail m)))
  where
    low : (1 ≤ v) × (v ≤ n) → v - 1 < n
    low w = omega arith

-- ---- where a permutation sends the variables

-- the variable that variable i is sent to, both counted from 0
abbrev pub sent_to : Permutation → ℕ → ℕ
sent_to e i = get_or e.images i 0 - 1

module _ (n : ℕ) (e : Permutation) (p : IsPermutation n e) where
  pub index_lt : (i : ℕ) → i < n → i < length e.images
  index_lt i h = subst (λ k. i < k) (sym p.size) h

  pub sent_range : (i : ℕ) → i < n → (1 ≤ get_or e.images i 0) × (get_or e.images i 0 ≤ n)
  sent_range i h = permutation_within n e p (get_or e.images i 0) (get_d_in e.images i 0 (index_lt i h))

  pub sent_lt : (i : ℕ) → i < n → sent_to e i < n
  sent_lt i h = let w = sent_range i h in omega arith

  pub sent_injective : (i j : ℕ) → i < n → j < n → sent_to e i ≡ sent_to e j → i ≡ j
  sent_injective i j hi hj q =
      let a = sent_range i hi in
      let b = sent_range j hj in
      distinct_index 0 (permutation_distinct n e p) i j (index_lt i hi) (index_lt j hj) (omega arith)

-- ---- the image of a point: the computed one is an image, and the only one

module _ (n : ℕ) (e : Permutation) (p : IsPermutation n e) (x : ℕ) where
  pub image_sound : IsImage n e x (image_of_point e x)
  unfolding image_of_point
  image_sound =
      record {
        within = moved-lt n e.images x (permutation_within n e p);
        value = λ i h. moved_at e.images x i (permutation_distinct n e p) (λ v m. (permutation_within n e p v m).0)
            (index_lt n e p i h);
      }

  pub image_complete : (y : ℕ) → IsImage n e x y → y ≡ image_of_point e x
  image_complete y q = bits_ext_below n y (image_of_point e x) q.within image_sound.within same
    where
      same : (j : ℕ) → j < n → bit y j ≡ bit (image_of_point e x) j
      same j h =
          let w = in_get_d 0 (permutation_onto n e p (suc j) (omega arith) h) in
          let lt : w.0 < n = subst (λ k. w.0 < k) p.size w.1 in
          let at : get_or e.images w.0 0 - 1 ≡ j = ap (λ v. v - 1) w.2 ∙ pred j in
          ap (bit y) (sym at) ∙ q.value w.0 lt ∙ sym (image_sound.value w.0 lt) ∙ ap (bit (image_of_point e x)) at
        where
          pred : (j : ℕ) → suc j - 1 ≡ j
          pred j = omega arith

-- ---- the image of a point that differs from another in the variables of a set, where the image of that is known

-- it differs from that in the images of the variables
pub image_differing : (n : ℕ) (e : Permutation) → IsPermutation n e → (x s : ℕ)
    → image_of_point e (bit_xor x s) ≡ bit_xor (image_of_point e x) (image_of_point e s)
image_differing n e p x s =
    sym (image_complete n e p (bit_xor x s) (bit_xor (image_of_point e x) (image_of_point e s))
    (record {
      within = xor_lt n (image_of_point e x) (image_of_point e s) (image_sound n e p x).within (image_sound n e p s).within;
      value = λ i lt.
          bit-xor (image_of_point e x) (image_of_point e s) (sent_to e i)
          ∙ ap₂ xor ((image_sound n e p x).value i lt) ((image_sound n e p s).value i lt) ∙ sym (bit-xor x s i);
    }))

-- with variable v flipped: one step
pub image_flip : (n : ℕ) (e : Permutation) → IsPermutation n e → (x v : ℕ) → v < n
    → image_of_point e (flip x v) ≡ flip (image_of_point e x) (get_or e.images v 0 - 1)
unfolding flip image_of_point
image_flip n e p x v h =
    image_differing n e p x (2 ^ v) ∙ ap (bit_xor (image_of_point e x)) (moved-one e.images v (index_lt n e p v h))
