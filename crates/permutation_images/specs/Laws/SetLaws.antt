-- Laws of the image of a set, variable by variable, and of the variables that stay. Assumes nothing.
use Rattle.std.specs.Prelude.{Bool, false, cond, ◌&&◌, ◌||◌, List, ◌≡◌, refl, ℕ, zero, suc, ◌+◌, ◌-◌, ◌*◌, ◌/◌, ◌%◌, ◌^◌, ◌≤◌, ◌<◌, eqb, length, get_or, drop}
use Rattle.std.proofs.Math.Bool.{true, or-false, xor}
use Rattle.std.proofs.Common.{true≢false, ⊎_elim, ap₂, ◌∙◌, subst, div-one, zero-mul, le_of_eq, le_of_lt, lt_of_lt_of_le, le_antisymm, add-one, arith, eq-eqb, ne_eqb, eqb-true}
use Rattle.std.proofs.Math.Path.{sym, ap}
use Rattle.std.proofs.Math.Decide.{ℕ_discrete}
use Rattle.std.specs.Int.Bits.{bit_and, bit_or, bit_xor, or_zero_l, or_zero_r}
use Rattle.std.proofs.lemmas.Bool.{eqb-false}
use Rattle.math.specs.Bits.{bit, flip, members, Lowest}
use Rattle.math.specs.Laws.BitLaws.{bit-and, bit-or, bit-xor, bit-pow, bit-flip, bit_of_zero, bits_ext, digit_lt}
use Rattle.math.specs.Laws.ListLaws.{and_split, or_split, or_left, or_right, any_of, get_d_in}
use Rattle.math.specs.Laws.SetLaws.{bit_other, members_next}
use Rattle.points.specs.Laws.Contracts.{NextVariable}
use Rattle.points.specs.Laws.NextLaws.{next_lowest}
use Rattle.points.specs.Points.{Clause, listed, empty_clause}
use Rattle.permutation_theory.proofs.ImageLaws.{moved_idle, moved_union, moved_still, moved-one}
use Rattle.permutation_theory.specs.Laws.PermutationLaws.{same_clause_complete}
use Rattle.permutation_theory.specs.Permutations.{moved, image_of_clause, image_among, same_clause}
use Rattle.permutation_images.specs.Laws.Contracts.{Movable, Fixes}
use Rattle.permutation_images.specs.Laws.LoopLaws.{moved_step}

-- ---- the image, lowest variable first

-- r has the images of the variables taken out of s, of which `left` are left, and v is the next
pub record Sending (es : List ℕ) (s left v r : ℕ) : Type 0 where
  pub next : NextVariable left v
  pub split : moved es s ≡ bit_or (moved es left) r

-- a set is what is left of it without one of its variables, and that
without : (s v i : ℕ) → bit s v ≡ true → bit s i ≡ bit (flip s v) i || bit (2 ^ v) i
unfolding xor
without s v i member = by (ℕ_discrete i v)
  where
    by : Dec (i ≡ v) → bit s i ≡ bit (flip s v) i || bit (2 ^ v) i
    by (yes e) =
        ap (bit s) e ∙ member
        ∙ sym (ap₂ ◌||◌ (ap (bit (flip s v)) e ∙ bit-flip s v v ∙ ap₂ xor member (eq-eqb v v refl))
        (bit-pow v i ∙ eq-eqb v i (sym e)))
    by (no ne) =
        sym (ap₂ ◌||◌ (bit_other s v i ne) (bit-pow v i ∙ ne_eqb v i (λ e. ne (sym e))) ∙ or-false (bit s i))

-- a set without variables below k: the numbers from k on send it
above : (es : List ℕ) (s k : ℕ) → k ≤ length es → ((i : ℕ) → i < k → bit s i ≡ false)
    → moved (drop k es) (s / 2 ^ k) ≡ moved es s
unfolding bit
above es s zero le none = ap (moved es) (div-one s)
above es s (suc k) le none =
    let digit : s / 2 ^ k % 2 ≡ 0 = zero-digit (s / 2 ^ k % 2) (digit_lt (s / 2 ^ k)) (none k (omega arith)) in
    let behind = moved (drop (k + 1) es) (s / 2 ^ (k + 1)) in
    ap (λ j. moved (drop j es) (s / 2 ^ j)) (sym (add-one k))
    ∙ sym (moved_step 0 es 0 k le s
    ∙ ap (λ d. bit_or d behind) (ap (λ d. d * 2 ^ (get_or es k 0 - 1)) digit ∙ zero-mul (2 ^ (get_or es k 0 - 1)))
    ∙ or_zero_l behind)
    ∙ above es s k (omega arith) (λ i lt. none i (omega arith))
  where
    zero-digit : (d : ℕ) → d < 2 → eqb d 1 ≡ false → d ≡ 0
    zero-digit d lt e = let ne = eqb-false d 1 e in omega arith

module _ {es : List ℕ} (m : Movable es) {s : ℕ} where
  pub sending_begins : {v : ℕ} → NextVariable s v → Sending es s s v 0
  sending_begins next = record { next = next; split = sym (or_zero_r (moved es s)) }

  module _ {left v r : ℕ} (w : Sending es s left v r) where
    low : v < length es → Lowest left v
    low lt = next_lowest (length es) left v m.size w.next lt

    pub sending_less : v < length es → (left' : ℕ) → left' ≡ flip left v
        → length (members (length es) left') < length (members (length es) left)
    sending_less lt left' more =
        le_of_eq (ap (λ t. suc (length (members (length es) t))) more
        ∙ sym (ap length (members_next (length es) left v (low lt) lt)))

    pub sending_goes_on : v < length es → {left' v' r' : ℕ} → left' ≡ flip left v → NextVariable left' v'
        → r' ≡ bit_or r (2 ^ (get_or es v 0 - 1)) → Sending es s left' v' r'
    sending_goes_on lt {left'} {v'} {r'} more next taken =
        record {
          next = next;
          split = w.split
              ∙ ap (λ t. bit_or t r) (moved_union es left (flip left v) (2 ^ v) (λ i. without left v i (low lt).member))
              ∙ ap (λ t. bit_or (bit_or (moved es (flip left v)) t) r) (moved-one es v lt)
              ∙ turned (moved es (flip left v)) (2 ^ (get_or es v 0 - 1)) r
              ∙ ap₂ bit_or (ap (moved es) (sym more)) (sym taken);
        }
      where
        turned : (a b c : ℕ) → bit_or (bit_or a b) c ≡ bit_or a (bit_or c b)
        turned a b c =
            bits_ext (bit_or (bit_or a b) c) (bit_or a (bit_or c b)) (λ i.
            bit-or (bit_or a b) c i ∙ ap (λ t. t || bit c i) (bit-or a b i) ∙ arranged (bit a i) (bit b i) (bit c i)
            ∙ sym (bit-or a (bit_or c b) i ∙ ap (λ t. bit a i || t) (bit-or c b i)))
          where
            arranged : (x y z : Bool) → (x || y) || z ≡ x || (z || y)
            arranged true y z = refl
            arranged false true true = refl
            arranged false true false = refl
            arranged false false true = refl
            arranged false false false = refl

    -- what is left is sent by the numbers from the next variable on
    pub sending_rest : v < length es → moved (drop v es) (left / 2 ^ v) ≡ moved es left
    sending_rest lt = above es left v (le_of_lt lt) (low lt).least

    pub sending_ends : length es ≤ v → r ≡ moved es s
    sending_ends ge = sym (w.split ∙ ap (λ t. bit_or t r) (moved_idle es left none) ∙ or_zero_l r)
      where
        none : (i : ℕ) → i < length es → bit left i ≡ false
        none i lt = by (ℕ_discrete left 0)
          where
            by : Dec (left ≡ 0) → bit left i ≡ false
            by (yes e) = ap (λ t. bit t i) e ∙ bit_of_zero i
            by (no ne) = (w.next.lowest ne).least i (lt_of_lt_of_le lt ge)

-- ---- the variables that stay

pub fixes_none : {es : List ℕ} {k : ℕ} → Fixes es k 0
fixes_none = record { still = λ i e. absurd (true≢false (sym e ∙ bit_of_zero i)) }

module _ {es : List ℕ} {k f : ℕ} (w : Fixes es k f) where
  passes : Fixes es (k + 1) f
  passes = record { still = λ i e. let was = w.still i e in (omega arith, was.1) }

  grows : get_or es k 0 ≡ k + 1 → Fixes es (k + 1) (bit_or f (2 ^ k))
  grows own = record { still = still }
    where
      back : (i : ℕ) → k ≡ i → get_or es k 0 - 1 ≡ i
      back i at = omega arith

      still : (i : ℕ) → bit (bit_or f (2 ^ k)) i ≡ true → (i < k + 1) × (get_or es i 0 - 1 ≡ i)
      still i e =
          ⊎_elim (λ h. let was = w.still i h in (omega arith, was.1))
          (λ h. let at = eqb-true k i (sym (bit-pow k i) ∙ h) in
          (omega arith, ap (λ j. get_or es j 0 - 1) (sym at) ∙ back i at))
          (or_split (bit f i) (bit (2 ^ k) i) (sym (bit-or f (2 ^ k) i) ∙ e))

  -- all variables
  pub fixes_all : k ≤ length es → length es ≤ k → Fixes es (length es) f
  fixes_all le ge = subst (λ j. Fixes es j f) (le_antisymm le ge) w

  -- one variable more, by a test of its image
  pub fixes_goes_on : {f' : ℕ} → f' ≡ cond (eqb (get_or es k 0) (k + 1)) (bit_or f (2 ^ k)) f → Fixes es (k + 1) f'
  fixes_goes_on {f'} is = subst (Fixes es (k + 1)) (sym is) (by (eqb (get_or es k 0) (k + 1)) refl)
    where
      by : (b : Bool) → eqb (get_or es k 0) (k + 1) ≡ b → Fixes es (k + 1) (cond b (bit_or f (2 ^ k)) f)
      by true e = grows (eqb-true (get_or es k 0) (k + 1) e)
      by false e = passes

module _ {es : List ℕ} {f : ℕ} (w : Fixes es (length es) f) where
  -- a set of such variables is its own image
  pub stays : (s : ℕ) → ((i : ℕ) → bit s i ≡ true → bit f i ≡ true) → moved es s ≡ s
  stays s sub = moved_still es s (λ i e. w.still i (sub i e))

  -- what stays, and the image of what does not
  pub stays_and_leaves : (s : ℕ) → bit_or (bit_and s f) (moved es (bit_xor s (bit_and s f))) ≡ moved es s
  unfolding xor
  stays_and_leaves s =
      sym (moved_union es s (bit_and s f) (bit_xor s (bit_and s f)) made
      ∙ ap (λ t. bit_or t (moved es (bit_xor s (bit_and s f)))) (stays (bit_and s f) inside))
    where
      inside : (i : ℕ) → bit (bit_and s f) i ≡ true → bit f i ≡ true
      inside i e = (and_split (bit s i) (bit f i) (sym (bit-and s f i) ∙ e)).1

      parted : (a b : Bool) → a ≡ (a && b) || xor a (a && b)
      parted true true = refl
      parted true false = refl
      parted false b = refl

      made : (i : ℕ) → bit s i ≡ bit (bit_and s f) i || bit (bit_xor s (bit_and s f)) i
      made i =
          parted (bit s i) (bit f i)
          ∙ sym (ap₂ ◌||◌ (bit-and s f i) (bit-xor s (bit_and s f) i ∙ ap (xor (bit s i)) (bit-and s f i)))

  -- a clause all of whose variables stay is its own image
  pub clause_stays : (c : Clause) → bit_and (listed c) f ≡ listed c → image_of_clause (record { images = es }) c ≡ c
  unfolding image_of_clause listed
  clause_stays c all =
      λ k. record {
        positive = stays c.positive (λ i e. own i (or_left (bit c.positive i) (bit c.negative i) e)) k;
        negative = stays c.negative (λ i e. own i (or_right (bit c.positive i) (bit c.negative i) e)) k;
      }
    where
      own : (i : ℕ) → bit c.positive i || bit c.negative i ≡ true → bit f i ≡ true
      own i e =
          (and_split (bit (bit_or c.positive c.negative) i) (bit f i)
          (sym (bit-and (bit_or c.positive c.negative) f i) ∙ ap (λ t. bit t i) all
          ∙ bit-or c.positive c.negative i ∙ e)).1

  -- so its image is among the clauses, as it is one of them
  pub stays_among : (cs : List Clause) (i : ℕ) → i < length cs → (c : Clause) → c ≡ get_or cs i empty_clause
      → bit_and (listed c) f ≡ listed c → image_among cs (record { images = es }) (get_or cs i empty_clause) ≡ true
  stays_among cs i within c at all =
      any_of (same_clause (image_of_clause (record { images = es }) (get_or cs i empty_clause)))
      (get_d_in cs i empty_clause within)
      (same_clause_complete (image_of_clause (record { images = es }) (get_or cs i empty_clause)) (get_or cs i empty_clause)
      (ap (image_of_clause (record { images = es })) (sym at) ∙ clause_stays c all ∙ at))
