-- Laws of the tree, over numbers of points and links: two points that may stand at one link agree below its depth; a
-- look-up's steps; a point added at the link where its look-up ended. Assumes nothing.
use Rattle.std.specs.Prelude.{Bool, true, false, ◌⊎◌, ◌≡◌, refl, ℕ, suc, ◌+◌, ◌*◌, ◌^◌, ◌≤◌, ◌<◌}
use Rattle.std.proofs.Common.{inl, inr, sym, ap, ◌∙◌, subst, mod-lt, not-suc-le-zero, le_of_eq, le_trans, lt_of_lt_of_le, zero-lt-suc, mul_comm, div-lt_iff_lt-mul, mul-lt-mul_of_pos_right, mul-le-mul_left, mul-le-mul_right, le_of_suc-le-suc, arith}
use Rattle.std.proofs.Math.Decide.{dec_lt, ℕ_discrete}
use Rattle.math.specs.Laws.BitLaws.{bits_ext_below}
use Rattle.math.specs.Bits.{bit}
use Rattle.point_index.specs.Laws.Index.{hash_of, head_of, child_of, Agree, MayStand, at_head, at-child, Finds, found_here}
use Rattle.point_index.specs.Laws.Index.{found_below, Indexes}
use Rattle.point_index.specs.Laws.Looking.{Extends, Looking}

-- ---- links

pub head-lt : (heads x : ℕ) → 1 ≤ heads → head_of heads x < heads
unfolding head_of hash_of
head-lt heads x pos =
    (div-lt_iff_lt-mul {k = 4294967296} (zero-lt-suc 4294967295)).1
    (lt_of_lt_of_le (mul-lt-mul_of_pos_right {k = heads} (mod-lt _ (zero-lt-suc 4294967295)) pos)
    (le_of_eq (mul_comm 4294967296 heads)))

-- what a hash is brought below another number by
pub hash_scaled : (h k most : ℕ) → h < 4294967296 → k ≤ most → h * k ≤ 4294967295 * most
hash_scaled h k most small few = le_trans (mul-le-mul_right k (le_of_suc-le-suc small)) (mul-le-mul_left 4294967295 few)

child_ge : (heads j : ℕ) (b : Bool) → heads ≤ child_of heads j b
unfolding child_of
child_ge heads j false = omega arith
child_ge heads j true = omega arith

child-lt : (heads j k : ℕ) (b : Bool) → j < k → child_of heads j b < heads + 2 * k
unfolding child_of
child-lt heads j k false lt = omega arith
child-lt heads j k true lt = omega arith

-- a child link tells its point and its digit
child_same : (heads i j : ℕ) (b c : Bool) → child_of heads i b ≡ child_of heads j c → (i ≡ j) × (b ≡ c)
unfolding child_of
child_same heads i j false false e = (omega arith, refl)
child_same heads i j false true e = let z : ⊥ = omega arith in absurd z
child_same heads i j true false e = let z : ⊥ = omega arith in absurd z
child_same heads i j true true e = (omega arith, refl)

same_number : (i j : ℕ) → ◌≡◌ {A = ℕ} (suc i) (suc j) → i ≡ j
same_number i j e = omega arith

not-zero : (v i : ℕ) → v ≡ 0 → v ≡ suc i → ⊥
not-zero v i z e = omega arith

-- ---- two points at one link

-- one more digit
agree_more : (d x y z : ℕ) → Agree d x z → Agree d y z → bit x d ≡ bit y d → Agree (suc d) x y
agree_more d x y z ax ay e i lt = by (dec_lt i d)
  where
    by : Dec (i < d) → bit x i ≡ bit y i
    by (yes l) = ax i l ∙ sym (ay i l)
    by (no ge) = let p : i ≡ d = omega arith in subst (λ (m : ℕ). bit x m ≡ bit y m) (sym p) e

-- no head is a child link
apart : (heads x j : ℕ) (b : Bool) → 1 ≤ heads → head_of heads x ≡ child_of heads j b → ⊥
apart heads x j b pos e = let lo = child_ge heads j b in let hi = head-lt heads x pos in omega arith

module _ {heads k : ℕ} {point depth : ℕ → ℕ} (pos : 1 ≤ heads) where
  -- two points that may stand at one link have one depth there, and the same digits below it
  pub same_link : {x y s d e : ℕ} → MayStand heads k point depth x s d → MayStand heads k point depth y s e
      → (d ≡ e) × Agree d x y
  same_link (at_head p q) (at_head p' q') = (
    q
        ∙ sym q',
    λ i lt. absurd (not-suc-le-zero (subst (λ (m : ℕ). i < m) q lt)),
  )
  same_link {x} {y} (at_head p q) (at-child j l p' q' a) = absurd (apart heads x j (bit y (depth j)) pos (sym p ∙ p'))
  same_link {x} {y} (at-child j l p q a) (at_head p' q') = absurd (apart heads y j (bit x (depth j)) pos (sym p' ∙ p))
  same_link {x} {y} (at-child i l p q a) (at-child j l' p' q' a') =
      let w = child_same heads i j (bit x (depth i)) (bit y (depth j)) (sym p ∙ p') in
      let other : Agree (depth i) y (point i) = subst (λ (m : ℕ). Agree (depth m) y (point m)) (sym w.0) a' in
      let digit : bit x (depth i) ≡ bit y (depth i) = w.1 ∙ ap (λ (m : ℕ). bit y (depth m)) (sym w.0) in (
        q ∙ ap (λ (m : ℕ). suc (depth m)) w.0
            ∙ sym q',
        subst (λ (m : ℕ). Agree m x y) (sym q) (agree_more (depth i) x y (point i) a other digit),
      )

  -- a link where a point may stand is a head's or one of the k points'
  pub stands_lt : {x s d : ℕ} → MayStand heads k point depth x s d → s < heads + 2 * k
  stands_lt {x} (at_head p q) = let hi = head-lt heads x pos in omega arith
  stands_lt {x} (at-child j l p q a) = let hi = child-lt heads j k (bit x (depth j)) l in omega arith

-- ---- what is found stays found in whatever extends the index

pub finds_extends : {heads : ℕ} {point link point' link' : ℕ → ℕ} → Extends point link point' link' → {x j s d : ℕ}
    → Finds heads point link x j s d → Finds heads point' link' x j s d
finds_extends ext {x} {j} {s} (found_here e p) = let w = ext s j e in found_here w.0 (w.1 ∙ p)
finds_extends ext {x} {j} {s} (found_below i e ne f) =
    let w = ext s i e in found_below i w.0 (λ p. ne (sym w.1 ∙ p)) (finds_extends ext f)

-- nothing is found at a link that is 0
none_found : {heads : ℕ} {point link : ℕ → ℕ} {x j s d : ℕ} → link s ≡ 0 → Finds heads point link x j s d → ⊥
none_found {link = link} {j = j} {s = s} z (found_here e p) = not-zero (link s) j z e
none_found {link = link} {s = s} z (found_below i e ne f) = not-zero (link s) i z e

-- behind another point a look-up goes on at its side
passes : {heads : ℕ} {point link : ℕ → ℕ} {x j s d : ℕ} (i : ℕ) → link s ≡ suc i → (point i ≡ x → ⊥)
    → Finds heads point link x j s d
    → Finds heads point link x j (child_of heads i (bit x d)) (suc d)
passes {point = point} {x = x} {j = j} i e ne (found_here e' p) = absurd
    (ne (ap point (same_number i j (sym e ∙ e')) ∙ p))
passes {heads} {point} {link} {x} {j} {s} {d} i e ne (found_below i' e' ne' f) =
    subst (λ (m : ℕ). Finds heads point link x j (child_of heads m (bit x d)) (suc d)) (same_number i' i (sym e' ∙ e)) f

-- ---- the loop of a look-up

pub looking_begins : {heads n k : ℕ} {point depth link : ℕ → ℕ} → Indexes heads n k point depth link → (x : ℕ)
    → Looking heads n k point link x (head_of heads x) 0
looking_begins {depth = depth} t x =
    record { depth = depth; indexes = t; stands = at_head refl refl; ahead = λ j f. f; back = λ p l ext j f. f }

module _ {heads n k : ℕ} {point link : ℕ → ℕ} {x s d : ℕ} (l : Looking heads n k point link x s d) where
  -- at a link that is 0 the look-up has shown that x is none of the points
  pub looking_ends : link s ≡ 0 → (j : ℕ) → j < k → point j ≡ x → ⊥
  looking_ends z j lt e =
      none_found z (l.ahead j (subst (λ (y : ℕ). Finds heads point link y j (head_of heads y) 0) e
      (l.indexes.finds j lt)))

  pub looking_meets : (j : ℕ) → link s ≡ suc j → j < k
  looking_meets j e = (l.indexes.stands s j e).0

  module _ (pos : 1 ≤ heads) (j : ℕ) (e : link s ≡ suc j) where
    -- the point met has depth d, and x has its lowest digits
    met : (d ≡ l.depth j) × Agree d x (point j)
    met = same_link pos l.stands (l.indexes.stands s j e).1

    -- two points that differ do so below n: the look-up takes at most n steps
    pub looking_less : x < 2 ^ n → (point j ≡ x → ⊥) → d < n
    looking_less lt ne = by (dec_lt d n)
      where
        by : Dec (d < n) → d < n
        by (yes h) = h
        by (no ge) =
            let le : n ≤ d = omega arith in
            absurd (ne (sym (bits_ext_below n x (point j) lt (l.indexes.narrow j (looking_meets j e))
            (λ i h. met.1 i (lt_of_lt_of_le h le)))))

    pub looking_goes_on : (point j ≡ x → ⊥) → Looking heads n k point link x (child_of heads j (bit x d)) (suc d)
    looking_goes_on ne =
        record {
          depth = l.depth;
          indexes = l.indexes;
          stands =
              at-child j (looking_meets j e) (ap (λ (m : ℕ). child_of heads j (bit x m)) met.0) (ap suc met.0)
              (subst (λ (m : ℕ). Agree m x (point j)) met.0 met.1);
          ahead = λ i f. passes j e ne (l.ahead i f);
          back = λ point' link' ext i f. let w = ext s j e in l.back point' link' ext i
              (found_below j w.0 (λ p. ne (sym w.1 ∙ p)) f);
        }

-- ---- a point added

-- where a point may stand, it may stand among more points
stands_more : {heads k : ℕ} {point depth point' depth' : ℕ → ℕ} → ((j : ℕ) → j < k → point' j ≡ point j)
    → ((j : ℕ) → j < k → depth' j ≡ depth j)
    → {x s d : ℕ} → MayStand heads k point depth x s d → MayStand heads (suc k) point' depth' x s d
stands_more ps ds (at_head p q) = at_head p q
stands_more {heads} {k} {point} {depth} {point'} {depth'} ps ds {x} (at-child j l p q a) =
    at-child j (le_trans l (le_of_lt k)) (p ∙ ap (λ (m : ℕ). child_of heads j (bit x m)) (sym (ds j l)))
    (q ∙ ap suc (sym (ds j l)))
    (λ i h. a i (subst (λ (m : ℕ). i < m) (ds j l) h) ∙ ap (λ (y : ℕ). bit y i) (sym (ps j l)))
  where
    le_of_lt : (m : ℕ) → m ≤ suc m
    le_of_lt m = omega arith

module _ {heads n k : ℕ} {point link : ℕ → ℕ} {x s d : ℕ} (l : Looking heads n k point link x s d) (free : link s ≡ 0)
    (narrow : x < 2 ^ n)
    (point' depth' link' : ℕ → ℕ) (old : (j : ℕ) → j < k → point' j ≡ point j) (new : point' k ≡ x)
    (kept : (j : ℕ) → j < k → depth' j ≡ l.depth j) (last : depth' k ≡ d)
    (stored : link' s ≡ suc k) (rest : (t : ℕ) → (t ≡ s → ⊥) → link' t ≡ link t) where
  extends : Extends point link point' link'
  extends t j e = (
    rest t (λ p. not-zero (link s) j free (ap link (sym p) ∙ e))
        ∙ e,
    old j (l.indexes.stands t j e).0,
  )

  split : (j : ℕ) → j < suc k → (j < k) ⊎ (j ≡ k)
  split j lt = by (dec_lt j k)
    where
      by : Dec (j < k) → (j < k) ⊎ (j ≡ k)
      by (yes h) = inl h
      by (no ge) = inr (omega arith)

  wider : (j : ℕ) → j < k → j < suc k
  wider j lt = omega arith

  stands_after : (t j : ℕ) → link' t ≡ suc j
      → (j < suc k) × MayStand heads (suc k) point' depth' (point' j) t (depth' j)
  stands_after t j e = by (ℕ_discrete t s)
    where
      by : Dec (t ≡ s) → (j < suc k) × MayStand heads (suc k) point' depth' (point' j) t (depth' j)
      by (yes p) =
          let q : k ≡ j = same_number k j (sym stored ∙ ap link' (sym p) ∙ e) in
          let m : MayStand heads (suc k) point' depth' x s d = stands_more old kept l.stands in
          let m' : MayStand heads (suc k) point' depth' (point' k) t (depth' k) =
          subst (λ (u : ℕ). MayStand heads (suc k) point' depth' (point' k) u (depth' k)) (sym p)
          (subst (λ (u : ℕ). MayStand heads (suc k) point' depth' (point' k) s u) (sym last)
          (subst (λ (y : ℕ). MayStand heads (suc k) point' depth' y s d) (sym new) m)) in
          subst (λ (i : ℕ). (i < suc k) × MayStand heads (suc k) point' depth' (point' i) t (depth' i)) q
          (le_of_eq refl, m')
      by (no ne) =
          let w = l.indexes.stands t j (sym (rest t ne) ∙ e) in
          let m = stands_more old kept w.1 in (
            wider j w.0,
            subst (λ (y : ℕ). MayStand heads (suc k) point' depth' y t (depth' j)) (sym (old j w.0))
                (subst (λ (u : ℕ). MayStand heads (suc k) point' depth' (point j) t u) (sym (kept j w.0)) m),
          )

  finds_after : (j : ℕ) → (j < k) ⊎ (j ≡ k) → Finds heads point' link' (point' j) j (head_of heads (point' j)) 0
  finds_after j (inl lt) =
      subst (λ (y : ℕ). Finds heads point' link' y j (head_of heads y) 0) (sym (old j lt))
      (finds_extends extends (l.indexes.finds j lt))
  finds_after j (inr e) =
      subst (λ (i : ℕ). Finds heads point' link' (point' i) i (head_of heads (point' i)) 0) (sym e)
      (subst (λ (y : ℕ). Finds heads point' link' y k (head_of heads y) 0) (sym new)
      (l.back point' link' extends k (found_here stored new)))

  narrow_after : (j : ℕ) → (j < k) ⊎ (j ≡ k) → point' j < 2 ^ n
  narrow_after j (inl lt) = subst (λ (y : ℕ). y < 2 ^ n) (sym (old j lt)) (l.indexes.narrow j lt)
  narrow_after j (inr e) = subst (λ (y : ℕ). y < 2 ^ n) (sym (ap point' e ∙ new)) narrow

  -- one more number, stored at the free link where the look-up of its point ended, makes an index of one more point
  pub indexes_more : Indexes heads n (suc k) point' depth' link'
  indexes_more =
      record {
        stands = stands_after;
        finds = λ j lt. finds_after j (split j lt);
        narrow = λ j lt. narrow_after j
            (split j lt);
      }
