-- Laws of the loops over a permutation and over several: the permutation test with a set of what was seen, the image
-- from the last variable down, where the i-th permutation lies, and a test of each in order. Assumes nothing.
use Rattle.std.specs.Prelude.{Bool, true, false, not, ◌&&◌, ◌≡◌, refl, ℕ, zero, suc, ◌+◌, ◌-◌, ◌*◌, ◌/◌, ◌%◌, ◌^◌, ◌≤◌, ◌<◌, leb, length, get_or, take, drop}
use Rattle.std.proofs.Math.Bool.{xor}
use Rattle.std.proofs.Common.{true≢false, sym, ap₂, ◌∙◌, subst, pow-suc, zero-mul, suc-mul, add_comm, mul-le-mul_right, le_trans, le_of_eq, lt_of_lt_of_le, le_of_suc-le-suc, not-suc-le-zero, add-one, arith, drop-cons, drop-drop, take-add, eq-eqb, leb-true, le-leb}
use mathlib.Core.List.Memᴰ
use mathlib.Core.List.{List, [], ◌∷◌, ◌++◌, flat_map}
use Rattle.std.proofs.Math.Path.{ap}
use Rattle.std.proofs.Math.Nat.{div-div-eq-div-mul}
use Rattle.std.specs.Int.Bits.{bit_or}
use Rattle.std.proofs.lemmas.Bool.{not-true, not-false}
use Rattle.math.specs.Laws.BitLaws.{bit_of_zero, bit-flip}
use Rattle.math.specs.Bits.{bit, flip}
use Rattle.math.specs.Laws.ListLaws.{here, get_d_in, and_split, and_join, same_tests}
use Rattle.math.specs.Lists.{◌∈◌, all, first_failing, Distinct, distinct_nil, distinct_cons}
use Rattle.math.specs.Laws.ScanLaws.{on_from, failing_begins, failing_ends, failing_stops, failing_goes_on}
use Rattle.math.specs.Laws.SetLaws.{bit_other}
use Rattle.points.specs.Points.{Clause, numbered_from, numbered, point_digits}
use Rattle.permutation_images.specs.Laws.Contracts.{fresh, Movable, Listed}
use Rattle.permutation_theory.specs.Laws.PermutationLaws.{is_permutation_sound, is_permutation_complete}
use Rattle.permutation_theory.specs.Laws.PermutationLaws.{permutation_within, permutation_distinct, permutation_of}
use Rattle.permutation_theory.specs.Permutations.{Permutation, is_permutation, moved, clauses_in, image_among, keeps}
use Rattle.permutation_theory.specs.Permutations.{permutations_in}

-- ---- the permutation test

-- each number of the list is new when it comes
unfoldable pub arranged : ℕ → ℕ → List ℕ → Bool
unfolding fresh
arranged n seen [] = true
arranged n seen (v ∷ vs) = fresh n seen v && arranged n (flip seen (v - 1)) vs

record Arranged (n seen : ℕ) (vs : List ℕ) : Type 0 where
  within : (v : ℕ) → v ∈ vs → (1 ≤ v) × (v ≤ n)
  distinct : Distinct vs
  new : (v : ℕ) → v ∈ vs → bit seen (v - 1) ≡ false

pub fresh_says : (n seen v : ℕ) → fresh n seen v ≡ true → (1 ≤ v) × (v ≤ n) × (bit seen (v - 1) ≡ false)
unfolding fresh
fresh_says n seen v h =
    let outer = and_split (leb 1 v && leb v n) (not (bit seen (v - 1))) h in
    let inner = and_split (leb 1 v) (leb v n) outer.0 in
    (leb-true 1 v inner.0, leb-true v n inner.1, not-true (bit seen (v - 1)) outer.1)

fresh_of : (n seen v : ℕ) → 1 ≤ v → v ≤ n → bit seen (v - 1) ≡ false → fresh n seen v ≡ true
unfolding fresh
fresh_of n seen v lo hi new =
    and_join (leb 1 v && leb v n) (not (bit seen (v - 1)))
    (and_join (leb 1 v) (leb v n) (le-leb 1 v lo) (le-leb v n hi)) (ap not new)

-- a digit that was 0 is 1 after the flip
now_seen : (seen u : ℕ) → bit seen u ≡ false → bit (flip seen u) u ≡ true
unfolding xor
now_seen seen u e = bit-flip seen u u ∙ ap₂ xor e (eq-eqb u u refl)

apart : (u v : ℕ) → 1 ≤ u → 1 ≤ v → (u ≡ v → ⊥) → u - 1 ≡ v - 1 → ⊥
apart u v hu hv ne e = ne (let p : u ≡ v = omega arith in p)

arranged_sound : (n : ℕ) (vs : List ℕ) (seen : ℕ) → arranged n seen vs ≡ true → Arranged n seen vs
unfolding arranged
arranged_sound n [] seen h = record {
  within = λ v m. absurd (Memᴰ.not-nil m);
  distinct = distinct_nil;
  new =
      λ v m. absurd (Memᴰ.not-nil m);
}
arranged_sound n (v ∷ vs) seen h =
    let both = and_split (fresh n seen v) (arranged n (flip seen (v - 1)) vs) h in
    join (fresh_says n seen v both.0) (arranged_sound n vs (flip seen (v - 1)) both.1)
  where
    join : (1 ≤ v) × (v ≤ n) × (bit seen (v - 1) ≡ false) → Arranged n (flip seen (v - 1)) vs → Arranged n seen (v ∷ vs)
    join f a =
        record {
          within = within;
          distinct = distinct_cons (λ m. other v m refl) a.distinct;
          new = new;
        }
      where
        other : (u : ℕ) → u ∈ vs → u ≡ v → ⊥
        other u m e = true≢false (sym (now_seen seen (v - 1) f.2) ∙ ap (λ w. bit (flip seen (v - 1)) (w - 1)) (sym e)
            ∙ a.new u m)

        within : (u : ℕ) → u ∈ (v ∷ vs) → (1 ≤ u) × (u ≤ n)
        within u (Memᴰ.head e) = subst (λ w. (1 ≤ w) × (w ≤ n)) (sym e) (f.0, f.1)
        within u (Memᴰ.tail m) = a.within u m

        new : (u : ℕ) → u ∈ (v ∷ vs) → bit seen (u - 1) ≡ false
        new u (Memᴰ.head e) = ap (λ w. bit seen (w - 1)) e ∙ f.2
        new u (Memᴰ.tail m) = sym (bit_other seen (v - 1) (u - 1)
            (apart u v (a.within u m).0 f.0 (other u m))) ∙ a.new u m

arranged_complete : (n : ℕ) (vs : List ℕ) (seen : ℕ) → Arranged n seen vs → arranged n seen vs ≡ true
unfolding arranged
arranged_complete n [] seen a = refl
arranged_complete n (v ∷ vs) seen a =
    and_join (fresh n seen v) (arranged n (flip seen (v - 1)) vs)
    (fresh_of n seen v (a.within v (here v vs)).0 (a.within v (here v vs)).1 (a.new v (here v vs)))
    (arranged_complete n vs (flip seen (v - 1)) (rest a.distinct))
  where
    rest : Distinct (v ∷ vs) → Arranged n (flip seen (v - 1)) vs
    rest (distinct_cons out d) =
        record {
          within = λ u m. a.within u (Memᴰ.tail m);
          distinct = d;
          new = λ u m.
              bit_other seen (v - 1) (u - 1) (apart u v (a.within u (Memᴰ.tail m)).0 (a.within v (here v vs)).0
              (λ e. out (subst (λ w. w ∈ vs) e m)))
              ∙ a.new u (Memᴰ.tail m);
        }

pub arranged_test : (n : ℕ) (e : Permutation) → length e.images ≡ n → arranged n 0 e.images ≡ is_permutation n e
arranged_test n e size =
    same_tests (arranged n 0 e.images) (is_permutation n e)
    (λ h. let a = arranged_sound n e.images 0 h in is_permutation_complete n e
    (permutation_of n e size a.within a.distinct))
    (λ h. let p = is_permutation_sound n e h in
    arranged_complete n e.images 0 (record {
      within = permutation_within n e p;
      distinct = permutation_distinct n e
          p;
      new = λ v m. bit_of_zero (v - 1);
    }))

module _ (n : ℕ) (es : List ℕ) (seen i : ℕ) (h : i < length es) where
  next : drop i es ≡ get_or es i 0 ∷ drop (i + 1) es
  next = drop-cons es i 0 h ∙ ap (λ j. get_or es i 0 ∷ drop j es) (sym (add-one i))

  pub arranged_stops : fresh n seen (get_or es i 0) ≡ false → arranged n seen (drop i es) ≡ false
  unfolding arranged
  arranged_stops e = ap (arranged n seen) next ∙ ap (λ b. b
      && arranged n (flip seen (get_or es i 0 - 1)) (drop (i + 1) es)) e

  pub arranged_goes_on : fresh n seen (get_or es i 0) ≡ true
      → arranged n seen (drop i es) ≡ arranged n (flip seen (get_or es i 0 - 1)) (drop (i + 1) es)
  unfolding arranged
  arranged_goes_on e = ap (arranged n seen) next ∙ ap (λ b. b
      && arranged n (flip seen (get_or es i 0 - 1)) (drop (i + 1) es)) e

  -- ---- the image, from the last variable down
  pub moved_step : (s : ℕ) → moved (drop i es) (s / 2 ^ i)
      ≡ bit_or (s / 2 ^ i % 2 * 2 ^ (get_or es i 0 - 1)) (moved (drop (i + 1) es) (s / 2 ^ (i + 1)))
  unfolding moved
  moved_step s =
      ap (λ l. moved l (s / 2 ^ i)) next
      ∙ ap (λ t. bit_or (s / 2 ^ i % 2 * 2 ^ (get_or es i 0 - 1)) (moved (drop (i + 1) es) t))
      (div-div-eq-div-mul s (2 ^ i) 2 ∙ ap (λ d. s / d) (sym (pow-suc 2 i) ∙ ap (λ k. 2 ^ k) (sym (add-one i))))

-- ---- where the i-th permutation lies

pub length-permutations : (n k : ℕ) (bytes : List ℕ) → length (permutations_in n k bytes) ≡ k
unfolding permutations_in
length-permutations n zero bytes = refl
length-permutations n (suc k) bytes = ap suc (length-permutations n k (drop n bytes))

pub permutation_at : (n k i : ℕ) (bytes : List ℕ) (d : Permutation) → i < k
    → get_or (permutations_in n k bytes) i d ≡ record { images = take n (drop (i * n) bytes) }
unfolding permutations_in
permutation_at n zero i bytes d h = absurd (not-suc-le-zero h)
permutation_at n (suc k) zero bytes d h =
    ap (λ l. let e : Permutation = record { images = take n l } in e) (ap (λ j. drop j bytes) (sym (zero-mul n)))
permutation_at n (suc k) (suc i) bytes d h =
    permutation_at n k i (drop n bytes) d (le_of_suc-le-suc h)
    ∙ ap (λ l. let e : Permutation = record { images = take n l } in e)
    (drop-drop (i * n) n bytes ∙ ap (λ j. drop j bytes) (add_comm n (i * n) ∙ sym (suc-mul i n)))

-- permutations that stand without gaps, put out one by one, are the bytes in which they stood
pub flat_map_permutations : (n k : ℕ) (bytes : List ℕ)
    → flat_map (λ (e : Permutation). e.images) (permutations_in n k bytes) ≡ take (k * n) bytes
unfolding flat_map permutations_in
flat_map_permutations n zero bytes = ap (λ (j : ℕ). take j bytes) (sym (zero-mul n))
flat_map_permutations n (suc k) bytes =
    ap (λ l. take n bytes ++ l) (flat_map_permutations n k (drop n bytes)) ∙ sym (take-add n (k * n) bytes)
    ∙ ap (λ (j : ℕ). take j bytes) (add_comm n (k * n) ∙ sym (suc-mul k n))

-- the i-th of k parts of n ends within k * n
pub part_ends : (i k n : ℕ) → i < k → i * n + n ≤ k * n
part_ends i k n h = subst (λ m. m ≤ k * n) (suc-mul i n) (mul-le-mul_right n h)

-- ---- the clauses without their numbers

pub clauses_in-numbered : (k : ℕ) (cs : List Clause) → clauses_in (numbered_from k cs) ≡ cs
unfolding numbered_from
clauses_in-numbered k [] = refl
clauses_in-numbered k (c ∷ cs) = ap (λ l. c ∷ l) (clauses_in-numbered (suc k) cs)

pub keeps-numbered : (cs : List Clause) (e : Permutation) → keeps (numbered cs) e ≡ all (image_among cs e) cs
unfolding keeps
keeps-numbered cs e = ap (λ l. all (image_among l e) l) (clauses_in-numbered 1 cs)

-- ---- the i-th of the listed permutations

-- each number is that of a digit of a point
pub movable_at : {es : List ℕ} → Movable es → (i : ℕ) → i < length es
    → (1 ≤ get_or es i 0) × (get_or es i 0 ≤ point_digits)
movable_at {es} m i lt = m.within _ (get_d_in es i 0 lt)

-- what stands past the last: no matter, since nothing looks there
abbrev pub no_permutation : Permutation
no_permutation = record { images = [] }

module _ (n k i : ℕ) (bytes : List ℕ) (l : Listed n k bytes) (h : i < k) where
  pub listed_room : i * n + n ≤ length bytes
  listed_room = le_trans (part_ends i k n h) l.room

  pub listed_movable : Movable (take n (drop (i * n) bytes))
  listed_movable =
      l.movable (record { images = take n (drop (i * n) bytes) })
      (subst (λ e. e ∈ permutations_in n k bytes) (permutation_at n k i bytes no_permutation h)
      (get_d_in (permutations_in n k bytes) i no_permutation (subst (λ m. i < m) (sym (length-permutations n k bytes)) h)))

-- ---- a test of each of the listed permutations, in order

-- the loop that looks for the first of k permutations that fails a test: it is the first from i on that fails
pub record Testing (t : Permutation → Bool) (n k : ℕ) (bytes : List ℕ) (i : ℕ) : Type 0 where
  pub fits : k * n ≤ length bytes
  pub first : first_failing t (permutations_in n k bytes) ≡ on_from i (first_failing t (drop i (permutations_in n k bytes)))

module _ {t : Permutation → Bool} {n k : ℕ} {bytes : List ℕ} where
  -- before the first turn all are still to be tested
  pub testing_begins : k * n ≤ length bytes → Testing t n k bytes 0
  testing_begins r = record { fits = r; first = failing_begins t (permutations_in n k bytes) no_permutation }

  -- in a turn permutation i lies in the bytes whole
  pub testing_whole : {i : ℕ} → Testing t n k bytes i → i < k → i * n + n ≤ length bytes
  testing_whole {i} s more = le_trans (part_ends i k n more) s.fits

  -- in a turn i is an index of the permutations
  inside : {i : ℕ} → Testing t n k bytes i → i < k → i < length (permutations_in n k bytes)
  inside s more = lt_of_lt_of_le more (le_of_eq (sym (length-permutations n k bytes)))

  -- and what the test says of the bytes there it says of permutation i
  tested : {i : ℕ} {es : List ℕ} {fine : Bool} → Testing t n k bytes i → i < k → es ≡ take n (drop (i * n) bytes)
      → fine ≡ t (record { images = es }) → t (get_or (permutations_in n k bytes) i no_permutation) ≡ fine
  tested {i} s more e f =
      ap t (permutation_at n k i bytes no_permutation more) ∙ ap (λ l. t (record { images = l })) (sym e) ∙ sym f

  -- a turn whose permutation fails has the answer
  pub testing_stops : {i : ℕ} {es : List ℕ} {fine : Bool} → Testing t n k bytes i → i < k
      → es ≡ take n (drop (i * n) bytes) → fine ≡ t (record { images = es }) → not fine ≡ true
      → i + 1 ≡ first_failing t (permutations_in n k bytes)
  testing_stops {i} s more e f bad =
      sym (s.first ∙ failing_stops t _ no_permutation i (inside s more) (tested s more e f ∙ not-true _ bad))

  -- a turn whose permutation passes goes on
  pub testing_goes_on : {i : ℕ} {es : List ℕ} {fine : Bool} → Testing t n k bytes i → i < k
      → es ≡ take n (drop (i * n) bytes) → fine ≡ t (record { images = es }) → not fine ≡ false
      → Testing t n k bytes (i + 1)
  testing_goes_on {i} s more e f good =
      record {
        fits = s.fits;
        first = s.first ∙ failing_goes_on t _ no_permutation i (inside s more) (tested s more e f ∙ not-false _ good);
      }

  -- after the last turn none fails
  pub testing_ends : {i : ℕ} → Testing t n k bytes i → k ≤ i → 0 ≡ first_failing t (permutations_in n k bytes)
  testing_ends {i} s all =
      sym (s.first ∙ failing_ends t _ no_permutation i (le_trans (le_of_eq (length-permutations n k bytes)) all))
