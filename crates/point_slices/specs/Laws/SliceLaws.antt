-- Laws of points and clauses in lent slices, and of scanning clauses for the first falsified one. Those of the first
-- part alone know how many words a point has. Assumes nothing.
use Rattle.std.specs.Prelude.{Bool, true, false, cond, ◌&&◌, List, [], ◌∷◌, ◌⊎◌, ◌≡◌, refl, ℕ, zero, suc, ◌+◌, ◌≤◌, ◌<◌, min, length, get_or, take, drop, replicate}
use mathlib.Core.List.Memᴰ
use Rattle.std.proofs.Common.{inl, inr, sym, ◌∙◌, zero-le, le_trans, le_of_eq, le_of_suc-le-suc, not-suc-le-zero, add_assoc, arith, add-one, drop_of_length-le, drop-cons}
use Rattle.std.proofs.Math.Option.{some}
use Rattle.std.proofs.Math.Path.{ap}
use Rattle.std.proofs.Math.Nat.{zero-min, min-zero, suc-min-suc, min-le_left, min-le_right}
use Rattle.std.proofs.Math.ListN.{get_or-eq_default}
use Rattle.math.specs.Laws.ListLaws.{and_split}
use Rattle.math.specs.Lists.{◌∈◌}
use Rattle.points.specs.Points.{Clause, satisfies, numbered_from, first_falsified, number_of, empty_clause}
use Rattle.point_slices.specs.Slices.{points_of, rest_of, ClauseSlices, clause_slices, whole_clauses, first_clauses}
use Rattle.point_slices.specs.Slices.{SlotSlices, slot_slices}
use Rattle.point_slices.specs.Slices.{beside}

-- ---- words

-- the points of a local array that is 0 throughout
pub points_blank : (k : ℕ) → points_of (replicate k 0) ≡ replicate k 0
unfolding points_of
points_blank k = refl

pub rest-blank : (k : ℕ) → rest_of (replicate k 0) ≡ []
unfolding rest_of
rest-blank k = refl

-- a slice has no more points than words
pub points_le : (s : List ℕ) → length (points_of s) ≤ length s
unfolding points_of
points_le s = le_of_eq refl

-- G.a: "all memory lent": the points and the words behind them are all that a slice holds
pub points_whole : (s t : List ℕ) → points_of s ≡ points_of t → rest_of s ≡ rest_of t → s ≡ t
unfolding points_of
points_whole s t p r = p

-- so equal records are equal slices: an equation of records fixes each slice, to its last word
pub clauses-whole : {p q p' q' : List ℕ} → clause_slices p q ≡ clause_slices p' q' → (p ≡ p') × (q ≡ q')
clauses-whole {p} {q} {p'} {q'} e = (
  points_whole p p' (ap (λ (s : ClauseSlices). s.positive) e) (ap (λ (s : ClauseSlices). s.positive_rest) e),
  points_whole q q' (ap (λ (s : ClauseSlices). s.negative) e) (ap (λ (s : ClauseSlices). s.negative_rest) e),
)

pub slots-whole : {p f d p' f' d' : List ℕ} → slot_slices p f d ≡ slot_slices p' f' d'
    → (p ≡ p') × (f ≡ f') × (d ≡ d')
slots-whole {p} {f} {d} {p'} {f'} {d'} e = (
  points_whole p p' (ap (λ (s : SlotSlices). s.points) e) (ap (λ (s : SlotSlices). s.points_rest) e),
  ap (λ (s : SlotSlices). s.falsified) e,
  ap (λ (s : SlotSlices). s.depths) e,
)

-- slices of one length hold equally many points
pub same_count : (s t : List ℕ) → length s ≡ length t → length (points_of s) ≡ length (points_of t)
unfolding points_of
same_count s t e = e

-- the first k clauses, of slices that were handed on in part
pub first_clauses_lem : (k : ℕ) (p q p' q' : List ℕ) → (points_of p' ≡ take k (points_of p)) × (rest_of p' ≡ [])
    → (points_of q' ≡ take k (points_of q)) × (rest_of q' ≡ [])
    → clause_slices p' q' ≡ first_clauses k (clause_slices p q)
first_clauses_lem k p q p' q' a b = λ i. record {
  positive = a.0 i;
  negative = b.0 i;
  positive_rest = a.1 i;
  negative_rest = b.1 i;
}

-- local arrays for k clauses, 0 throughout
pub clauses-blank : (k : ℕ)
    → clause_slices (replicate k 0) (replicate k 0) ≡ whole_clauses (replicate k 0) (replicate k 0)
clauses-blank k = λ i. record {
  positive = points_blank k i;
  negative = points_blank k i;
  positive_rest = rest-blank k i;
  negative_rest = rest-blank k i;
}

-- one word is one point, for the functions that copy points out of structs and back
pub one_word : (s : List ℕ) → points_of s ≡ s
unfolding points_of
one_word s = refl

pub no_rest : (s : List ℕ) → rest_of s ≡ []
unfolding rest_of
no_rest s = refl

-- ---- clauses side by side

pub length-clauses : (ps ns : List ℕ) → length (beside ps ns) ≡ min (length ps) (length ns)
unfolding beside
length-clauses [] ns = sym (zero-min (length ns))
length-clauses (p ∷ ps) [] = sym (min-zero (suc (length ps)))
length-clauses (p ∷ ps) (n ∷ ns) = ap suc (length-clauses ps ns) ∙ sym (suc-min-suc (length ps) (length ns))

pub clauses-le : (ps ns : List ℕ) → length (beside ps ns) ≤ length ps
clauses-le ps ns = le_trans (le_of_eq (length-clauses ps ns)) (min-le_left (length ps) (length ns))

-- a clause stands in both slices
pub clause_inside : (ps ns : List ℕ) (i : ℕ) → i < length (beside ps ns) → (i < length ps) × (i < length ns)
clause_inside ps ns i h =
    let both : i < min (length ps) (length ns) = le_trans h (le_of_eq (length-clauses ps ns)) in
    (le_trans both (min-le_left (length ps) (length ns)), le_trans both (min-le_right (length ps) (length ns)))

pub clause-at : (ps ns : List ℕ) (i : ℕ) → i < length ps → i < length ns
    → get_or (beside ps ns) i empty_clause ≡ record { positive = get_or ps i 0; negative = get_or ns i 0 }
unfolding beside
clause-at [] ns i hp hn = absurd (not-suc-le-zero hp)
clause-at (p ∷ ps) [] i hp hn = absurd (not-suc-le-zero hn)
clause-at (p ∷ ps) (n ∷ ns) zero hp hn = refl
clause-at (p ∷ ps) (n ∷ ns) (suc i) hp hn = clause-at ps ns i (le_of_suc-le-suc hp) (le_of_suc-le-suc hn)

pub clause_past : (ps ns : List ℕ) (i : ℕ) → (length ps ≤ i) ⊎ (length ns ≤ i)
    → empty_clause ≡ get_or (beside ps ns) i empty_clause
clause_past ps ns i h = sym (get_or-eq_default (beside ps ns) empty_clause (past h))
  where
    past : (length ps ≤ i) ⊎ (length ns ≤ i) → length (beside ps ns) ≤ i
    past (inl h) = le_trans (clauses-le ps ns) h
    past (inr h) = le_trans (le_of_eq (length-clauses ps ns)) (le_trans (min-le_right (length ps) (length ns)) h)

-- the two sets of a clause stand in the two slices
pub clause_sets : (ps ns : List ℕ) (c : Clause) → c ∈ beside ps ns → (c.positive ∈ ps) × (c.negative ∈ ns)
unfolding beside
clause_sets [] ns c m = absurd (Memᴰ.not-nil m)
clause_sets (p ∷ ps) [] c m = absurd (Memᴰ.not-nil m)
clause_sets (p ∷ ps) (n ∷ ns) c (Memᴰ.head e) = (
  Memᴰ.head (ap (λ (c : Clause). c.positive) e),
  Memᴰ.head (ap (λ (c : Clause). c.negative) e),
)
clause_sets (p ∷ ps) (n ∷ ns) c (Memᴰ.tail m) = let w = clause_sets ps ns c m in
    (Memᴰ.tail w.0, Memᴰ.tail w.1)

-- the number of the first clause that the point falsifies, of those from index i on
unfoldable pub falsified_from : List Clause → ℕ → ℕ → ℕ
unfolding numbered_from first_falsified number_of
falsified_from cs x i = number_of (first_falsified (numbered_from (suc i) (drop i cs)) x)

module _ (cs : List Clause) (x : ℕ) where
  next : (i : ℕ) → i < length cs → drop i cs ≡ get_or cs i empty_clause ∷ drop (i + 1) cs
  next i h = drop-cons cs i empty_clause h ∙ ap (λ j. get_or cs i empty_clause ∷ drop j cs) (sym (add-one i))

  pub falsified_ends : (i : ℕ) → length cs ≤ i → falsified_from cs x i ≡ 0
  unfolding falsified_from
  falsified_ends i h = ap (λ l. number_of (first_falsified (numbered_from (suc i) l) x)) (drop_of_length-le cs h)

  pub falsified_stops : (i : ℕ) → i < length cs → satisfies (get_or cs i empty_clause) x ≡ false
      → falsified_from cs x i ≡ i + 1
  unfolding falsified_from
  falsified_stops i h e = ap (λ l. number_of (first_falsified (numbered_from (suc i) l) x)) (next i h)
      ∙ rw e (sym (add-one i))

  pub falsified_goes_on : (i : ℕ) → i < length cs → satisfies (get_or cs i empty_clause) x ≡ true
      → falsified_from cs x i ≡ falsified_from cs x (i + 1)
  unfolding falsified_from
  falsified_goes_on i h e =
      ap (λ l. number_of (first_falsified (numbered_from (suc i) l) x)) (next i h)
      ∙ rw e (ap (λ k. number_of (first_falsified (numbered_from (suc k) (drop (i + 1) cs)) x)) (sym (add-one i)))

  -- four clauses that the point satisfies, by tests of each
  pub falsified_four : (i : ℕ) {a b c d : Bool} → i + 4 ≤ length cs → a ≡ satisfies (get_or cs i empty_clause) x
      → b ≡ satisfies (get_or cs (i + 1) empty_clause) x → c ≡ satisfies (get_or cs (i + 2) empty_clause) x
      → d ≡ satisfies (get_or cs (i + 3) empty_clause) x → (a && b) && (c && d) ≡ true
      → falsified_from cs x i ≡ falsified_from cs x (i + 4)
  falsified_four i {a} {b} {c} {d} room ta tb tc td all =
      let halves = and_split (a && b) (c && d) all in
      let low = and_split a b halves.0 in
      let high = and_split c d halves.1 in
      falsified_goes_on i (omega arith) (sym ta ∙ low.0) ∙ falsified_goes_on (i + 1) (omega arith) (sym tb ∙ low.1)
      ∙ ap (falsified_from cs x) (add_assoc i 1 1)
      ∙ falsified_goes_on (i + 2) (omega arith) (sym tc ∙ high.0) ∙ ap (falsified_from cs x) (add_assoc i 2 1)
      ∙ falsified_goes_on (i + 3) (omega arith) (sym td ∙ high.1) ∙ ap (falsified_from cs x) (add_assoc i 3 1)

-- the number is 0, or that of a clause of the list
pub falsified_le : (cs : List Clause) (x k : ℕ) → number_of (first_falsified (numbered_from (suc k) cs) x) ≤ k + length cs
unfolding numbered_from first_falsified number_of
falsified_le [] x k = zero-le
falsified_le (c ∷ cs) x k = by (satisfies c x) (falsified_le cs x (suc k))
  where
    by : (b : Bool) → number_of (first_falsified (numbered_from (suc (suc k)) cs) x) ≤ suc k + length cs
        → number_of (cond b (first_falsified (numbered_from (suc (suc k)) cs) x)
        (some (record { number = suc k; clause = c }))) ≤ k + suc (length cs)
    by true ih = omega arith
    by false ih = omega arith
