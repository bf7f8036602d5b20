-- Laws of the rows 16 and 17: what their tests say, and which clause a number names. Assumes nothing.
use Rattle.std.specs.Prelude.{Bool, ◌&&◌, ◌≡◌, ℕ, suc, ◌+◌, ◌^◌, ◌≤◌, ◌<◌, eqb, length, get_or, take}
use Rattle.std.proofs.Math.Bool.{true, false, not, cond, true≢false}
use Rattle.std.proofs.lemmas.Bool.{false≢true}
use mathlib.Core.List.Memᴰ
use mathlib.Core.List.{List, [], ◌∷◌}
use Rattle.std.proofs.Math.Option.{Option, some, none}
use Rattle.std.proofs.Math.Path.{refl, ap, ap₂}
use Rattle.std.proofs.Common.{sym, ◌∙◌, subst, le_refl, le_trans, arith, get_or-take, take-take}
use Rattle.std.proofs.Math.Nat.{le_step}
use Rattle.std.proofs.Math.Dec.{leb, ltb}
use borrow.Author.Tests.{leb-true, le-leb, lt-leb, ltb-true, lt-ltb, eqb-true, eqb-false, not-true}
use Rattle.math.specs.Laws.ListLaws.{and_split, and_join, here, has_in, in_has, not-true-false, get_d_in, in_get_d}
use Rattle.math.specs.Lists.{◌∈◌, first_failing, below, has, Distinct}
use Rattle.math.specs.Laws.PartLaws.{distinct_by_index, distinct_earlier, same_failing_below}
use Rattle.points.specs.Points.{Clause, Numbered, satisfies, numbered_from}
use Rattle.formula.specs.Reply.{Fault, fault, fault_at, no_fault}
use Rattle.certificate.specs.Rows.{point_passes, points_fault, clause_numbered, falsifies, number_passes}
use Rattle.certificate.specs.Rows.{numbers_fault}
use Rattle.formula.specs.Laws.ReplyLaws.{tested}

not_of_false : (b : Bool) → b ≡ false → not b ≡ true
not_of_false b e = rw e

-- ---- row 16

pub points_counted : (limit n count : ℕ) (points : List ℕ) → points_fault limit n count points ≡ no_fault
    → (1 ≤ count) × (count ≤ limit)
unfolding points_fault
points_counted limit n count points h =
    let w = and_split (leb 1 count) (leb count limit) (tested (leb 1 count && leb count limit) _ 16 0 h).0 in
    (leb-true 1 count w.0, leb-true count limit w.1)

module _ (limit n count : ℕ) (points : List ℕ) where
  -- a bad count
  pub no_point : count < 1 → fault 16 0 ≡ points_fault limit n count points
  unfolding points_fault
  no_point h = rw (lt-leb 1 count h)

  pub over_limit : limit < count → fault 16 0 ≡ points_fault limit n count points
  unfolding points_fault
  over_limit h = rw (lt-leb count limit h) (by (leb 1 count) _)
    where
      by : (b : Bool) (t : Fault) → fault 16 0 ≡ cond (b && false) t (fault 16 0)
      by true t = refl
      by false t = refl

  -- a good one: the first point that fails
  pub counted : 1 ≤ count → count ≤ limit
      → points_fault limit n count points ≡ fault_at 16 (first_failing (point_passes n points) (below count))
  unfolding points_fault
  counted one few = rw (le-leb 1 count one, le-leb count limit few)

module _ (n : ℕ) (points : List ℕ) (i x : ℕ) (at : x ≡ get_or points i 0) (small : Bool) (test : small ≡ ltb x (2 ^ n))
  where
    -- a point with no bit at n or above passes if it is not among the earlier ones
    pub passes_new : small ≡ true → (repeated : Bool) → repeated ≡ has x (take i points)
        → not repeated ≡ point_passes n points i
    unfolding point_passes
    passes_new inside repeated e =
        ap₂ (λ a b. a && not b) (sym inside ∙ test) e ∙ ap (λ (y : ℕ). ltb y (2 ^ n) && not (has y (take i points))) at

    -- any other fails
    pub fails_bit : small ≡ false → false ≡ point_passes n points i
    unfolding point_passes
    fails_bit out =
        ap (λ a. a && not (has x (take i points))) (sym out ∙ test)
        ∙ ap (λ (y : ℕ). ltb y (2 ^ n) && not (has y (take i points))) at

module _ (n : ℕ) (points : List ℕ) where
  point_passed : (i : ℕ) → point_passes n points i ≡ true
      → (get_or points i 0 < 2 ^ n) × (get_or points i 0 ∈ take i points → ⊥)
  unfolding point_passes
  point_passed i h =
      let w = and_split (ltb (get_or points i 0) (2 ^ n)) (not (has (get_or points i 0) (take i points))) h in (
        ltb-true (get_or points i 0) (2 ^ n) w.0,
        λ m. true≢false (sym (in_has (get_or points i 0) m) ∙ not-true (has (get_or points i 0) (take i points)) w.1),
      )

  -- every point passes exactly if all are below 2 ^ n and no two are equal
  pub points_passed : ((i : ℕ) → i < length points → point_passes n points i ≡ true)
      → ((x : ℕ) → x ∈ points → x < 2 ^ n) × Distinct points
  points_passed h = (
    λ x m. let w = in_get_d 0 m in subst (λ (y : ℕ). y < 2 ^ n) w.2 (point_passed w.0 (h w.0 w.1)).0,
    distinct_by_index 0 points (λ i lt. (point_passed i (h i lt)).1),
  )

  pub points_pass : ((x : ℕ) → x ∈ points → x < 2 ^ n) → Distinct points → (i : ℕ) → i < length points
      → point_passes n points i ≡ true
  unfolding point_passes
  points_pass within d i lt =
      and_join (ltb (get_or points i 0) (2 ^ n)) (not (has (get_or points i 0) (take i points)))
      (lt-ltb (get_or points i 0) (2 ^ n) (within (get_or points i 0) (get_d_in points i 0 lt)))
      (not_of_false (has (get_or points i 0) (take i points))
      (not-true-false (has (get_or points i 0) (take i points))
      (λ e. distinct_earlier 0 d i lt (has_in (get_or points i 0) (take i points) e))))

  -- the test of a point looks at no later one
  pub point_passes-take : (count i : ℕ) → i < count → point_passes n (take count points) i ≡ point_passes n points i
  unfolding point_passes
  point_passes-take count i lt =
      ap₂ (λ (x : ℕ) (l : List ℕ). ltb x (2 ^ n) && not (has x l)) (get_or-take count points i 0 lt)
      (take-take i count points (le_trans (le_step (le_refl i)) lt))

  -- so the row looks at the first `count` points alone
  pub points_fault-take : (limit count : ℕ)
      → points_fault limit n count (take count points) ≡ points_fault limit n count points
  unfolding points_fault
  points_fault-take limit count =
      ap (λ (k : ℕ). cond (leb 1 count && leb count limit) (fault_at 16 k) (fault 16 0))
      (same_failing_below (point_passes n (take count points)) (point_passes n points) count
      (point_passes-take count))

-- ---- the clause of a number

pub clause_found : (cs : List Numbered) (k : ℕ) (c : Clause) → clause_numbered cs k ≡ some c
    → (r : Numbered) × (r ∈ cs) × (r.number ≡ k) × (r.clause ≡ c)
unfolding clause_numbered
clause_found [] k c h = let z : ◌≡◌ {A = ℕ} 0 1 = cc in absurd (omega arith)
clause_found (d ∷ ds) k c h = by (eqb d.number k) refl h (clause_found ds k c)
  where
    by : (b : Bool) → eqb d.number k ≡ b → cond b (some d.clause) (clause_numbered ds k) ≡ some c
        → (clause_numbered ds k ≡ some c → (r : Numbered) × (r ∈ ds) × (r.number ≡ k) × (r.clause ≡ c))
        → (r : Numbered) × (r ∈ (d ∷ ds)) × (r.number ≡ k) × (r.clause ≡ c)
    by true e h ih = (d, here d ds, eqb-true d.number k e, cc)
    by false e h ih = let w = ih h in (w.0, Memᴰ.tail w.1, w.2, w.3)

-- clauses of the same number are the same
abbrev pub OwnNumbers : List Numbered → Type 0
OwnNumbers cs = (r s : Numbered) → r ∈ cs → s ∈ cs → r.number ≡ s.number → r.clause ≡ s.clause

pub clause_of_lem : (cs : List Numbered) → OwnNumbers cs → (r : Numbered) → r ∈ cs
    → clause_numbered cs r.number ≡ some r.clause
unfolding clause_numbered
clause_of_lem [] own r m = absurd (Memᴰ.not-nil m)
clause_of_lem (d ∷ ds) own r m = by (eqb d.number r.number) refl m
    (clause_of_lem ds (λ s t ms mt. own s t (Memᴰ.tail ms) (Memᴰ.tail mt)) r)
  where
    by : (b : Bool) → eqb d.number r.number ≡ b → r ∈ (d ∷ ds)
        → (r ∈ ds → clause_numbered ds r.number ≡ some r.clause)
        → cond b (some d.clause) (clause_numbered ds r.number) ≡ some r.clause
    by true e m ih = ap some (own d r (here d ds) m (eqb-true d.number r.number e))
    by false e (Memᴰ.head p) ih = absurd (eqb-false d.number r.number e
        (ap (λ (s : Numbered). s.number) (sym p)))
    by false e (Memᴰ.tail m) ih = ih m

-- clauses numbered from k on have numbers from k on, one more each
pub numbered-range : (k : ℕ) (cs : List Clause) (r : Numbered) → r ∈ numbered_from k cs
    → (k ≤ r.number) × (r.number < k + length cs)
unfolding numbered_from
numbered-range k [] r m = absurd (Memᴰ.not-nil m)
numbered-range k (c ∷ cs) r (Memᴰ.head e) = let same : r.number
    ≡ k = ap (λ (s : Numbered). s.number) e in (omega arith, omega arith)
numbered-range k (c ∷ cs) r (Memᴰ.tail m) = let w = numbered-range (suc k) cs r m in (omega arith, omega arith)

pub numbered-own : (k : ℕ) (cs : List Clause) → OwnNumbers (numbered_from k cs)
unfolding numbered_from
numbered-own k [] r s mr ms e = absurd (Memᴰ.not-nil mr)
numbered-own k (c ∷ cs) r s (Memᴰ.head p) (Memᴰ.head q) e = ap (λ (t : Numbered). t.clause) (p ∙ sym q)
numbered-own k (c ∷ cs) r s (Memᴰ.head p) (Memᴰ.tail ms) e =
    let w = numbered-range (suc k) cs s ms in
    let at : r.number ≡ k = ap (λ (t : Numbered). t.number) p in
    absurd (omega arith)
numbered-own k (c ∷ cs) r s (Memᴰ.tail mr) (Memᴰ.head q) e =
    let w = numbered-range (suc k) cs r mr in
    let at : s.number ≡ k = ap (λ (t : Numbered). t.number) q in
    absurd (omega arith)
numbered-own k (c ∷ cs) r s (Memᴰ.tail mr) (Memᴰ.tail ms) e = numbered-own (suc k) cs r s mr ms e

-- ---- row 17

module _ (cs : List Numbered) (points falsified : List ℕ) where
  -- a point that passes has the number of a clause, which it falsifies
  pub number_passed : (i : ℕ) → number_passes cs points falsified i ≡ true
      → (c : Clause) × (clause_numbered cs (get_or falsified i 0) ≡ some c) × (satisfies c (get_or points i 0) ≡ false)
  unfolding number_passes
  number_passed i h = by (clause_numbered cs (get_or falsified i 0)) refl h
    where
      by : (o : Option Clause) → clause_numbered cs (get_or falsified i 0) ≡ o → falsifies o (get_or points i 0) ≡ true
          → (c : Clause) × (clause_numbered cs (get_or falsified i 0) ≡ some c) × (satisfies c (get_or points i 0) ≡ false)
      by none e f = absurd (false≢true f)
      by (some c) e f = (c, e, not-true (satisfies c (get_or points i 0)) f)

  pub number_passes_lem : (i : ℕ) (c : Clause) → clause_numbered cs (get_or falsified i 0) ≡ some c
      → satisfies c (get_or points i 0) ≡ false
      → number_passes cs points falsified i ≡ true
  unfolding number_passes
  number_passes_lem i c e f = ap (λ o. falsifies o (get_or points i 0)) e ∙ not_of_false (satisfies c (get_or points i 0)) f

  -- the row looks at the first `count` points and numbers alone
  pub numbers_fault-take : (count : ℕ)
      → numbers_fault cs count (take count points) (take count falsified) ≡ numbers_fault cs count points falsified
  unfolding numbers_fault number_passes
  numbers_fault-take count =
      ap (fault_at 17) (same_failing_below (number_passes cs (take count points) (take count falsified))
      (number_passes cs points falsified) count (λ i lt.
      ap₂ (λ (k x : ℕ). falsifies (clause_numbered cs k) x) (get_or-take count falsified i 0 lt)
      (get_or-take count points i 0 lt)))
