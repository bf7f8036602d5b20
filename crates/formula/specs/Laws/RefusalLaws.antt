-- Laws of the refusals 10, 11, 12 and 19: what is known once each has passed, and what passes. Assumes nothing.
use Rattle.std.specs.Prelude.{Bool, ◌&&◌, List, [], ◌∷◌, ◌≡◌, ℕ, ◌+◌, ◌*◌, ◌^◌, ◌≤◌, ◌<◌, min, leb, length, get_or, drop}
use Rattle.std.proofs.Math.Bool.{true, false, cond, and-true, and_assoc}
use Rattle.std.proofs.Math.Path.{refl}
use Rattle.std.proofs.Common.{sym, ap, ap₂, ◌∙◌, subst, le_refl, le_trans, lt_of_lt_of_le, mul-le-mul, le_of_eq, pow_pos, pow_mono}
use Rattle.std.proofs.Math.Nat.{min-eq_left}
use Rattle.std.specs.Int.Bits.{bit_or}
use Rattle.std.proofs.Math.Dec.{ltb}
use borrow.Author.Tests.{leb-true, le-leb, lt-leb, ltb-true, lt-ltb, eqb-true, eq-eqb}
use Rattle.math.specs.Laws.BitLaws.{below_or}
use Rattle.math.specs.Laws.ListLaws.{and_split, all-at, all_of, map_in, in_get_d}
use Rattle.math.specs.Laws.PartLaws.{none_failing, all_passing}
use Rattle.math.specs.Laws.ScanLaws.{all_next, all_ends}
use Rattle.math.specs.Lists.{◌∈◌, first_failing}
use Rattle.formula.specs.Laws.Contracts.{problem_fault}
use Rattle.points.specs.Points.{point_digits, Numbered, numbered}
use Rattle.point_slices.specs.Laws.SliceLaws.{length-clauses, clause_sets}
use Rattle.point_slices.specs.Slices.{clauses_of, ClauseSlices}
use Rattle.point_theory.specs.Laws.Notions.{ClausesBelow}
use Rattle.permutation_images.specs.Laws.Contracts.{Movable, Listed}
use Rattle.permutation_images.specs.Laws.LoopLaws.{length-permutations, clauses_in-numbered}
use Rattle.permutation_theory.specs.Laws.PermutationLaws.{is_permutation_sound, is_permutation_complete, keeps_sound}
use Rattle.permutation_theory.specs.Laws.PermutationLaws.{keeps_complete, permutation_within}
use Rattle.permutation_theory.specs.Permutations.{Permutation, IsPermutation, is_permutation, Keeps, keeps}
use Rattle.permutation_theory.specs.Permutations.{permutations_in}
use Rattle.formula.specs.declared.Formula.{Formula}
use Rattle.formula.specs.Limits.{max_variables, max_clauses, max_permutations, max_images}
use Rattle.formula.specs.Refusals.{all_below, Fits, fits, formula_fault, permutation_fault, symmetry_fault, room_fault}
use Rattle.formula.specs.Reply.{Fault, no_fault, fault, fault_at}
use Rattle.formula.specs.Laws.ReplyLaws.{IsFault, fault_not-none, fault_at-none, answers-first, answers-rest}
use Rattle.formula.specs.Laws.ReplyLaws.{first_last, tested}

-- ---- the union of numbers, and whether it has a bit at n or above

-- whether all numbers are below 2^n is, at index i, whether `union` is and those from i on are
abbrev pub UnionBelow : ℕ → List ℕ → ℕ → ℕ → Type 0
UnionBelow n xs union i = all_below n xs ≡ ltb union (2 ^ n) && all_below n (drop i xs)

pub union_begins : (n : ℕ) (xs : List ℕ) → UnionBelow n xs 0 0
union_begins n xs = sym (ap (λ b. b && all_below n xs) (lt-ltb 0 (2 ^ n) (pow_pos n)))

pub union_goes_on : (n : ℕ) (xs : List ℕ) (union i : ℕ) → UnionBelow n xs union i → i < length xs
    → (more : ℕ) → more ≡ bit_or union (get_or xs i 0) → UnionBelow n xs more (i + 1)
unfolding all_below
union_goes_on n xs union i was lt more is =
    was ∙ ap (λ b. ltb union (2 ^ n) && b) (all_next (λ (x : ℕ). ltb x (2 ^ n)) xs 0 i lt)
    ∙ sym (and_assoc (ltb union (2 ^ n)) (ltb (get_or xs i 0) (2 ^ n)) (all_below n (drop (i + 1) xs)))
    ∙ ap (λ b. b && all_below n (drop (i + 1) xs)) (sym (ap (λ u. ltb u (2 ^ n)) is ∙ below_or n union (get_or xs i 0)))

pub union_ends : (n : ℕ) (xs : List ℕ) (union i : ℕ) → UnionBelow n xs union i → length xs ≤ i
    → ltb union (2 ^ n) ≡ all_below n xs
unfolding all_below
union_ends n xs union i was ge =
    sym (was ∙ ap (λ b. ltb union (2 ^ n) && b) (all_ends (λ (x : ℕ). ltb x (2 ^ n)) xs 0 i ge)
    ∙ and-true (ltb union (2 ^ n)))

-- ---- 10

pub all_below_sound : (n : ℕ) (xs : List ℕ) → all_below n xs ≡ true → (x : ℕ) → x ∈ xs → x < 2 ^ n
unfolding all_below
all_below_sound n xs h x m = ltb-true x (2 ^ n) (all-at (λ x. ltb x (2 ^ n)) h m)

pub all_below_complete : (n : ℕ) (xs : List ℕ) → ((x : ℕ) → x ∈ xs → x < 2 ^ n) → all_below n xs ≡ true
unfolding all_below
all_below_complete n xs h = all_of (λ x. ltb x (2 ^ n)) xs (λ x m. lt-ltb x (2 ^ n) (h x m))

-- numbers have no bit above their width
pub wide_below : (w : ℕ) {n : ℕ} (xs : List ℕ) → w ≤ n → ((i : ℕ) → get_or xs i 0 < 2 ^ w) → all_below n xs ≡ true
wide_below w {n} xs le narrow =
    all_below_complete n xs (λ x m. let k = in_get_d 0 m in
    lt_of_lt_of_le (subst (λ (y : ℕ). y < 2 ^ w) k.2 (narrow k.0)) (pow_mono le))

module _ (n m : ℕ) (clauses : ClauseSlices) where
  pub fits_sound : fits n m clauses ≡ true → Fits n m clauses
  unfolding fits
  fits_sound h =
      let g = and_split _ _ h in
      let f = and_split _ _ g.0 in
      let e = and_split _ _ f.0 in
      let d = and_split _ _ e.0 in
      let c = and_split _ _ d.0 in
      let b = and_split _ _ c.0 in
      record {
        some-variable = leb-true 1 n b.0;
        few_variables = leb-true n max_variables b.1;
        few_clauses_lem = leb-true m max_clauses c.1;
        positive-length = eqb-true (length clauses.positive) m d.1;
        negative-length = eqb-true (length clauses.negative) m e.1;
        positive-below = all_below_sound n clauses.positive f.1;
        negative-below = all_below_sound n clauses.negative g.1;
      }

  pub fits_complete : Fits n m clauses → fits n m clauses ≡ true
  unfolding fits
  fits_complete f =
      rw (
        le-leb 1 n f.some-variable,
        le-leb n max_variables f.few_variables,
        le-leb m max_clauses f.few_clauses_lem,
        eq-eqb (length clauses.positive) m f.positive-length,
        eq-eqb (length clauses.negative) m f.negative-length,
        all_below_complete n clauses.positive f.positive-below,
        all_below_complete n clauses.negative f.negative-below,
      )

-- slices that refusal 10 lets pass hold m clauses
pub fits_count : (n m : ℕ) (clauses : ClauseSlices) → Fits n m clauses → length (clauses_of clauses) ≡ m
fits_count n m clauses f =
    length-clauses clauses.positive clauses.negative ∙ ap₂ min f.positive-length f.negative-length
    ∙ min-eq_left (le_refl m)

-- clauses that refusal 10 lets pass list none but the variables below n
pub fits_below : (n m : ℕ) (clauses : ClauseSlices) → Fits n m clauses
    → ClausesBelow n (numbered (clauses_of clauses))
fits_below n m clauses f c k =
    let w = clause_sets clauses.positive clauses.negative c.clause (subst (λ l. c.clause ∈ l)
    (clauses_in-numbered 1 (clauses_of clauses)) (map_in (λ (c : Numbered). c.clause) k)) in
    record {
      positive-below = f.positive-below c.clause.positive w.0;
      negative-below = f.negative-below
          c.clause.negative w.1;
    }

-- ---- 11

pub too_many : (n : ℕ) (es : List Permutation) → max_permutations < length es → fault 11 17 ≡ permutation_fault n es
unfolding permutation_fault
too_many n es h = rw (lt-leb (length es) max_permutations h)

pub few_enough : (n : ℕ) (es : List Permutation) → length es ≤ max_permutations
    → permutation_fault n es ≡ fault_at 11 (first_failing (is_permutation n) es)
unfolding permutation_fault
few_enough n es h = rw (le-leb (length es) max_permutations h)

pub permutation_passes : (n : ℕ) (es : List Permutation) → permutation_fault n es ≡ no_fault
    → (length es ≤ max_permutations) × ((e : Permutation) → e ∈ es → IsPermutation n e)
unfolding permutation_fault
permutation_passes n es h = by (leb (length es) max_permutations) refl h
  where
    by : (b : Bool) → leb (length es) max_permutations ≡ b
        → cond b (fault_at 11 (first_failing (is_permutation n) es)) (fault 11 17) ≡ no_fault
        → (length es ≤ max_permutations) × ((e : Permutation) → e ∈ es → IsPermutation n e)
    by true few h = (
      leb-true (length es) max_permutations few,
      λ e m. is_permutation_sound n e (none_failing (is_permutation n) es
          (fault_at-none 11 (first_failing (is_permutation n) es) h) e m),
    )
    by false many h = absurd (fault_not-none 11 17 h)

pub passes_permutation : (n : ℕ) (es : List Permutation) → length es ≤ max_permutations
    → ((e : Permutation) → e ∈ es → IsPermutation n e) → permutation_fault n es ≡ no_fault
unfolding permutation_fault
passes_permutation n es few each =
    rw (le-leb (length es) max_permutations few)
    (ap (fault_at 11) (all_passing (is_permutation n) es (λ e m. is_permutation_complete n e (each e m))))

-- ---- 12

pub symmetry_passes : (cs : List Numbered) (es : List Permutation) → symmetry_fault cs es ≡ no_fault → (e : Permutation)
    → e ∈ es → Keeps e cs
unfolding symmetry_fault
symmetry_passes cs es h e m = keeps_sound cs e (none_failing (keeps cs) es
    (fault_at-none 12 (first_failing (keeps cs) es) h) e m)

pub passes_symmetry : (cs : List Numbered) (es : List Permutation) → ((e : Permutation) → e ∈ es → Keeps e cs)
    → symmetry_fault cs es ≡ no_fault
unfolding symmetry_fault
passes_symmetry cs es each = ap (fault_at 12) (all_passing (keeps cs) es (λ e m. keeps_complete cs e (each e m)))

-- ---- what lets the loops over permutations run: after 10 and 11 the bytes hold them, few and each movable

pub passes_few : (n k : ℕ) (bytes : List ℕ) → permutation_fault n (permutations_in n k bytes) ≡ no_fault
    → k ≤ max_permutations
passes_few n k bytes h = le_trans (le_of_eq (sym (length-permutations n k bytes)))
    (permutation_passes n (permutations_in n k bytes) h).0

-- a point has a digit for each variable
pub digits_suffice : {n : ℕ} → n ≤ max_variables → n ≤ point_digits
unfolding point_digits
digits_suffice few = few

pub passes_listed : (n k : ℕ) (bytes : List ℕ) → n ≤ max_variables → k * n ≤ length bytes
    → permutation_fault n (permutations_in n k bytes) ≡ no_fault → Listed n k bytes
passes_listed n k bytes few room h =
    let p = permutation_passes n (permutations_in n k bytes) h in
    record { room = room; movable = λ e m. movable e (p.1 e m) }
  where
    movable : (e : Permutation) → IsPermutation n e → Movable e.images
    movable e q =
        record {
          size = le_trans (le_of_eq q.size) (digits_suffice few);
          within = λ v m. let w = permutation_within n e q v m in (w.0, le_trans w.1 (digits_suffice few));
        }

-- ---- 10, 11 and 12 in order

module _ (f : Formula) (clauses : ClauseSlices) where
  -- the permutations and the clauses that 11 and 12 look at
  abbrev perms : List Permutation
  perms = permutations_in f.variables f.permutations f.images

  abbrev eleven : Fault
  eleven = permutation_fault f.variables perms

  abbrev twelve : Fault
  twelve = symmetry_fault (numbered (clauses_of clauses)) perms

  pub stops_10 : (r : Fault) → r ≡ formula_fault f clauses → IsFault r → r ≡ problem_fault f clauses
  unfolding problem_fault
  stops_10 r e h = answers-first r (formula_fault f clauses) (eleven ∷ twelve ∷ []) e h

  pub stops_11 : (r : Fault) → formula_fault f clauses ≡ no_fault → r ≡ eleven → IsFault r
      → r ≡ problem_fault f clauses
  unfolding problem_fault
  stops_11 r ten e h = answers-rest r (formula_fault f clauses) (eleven ∷ twelve ∷ []) ten
      (answers-first r eleven (twelve ∷ []) e h)

  pub ends_12 : formula_fault f clauses ≡ no_fault → eleven ≡ no_fault
      → twelve ≡ problem_fault f clauses
  unfolding problem_fault
  ends_12 ten el =
      answers-rest twelve (formula_fault f clauses) (eleven ∷ twelve ∷ []) ten
      (answers-rest twelve eleven (twelve ∷ []) el (sym (first_last twelve)))

  -- what is known once 10 has passed
  pub formula_passes : formula_fault f clauses ≡ no_fault
      → Fits f.variables f.clauses clauses × (f.target < 2 ^ f.variables)
  unfolding formula_fault
  formula_passes h = by (fits f.variables f.clauses clauses && ltb f.target (2 ^ f.variables)) refl
      h
    where
      by : (b : Bool) → fits f.variables f.clauses clauses && ltb f.target (2 ^ f.variables) ≡ b
          → cond b no_fault (fault 10 0) ≡ no_fault
          → Fits f.variables f.clauses clauses × (f.target < 2 ^ f.variables)
      by true e h =
          let both = and_split (fits f.variables f.clauses clauses) (ltb f.target (2 ^ f.variables))
          e in (
            fits_sound f.variables f.clauses clauses both.0,
            ltb-true f.target (2 ^ f.variables)
                both.1,
          )
      by false e h = absurd (fault_not-none 10 0 h)

  -- the images of the most permutations of the most variables
  pub images_room : f.variables ≤ max_variables → length f.images ≡ max_images → f.permutations ≤ max_permutations
      → f.permutations * f.variables ≤ length f.images
  images_room few size h = le_trans (mul-le-mul h few) (le_of_eq (sym size))

  pub formula_listed : formula_fault f clauses ≡ no_fault → eleven ≡ no_fault → length f.images ≡ max_images
      → Listed f.variables f.permutations f.images
  formula_listed ten el size =
      let few = (formula_passes ten).0.few_variables in
      passes_listed f.variables f.permutations f.images few
      (images_room few size (passes_few f.variables f.permutations f.images el)) el

-- ---- row 19

pub too_short : (needed lent : ℕ) → lent < needed → room_fault needed lent ≡ fault 19 needed
unfolding room_fault
too_short needed lent h = rw (lt-leb needed lent h)

pub long_enough : (needed lent : ℕ) → needed ≤ lent → room_fault needed lent ≡ no_fault
unfolding room_fault
long_enough needed lent h = rw (le-leb needed lent h)

pub room_passes : (needed lent : ℕ) → room_fault needed lent ≡ no_fault → needed ≤ lent
unfolding room_fault
room_passes needed lent h = leb-true needed lent (tested (leb needed lent) no_fault 19 needed h).0
