-- Laws of permutations: what the computed tests say, and that n numbers of 1 to n without repetition are each of them
-- once. Assumes nothing.
use Rattle.std.specs.Prelude.{true, List, ◌≡◌, refl, ℕ, ◌≤◌, eqb, length}
use Rattle.std.proofs.Common.{⊎_elim, sym, ap, ap₂, ◌∙◌, subst, le_antisymm, le_of_eq, arith, eqb-true, eq-eqb}
use Rattle.math.specs.Laws.ListLaws.{and_split, and_join, or_split, or_left, or_right, any_found, any_of, all-at}
use Rattle.math.specs.Laws.ListLaws.{all_of, has_in, in_has, dec_in, count_found, count_pos, count_distinct}
use Rattle.math.specs.Laws.ListLaws.{distinct_count, distinct_onto, distinct_range, length-range, range_in, range_out}
use Rattle.math.specs.Lists.{◌∈◌, any, all, count, Distinct, range, has}
use Rattle.points.specs.Points.{Clause, Numbered}
use Rattle.permutation_theory.specs.Permutations.{Permutation, IsPermutation, is_permutation, image_of_point}
use Rattle.permutation_theory.specs.Permutations.{image_of_clause, clauses_in, Keeps, image_among, keeps, same_clause}
use Rattle.permutation_theory.specs.Permutations.{Covered, itself, by_image, image_in, covered}

-- ---- the computed tests and the sentences agree

pub is_permutation_sound : (n : ℕ) (e : Permutation) → is_permutation n e ≡ true → IsPermutation n e
unfolding is_permutation
is_permutation_sound n e h =
    let both = and_split (eqb (length e.images) n) (all (λ v. eqb (count (eqb v) e.images) 1) (range 1 n)) h in
    record {
      size = eqb-true (length e.images) n both.0;
      once = λ v lo hi. eqb-true (count (eqb v) e.images) 1
          (all-at (λ v. eqb (count (eqb v) e.images) 1) both.1 (range_in 1 n v lo (omega arith)));
    }

pub is_permutation_complete : (n : ℕ) (e : Permutation) → IsPermutation n e → is_permutation n e ≡ true
unfolding is_permutation
is_permutation_complete n e p =
    and_join (eqb (length e.images) n) (all (λ v. eqb (count (eqb v) e.images) 1) (range 1 n))
    (eq-eqb (length e.images) n p.size)
    (all_of (λ v. eqb (count (eqb v) e.images) 1) (range 1 n)
    (λ v m. let w = range_out 1 n v m in eq-eqb (count (eqb v) e.images) 1 (p.once v w.0 (omega arith))))

pub same_clause_sound : (c d : Clause) → same_clause c d ≡ true → c ≡ d
unfolding same_clause
same_clause_sound c d h =
    let both = and_split (eqb c.positive d.positive) (eqb c.negative d.negative) h in
    ap₂ (λ p n. let k : Clause = record { positive = p; negative = n } in k)
    (eqb-true c.positive d.positive both.0) (eqb-true c.negative d.negative both.1)

pub same_clause_complete : (c d : Clause) → c ≡ d → same_clause c d ≡ true
unfolding same_clause
same_clause_complete c d e =
    and_join (eqb c.positive d.positive) (eqb c.negative d.negative)
    (eq-eqb c.positive d.positive (ap (λ (c : Clause). c.positive) e))
    (eq-eqb c.negative d.negative (ap (λ (c : Clause). c.negative) e))

pub keeps_sound : (cs : List Numbered) (e : Permutation) → keeps cs e ≡ true → Keeps e cs
unfolding keeps
keeps_sound cs e h c m =
    let w = any_found (same_clause (image_of_clause e c)) (clauses_in cs) (all-at (image_among (clauses_in cs) e) h m) in
    subst (λ d. d ∈ clauses_in cs) (sym (same_clause_sound (image_of_clause e c) w.0 w.2)) w.1

pub keeps_complete : (cs : List Numbered) (e : Permutation) → Keeps e cs → keeps cs e ≡ true
unfolding keeps
keeps_complete cs e k =
    all_of (image_among (clauses_in cs) e) (clauses_in cs)
    (λ c m. any_of (same_clause (image_of_clause e c)) (k c m)
    (same_clause_complete (image_of_clause e c) (image_of_clause e c) refl))

pub covered_sound : (es : List Permutation) (ps : List ℕ) (x : ℕ) → covered es ps x ≡ true → Covered es ps x
unfolding covered
covered_sound es ps x h =
    ⊎_elim (λ p. itself (has_in x ps p))
    (λ p. let w = any_found (image_in ps x) es p in by_image w.0 w.1 (has_in (image_of_point w.0 x) ps w.2))
    (or_split (has x ps) (any (image_in ps x) es) h)

pub covered_complete : (es : List Permutation) (ps : List ℕ) (x : ℕ) → Covered es ps x → covered es ps x ≡ true
unfolding covered
covered_complete es ps x (itself m) = or_left (has x ps) (any (image_in ps x) es) (in_has x m)
covered_complete es ps x (by_image e k m) =
    or_right (has x ps) (any (image_in ps x) es) (any_of (image_in ps x) k (in_has (image_of_point e x) m))

-- ---- a permutation's numbers are 1 to n, none twice; and n such numbers are a permutation

module _ (n : ℕ) (e : Permutation) where
  module _ (p : IsPermutation n e) where
    each : (v : ℕ) → v ∈ range 1 n → v ∈ e.images
    each v m =
        let w = range_out 1 n v m in
        let f = count_found (eqb v) e.images (le_of_eq (sym (p.once v w.0 (omega arith)))) in
        subst (λ u. u ∈ e.images) (sym (eqb-true v f.0 f.2)) f.1

    pub permutation_within : (v : ℕ) → v ∈ e.images → (1 ≤ v) × (v ≤ n)
    permutation_within v m =
        let w = range_out 1 n v (distinct_onto dec_in (distinct_range 1 n) e.images each
        (le_of_eq (p.size ∙ sym (length-range 1 n))) v m) in
        (w.0, omega arith)

    pub permutation_distinct : Distinct e.images
    permutation_distinct = count_distinct e.images (λ v m. let w = permutation_within v m in le_of_eq
        (p.once v w.0 w.1))

    -- every variable is the image of one
    pub permutation_onto : (v : ℕ) → 1 ≤ v → v ≤ n → v ∈ e.images
    permutation_onto v lo hi = each v (range_in 1 n v lo (omega arith))

  pub permutation_of : length e.images ≡ n → ((v : ℕ) → v ∈ e.images → (1 ≤ v) × (v ≤ n)) → Distinct e.images
      → IsPermutation n e
  permutation_of size within distinct = record { size = size; once = once }
    where
      in_range : (v : ℕ) → v ∈ e.images → v ∈ range 1 n
      in_range v m = let w = within v m in range_in 1 n v w.0 (omega arith)

      once : (v : ℕ) → 1 ≤ v → v ≤ n → count (eqb v) e.images ≡ 1
      once v lo hi =
          let m = distinct_onto dec_in distinct (range 1 n) in_range (le_of_eq (length-range 1 n ∙ sym size)) v
          (range_in 1 n v lo (omega arith)) in
          le_antisymm (distinct_count distinct v) (count_pos (eqb v) m (eq-eqb v v refl))
