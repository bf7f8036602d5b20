-- Laws of row 17: the clause of a number by its index. Assumes nothing.
use Rattle.std.specs.Prelude.{false, not, List, [], ◌∷◌, ◌≡◌, refl, ℕ, zero, suc, ◌+◌, ◌-◌, ◌≤◌, ◌<◌, length, get_or}
use Rattle.std.proofs.Math.Option.{some, none}
use Rattle.std.proofs.Math.Path.{sym, ap}
use Rattle.std.proofs.Common.{◌∙◌, add-zero, add-suc, suc-add, arith, eq-eqb, ne_eqb}
use Rattle.std.proofs.Math.ListN.{get_elem?}
use Rattle.math.specs.Laws.PartLaws.{index_some, index_none}
use Rattle.points.specs.Points.{Clause, satisfies, numbered_from, numbered, empty_clause}
use Rattle.certificate.specs.Rows.{clause_numbered, falsifies}

-- of clauses numbered from a on, the one whose number is a + i stands at index i
pub numbered-at : (a : ℕ) (cs : List Clause) (i : ℕ) → clause_numbered (numbered_from a cs) (a + i) ≡ get_elem? cs i
unfolding clause_numbered numbered_from
numbered-at a [] i = refl
numbered-at a (c ∷ cs) zero = rw (eq-eqb a (a + 0) (sym (add-zero a)))
numbered-at a (c ∷ cs) (suc i) =
    rw (ne_eqb a (a + suc i) (λ e. let z : ⊥ = omega arith in z))
    (ap (clause_numbered (numbered_from (suc a) cs)) (add-suc a i ∙ sym (suc-add a i)) ∙ numbered-at (suc a) cs i)

-- and none has a lower number
pub numbered_below : (a : ℕ) (cs : List Clause) (k : ℕ) → k < a → clause_numbered (numbered_from a cs) k ≡ none
unfolding clause_numbered numbered_from
numbered_below a [] k h = refl
numbered_below a (c ∷ cs) k h = rw (ne_eqb a k (λ e. let z : ⊥ = omega arith in z))
    (numbered_below (suc a) cs k (omega arith))

module _ (cs : List Clause) where
  -- the clause of number k + 1 stands at index k
  here : (k : ℕ) → clause_numbered (numbered cs) (suc k) ≡ get_elem? cs k
  here k = ap (clause_numbered (numbered cs)) (let z : suc k ≡ 1 + k = omega arith in z) ∙ numbered-at 1 cs k

  -- no clause has the number 0, or one past the last
  pub number-none : (k : ℕ) → k < 1 → none ≡ clause_numbered (numbered cs) k
  number-none k h = sym (numbered_below 1 cs k h)

  pub number_past : (k : ℕ) → length cs < k → none ≡ clause_numbered (numbered cs) k
  number_past zero h = absurd (omega arith)
  number_past (suc k) h = sym (here k ∙ index_none cs k (omega arith))

  -- any other is that of the clause before it
  pub number-at : (k : ℕ) → 0 < k → k ≤ length cs → some (get_or cs (k - 1) empty_clause) ≡ clause_numbered (numbered cs) k
  number-at zero some-number h = absurd (omega arith)
  number-at (suc k) some-number h =
      let back : suc k - 1 ≡ k = omega arith in
      ap (λ (j : ℕ). some (get_or cs j empty_clause)) back ∙ sym (here k ∙ index_some cs k empty_clause (omega arith))

module _ (cs : List Clause) (x : ℕ) where
  pub falsifies-none : (k : ℕ) → k < 1 → false ≡ falsifies (clause_numbered (numbered cs) k) x
  unfolding falsifies
  falsifies-none k h = ap (λ o. falsifies o x) (number-none cs k h)

  pub falsifies_past : (k i : ℕ) → k ≡ 1 + i → length cs ≤ i → false ≡ falsifies (clause_numbered (numbered cs) k) x
  unfolding falsifies
  falsifies_past k i e h = ap (λ o. falsifies o x) (number_past cs k (omega arith))

  pub falsifies-at : (k i : ℕ) → k ≡ 1 + i → i < length cs
      → not (satisfies (get_or cs i empty_clause) x) ≡ falsifies (clause_numbered (numbered cs) k) x
  unfolding falsifies
  falsifies-at k i e h = sym (ap (λ (j : ℕ). falsifies (clause_numbered (numbered cs) j) x) e
      ∙ ap (λ o. falsifies o x) (numbered-at 1 cs i ∙ index_some cs i empty_clause h))
