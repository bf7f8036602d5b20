-- A permutation that keeps the clauses is a symmetry of the formula: it takes satisfying points to satisfying points,
-- and so is a map of the kind that the theory asks for. Assumes nothing.
use Rattle.std.specs.Prelude.{Bool, true, false, List, map, ◌≡◌, refl, ℕ}
use Rattle.std.proofs.Common.{true≢false, sym, ◌∙◌, subst}
use Rattle.math.specs.Laws.CountLaws.{injective_onto}
use Rattle.math.specs.Laws.ListLaws.{map_in, map_out}
use Rattle.math.specs.Lists.{◌∈◌}
use Rattle.points.specs.Points.{Clause, Satisfies, Numbered, SatisfiesAll}
use Rattle.permutation_theory.specs.Laws.PermutationLaws.{same_clause_sound, same_clause_complete}
use Rattle.permutation_theory.specs.Permutations.{Permutation, IsPermutation, image_of_point, image_of_clause}
use Rattle.permutation_theory.specs.Permutations.{clauses_in, Keeps, same_clause, Covered, itself, by_image}
use Rattle.permutation_theory.proofs.Images.{Faithful, permutation_faithful}
use Rattle.point_theory.specs.Laws.Maps.{Automorphism, Automorphisms, CoveredBy, in_set, through}
use Rattle.point_theory.specs.Laws.Notions.{ClauseBelow, ClausesBelow}

-- two clauses are equal or not
dec_clause : Discrete Clause
dec_clause c d = by (same_clause c d) refl
  where
    by : (b : Bool) → same_clause c d ≡ b → Dec (c ≡ d)
    by true h = yes (same_clause_sound c d h)
    by false h = no (λ e. true≢false (sym (same_clause_complete c d e) ∙ h))

-- ---- if e keeps the clauses, every clause is the image of one: an injective map of a finite list into itself is onto

module _ (n : ℕ) (e : Permutation) (faithful : Faithful n e) (cs : List Numbered) (b : ClausesBelow n cs)
    (keeps : Keeps e cs) where
  -- a clause of the list, as one of the numbered ones
  numbered_as : (c : Clause) → c ∈ clauses_in cs → (r : Numbered) × (r ∈ cs) × (c ≡ r.clause)
  numbered_as c m = map_out (λ (r : Numbered). r.clause) cs m

  bound : (c : Clause) → c ∈ clauses_in cs → ClauseBelow n c
  bound c m = let w = numbered_as c m in subst (ClauseBelow n) (sym w.2) (b w.0 w.1)

  clause_is_image : (c : Clause) → c ∈ clauses_in cs → (d : Clause) × (d ∈ clauses_in cs) × (image_of_clause e d ≡ c)
  clause_is_image =
      injective_onto dec_clause (image_of_clause e) (clauses_in cs) keeps
      (λ c d mc md. faithful.injective c d (bound c mc) (bound d md))

  -- so e takes satisfying points to satisfying points
  satisfying : (x : ℕ) → SatisfiesAll cs x → SatisfiesAll cs (image_of_point e x)
  satisfying x sat c m =
      let w = clause_is_image c.clause (map_in (λ (r : Numbered). r.clause) m) in
      let r = numbered_as w.0 w.1 in
      let s : Satisfies w.0 x = subst (λ k. Satisfies k x) (sym r.2) (sat r.0 r.1) in
      subst (λ k. Satisfies k (image_of_point e x)) w.2 ((faithful.exactly w.0 x (bound w.0 w.1)).0 s)

-- T4: "Testing that an exchange is a permutation but not that it keeps the rules.": `satisfying` needs both
pub symmetry_automorphism : (n : ℕ) (e : Permutation) (cs : List Numbered) → IsPermutation n e → Keeps e cs
    → ClausesBelow n cs
    → Automorphism n (SatisfiesAll cs) (image_of_point e)
symmetry_automorphism n e cs p keeps b =
    let faithful = permutation_faithful n e p in
    record {
      within = λ x h. faithful.within x;
      isometric = λ x y hx hy. faithful.isometric x y;
      satisfying = λ x h. satisfying n e faithful cs b keeps x;
    }

-- ---- covered under permutations is covered through their images

pub covered_through : (es : List Permutation) (ps : List ℕ) (x : ℕ) → Covered es ps x
    → CoveredBy (map image_of_point es) (λ y. y ∈ ps) x
covered_through es ps x (itself m) = in_set m
covered_through es ps x (by_image e k m) = through (image_of_point e) (map_in image_of_point k) m

pub symmetries : (n : ℕ) (es : List Permutation) (cs : List Numbered) → ((e : Permutation) → e ∈ es → IsPermutation n e)
    → ((e : Permutation) → e ∈ es → Keeps e cs) → ClausesBelow n cs
    → Automorphisms n (SatisfiesAll cs) (map image_of_point es)
symmetries n es cs are keep b f m =
    let w = map_out image_of_point es m in
    subst (Automorphism n (SatisfiesAll cs)) (sym w.2)
    (symmetry_automorphism n w.0 cs (are w.0 w.1) (keep w.0 w.1) b)
