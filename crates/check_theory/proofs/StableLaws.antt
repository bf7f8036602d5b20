-- Laws of stable sets: a certificate's set is stable as published, up to the points that it covers, and back. Assumes
-- nothing.
use Rattle.std.specs.Prelude.{cond, List, [], ◌∷◌, ◌≡◌, refl, ℕ, zero, suc, ◌≤◌, ◌<◌, eqb, length, get_or}
use mathlib.Core.List.Memᴰ
use Rattle.std.proofs.Common.{inl, inr, ◌∙◌, subst, not-suc-le-zero, le_of_suc-le-suc, arith, eq-eqb, ne_eqb}
use Rattle.std.proofs.Math.Option.{Option, some, none}
use Rattle.std.proofs.Math.Path.{sym, ap}
use Rattle.math.specs.Bits.{flip}
use Rattle.math.specs.Laws.ListLaws.{some-length, map_in, get_d_in, in_get_d}
use Rattle.math.specs.Lists.{◌∈◌, Distinct, distinct_cons}
use Rattle.points.specs.Points.{Clause, Satisfies, Numbered, empty_clause}
use Rattle.permutation_theory.specs.Permutations.{Permutation, image_of_point, clauses_in, Covered, itself, by_image}
use Rattle.formula.specs.Limits.{max_slots, max_permutations}
use Rattle.certificate.specs.Laws.RowLaws.{OwnNumbers, clause_of_lem}
use Rattle.certificate.specs.Rows.{clause_numbered}
use Rattle.check_theory.specs.Published.{Nbhd, Transport, StableUpTo, Symmetry, SymmetricToOne, Names}
use Rattle.check_theory.proofs.PublishedLaws.{flips_neighbours, neighbours_flips}
use Rattle.check_theory.specs.Stable.{Transported, Stable}

-- ---- the transport function of a certificate

-- the number beside the first point x of a list; 0 where there is none
unfoldable number_beside : List ℕ → List ℕ → ℕ → ℕ
number_beside [] ks x = 0
number_beside (y ∷ ys) [] x = 0
number_beside (y ∷ ys) (k ∷ ks) x = cond (eqb y x) k (number_beside ys ks x)

-- the clause that is there, or one without variables
unfoldable or_empty : Option Clause → Clause
or_empty none = empty_clause
or_empty (some c) = c

-- to each point the clause of its number
unfoldable pub transport_of : List Numbered → List ℕ → List ℕ → ℕ → Clause
unfolding or_empty clause_numbered number_beside
transport_of clauses points falsified x = or_empty (clause_numbered clauses (number_beside points falsified x))

number_beside_lem : (ps ks : List ℕ) → Distinct ps → length ks ≡ length ps → (i : ℕ) → i < length ps
    → number_beside ps ks (get_or ps i 0) ≡ get_or ks i 0
unfolding number_beside
number_beside_lem [] ks d e i lt = absurd (not-suc-le-zero lt)
number_beside_lem (p ∷ ps) [] d e i lt = let z : ⊥ = omega arith in absurd z
number_beside_lem (p ∷ ps) (k ∷ ks) d e zero lt = ap (λ b. cond b k (number_beside ps ks p)) (eq-eqb p p refl)
number_beside_lem (p ∷ ps) (k ∷ ks) (distinct_cons new d) e (suc i) lt =
    let low : i < length ps = le_of_suc-le-suc lt in
    ap (λ b. cond b k (number_beside ps ks (get_or ps i 0)))
    (ne_eqb p (get_or ps i 0) (λ q. new (subst (λ x. x ∈ ps) (sym q) (get_d_in ps i 0 low))))
    ∙ number_beside_lem ps ks d (omega arith) i low

-- ---- a certificate's stable set as published

module _ (n : ℕ) (cs : List Numbered) (es : List Permutation) (ps ks : List ℕ) (unique : OwnNumbers cs)
    (s : Stable n cs es ps ks) where
  -- the transport function gives the clause that the certificate gives
  transport_at : (i : ℕ) (lt : i < length ps) → transport_of cs ps ks (get_or ps i 0) ≡ (s.transported i lt).own.clause
  unfolding transport_of or_empty
  transport_at i lt =
      let t = s.transported i lt in
      ap (λ (k : ℕ). or_empty (clause_numbered cs k)) (number_beside_lem ps ks s.distinct s.paired i lt
      ∙ sym t.named)
      ∙ ap or_empty (clause_of_lem cs unique t.own t.member)

  -- what is shown of each point by its index holds of each point of the set
  by_index : (P : ℕ → Type 0) → ((i : ℕ) → i < length ps → P (get_or ps i 0)) → (p : ℕ) → p ∈ ps → P p
  by_index P h p m = let w = in_get_d 0 m in subst P w.2 (h w.0 w.1)

  set_transport : Transport cs (λ x. x ∈ ps) (transport_of cs ps ks)
  set_transport =
      record {
        member = by_index (λ p. transport_of cs ps ks p ∈ clauses_in cs) (λ i lt. let t = s.transported i lt in
            subst (λ c. c ∈ clauses_in cs) (sym (transport_at i lt)) (map_in (λ (r : Numbered). r.clause) t.member));
        falsified = by_index (λ p. Satisfies (transport_of cs ps ks p) p → ⊥)
            (λ i lt h. (s.transported i lt).falsified (subst (λ c. Satisfies c (get_or ps i 0)) (transport_at i lt) h));
      }

  -- a neighbour of a point is covered by the set
  neighbour_covered : (p : ℕ) → p ∈ ps → (q : ℕ) → Nbhd n p (transport_of cs ps ks p) q → Covered es ps q
  neighbour_covered =
      by_index (λ p. (q : ℕ) → Nbhd n p (transport_of cs ps ks p) q → Covered es ps q)
      (λ i lt q near. let t = s.transported i lt in
      let x = get_or ps i 0 in
      let w = neighbours_flips n x t.own.clause (s.within x (get_d_in ps i 0 lt)) t.falsified q
      (subst (λ c. Nbhd n x c q) (transport_at i lt) near) in
      subst (Covered es ps) (sym w.2) (t.flips w.0 w.1))

  -- the numbers name the clauses of the transport function
  pub stable_names : (i : ℕ) → i < length ps → Names cs (transport_of cs ps ks) (get_or ps i 0) (get_or ks i 0)
  stable_names i lt =
      let t = s.transported i lt in
      record { one = t.own; member = t.member; numbered = t.named; same = sym (transport_at i lt) }

  -- a certificate's set is stable as published, up to the points that it covers
  pub stable_published : StableUpTo n cs (λ x. x ∈ ps) (transport_of cs ps ks) (Covered es ps)
  stable_published =
      record {
        witness = get_or ps 0 0;
        nonempty = get_d_in ps 0 0 s.some_point;
        within = s.within;
        transport = set_transport;
        closed = neighbour_covered;
      }

-- ---- and back: a set that is stable as published, up to the points that it covers, listed without repetition within
-- the limits, with numbers that name its transport function's clauses

module _ (n : ℕ) (cs : List Numbered) (es : List Permutation) (ps ks : List ℕ) (g : ℕ → Clause)
    (s : StableUpTo n cs (λ x. x ∈ ps) g (Covered es ps))
    (names : (i : ℕ) → i < length ps → Names cs g (get_or ps i 0) (get_or ks i 0)) where
  published_at : (i : ℕ) → i < length ps → Transported n cs es ps (get_or ps i 0) (get_or ks i 0)
  published_at i lt =
      let x = get_or ps i 0 in
      let m : x ∈ ps = get_d_in ps i 0 lt in
      let c = names i lt in
      let fails : Satisfies c.one.clause x
      → ⊥ = λ h. s.transport.falsified x m (subst (λ l. Satisfies l x) c.same h) in
      record {
        own = c.one;
        member = c.member;
        named = c.numbered;
        falsified = fails;
        flips = λ v k. s.closed x m (flip x v)
            (subst (λ l. Nbhd n x l (flip x v)) c.same
            (flips_neighbours n x c.one.clause (s.within x m) fails v k));
      }

  pub published_stable : length es ≤ max_permutations → ((e : Permutation) → e ∈ es → Symmetry n cs e) → Distinct ps
      → length ps ≤ max_slots → length ks ≡ length ps → Stable n cs es ps ks
  published_stable listed symmetries d few pairs =
      record {
        few_permutations = listed;
        are_permutations = λ e m. (symmetries e m).bijective;
        keep_clauses = λ e m. (symmetries e m).keeps;
        some_point = some-length s.nonempty;
        few_points = few;
        within = s.within;
        distinct = d;
        paired = pairs;
        transported = published_at;
      }

-- ---- which points count as being in the set

-- more points may count
pub stable_more : {n : ℕ} {cs : List Numbered} {P : ℕ → Type 0} {g : ℕ → Clause} {Q R : ℕ → Type 0}
    → ((q : ℕ) → Q q → R q) → StableUpTo n cs P g Q → StableUpTo n cs P g R
stable_more more s =
    record {
      witness = s.witness;
      nonempty = s.nonempty;
      within = s.within;
      transport = s.transport;
      closed = λ p m q near. more q (s.closed p m q near);
    }

-- where no permutation is listed, only the points of the set count: definition 5
pub covered_plainly : {es : List Permutation} {ps : List ℕ} → es ≡ [] → (q : ℕ) → Covered es ps q → q ∈ ps
covered_plainly empty q (itself m) = m
covered_plainly empty q (by_image e m k) = absurd (Memᴰ.not-nil (subst (λ l. e ∈ l) empty m))

-- where the listed permutations are symmetries, a point that counts is symmetric to one of the set: definition 11
pub covered_symmetric : {n : ℕ} {cs : List Numbered} {es : List Permutation} {ps : List ℕ}
    → ((e : Permutation) → e ∈ es → Symmetry n cs e) → (q : ℕ) → Covered es ps q
    → SymmetricToOne n cs (λ x. x ∈ ps) q
covered_symmetric symmetries q (itself m) = inl m
covered_symmetric symmetries q (by_image e m k) =
    inr (
      image_of_point e q,
      k,
      record { symmetry = e; in_group = symmetries e m; maps = inl refl },
    )
