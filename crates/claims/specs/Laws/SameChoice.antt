-- Sheets that have the same n, wish and set of rules are met by the same choices, equally near; so the smallest of the
-- nearest choices is the same, in whatever order the rules stand. Assumes nothing.
use Rattle.std.specs.Prelude.{◌≡◌, ℕ, ◌≤◌, ◌<◌, ◌^◌}
use Rattle.std.proofs.Common.{sym, ◌∙◌, subst, le_trans, le_of_eq, le_antisymm}
use Rattle.math.specs.Laws.ListLaws.{map_in, map_out}
use Rattle.points.specs.Points.{Clause, Numbered, Satisfies, distance}
use Rattle.formula.specs.Problem.{Problem}
use Rattle.claims.specs.Claim.{Meets, AtLeast, SmallestIn, OnSheet, SameRules}

pub same_rules_back : {a b : Problem} → SameRules a b → SameRules b a
same_rules_back r =
    record {
      variables = sym r.variables;
      target = sym r.target;
      rules = λ c. ((r.rules c).1, (r.rules c).0);
    }

-- a clause of b is one of a, which x meets
pub same_meets : {a b : Problem} → SameRules a b → (x : ℕ) → Meets a x → Meets b x
same_meets {a} {b} r x m =
    record {
      within = subst (λ (n : ℕ). x < 2 ^ n) r.variables m.within;
      satisfying = λ c k.
          let w = map_out (λ (q : Numbered). q.clause) a.clauses
          ((r.rules c.clause).1 (map_in (λ (q : Numbered). q.clause) k)) in
          subst (λ (q : Clause). Satisfies q x) (sym w.2) (m.satisfying w.0 w.1);
    }

pub same_distance : {a b : Problem} → SameRules a b → (x : ℕ)
    → distance a.variables x a.target ≡ distance b.variables x b.target
same_distance r x = λ i. distance (r.variables i) x (r.target i)

-- x meets the rules with d changes, no choice does with fewer, and it is the smallest that does with so many
pub record HouseChoice (pb : Problem) (x d : ℕ) : Type 0 where
  pub nearest : Meets pb x × (d ≡ distance pb.variables x pb.target) × AtLeast pb d
  pub smallest : SmallestIn OnSheet pb d x

module _ (a b : Problem) (r : SameRules a b) (x d y e : ℕ) (p : HouseChoice a x d) (q : HouseChoice b y e) where
  -- y meets the rules of a, too, with e changes
  meets_first : Meets a y
  meets_first = same_meets (same_rules_back r) y q.nearest.0

  changes_first : distance a.variables y a.target ≡ e
  changes_first = same_distance r y ∙ sym q.nearest.1

  -- so it needs no fewer than x, and where it needs as many it is no smaller
  fewest : d ≤ e
  fewest = le_trans (p.nearest.2 y meets_first) (le_of_eq changes_first)

  least : d ≡ e → x ≤ y
  least same = p.smallest y tt meets_first (changes_first ∙ sym same)

-- Q03.1: "Editors of series want the same house choice each time, however the client ordered the rules."
pub same_house_choice : (a b : Problem) → SameRules a b → (x d y e : ℕ) → HouseChoice a x d → HouseChoice b y e
    → (x ≡ y) × (d ≡ e)
same_house_choice a b r x d y e p q =
    let back = same_rules_back r in
    let same = le_antisymm (fewest a b r x d y e p q) (fewest b a back y e x d q p) in
    (le_antisymm (least a b r x d y e p q same) (least b a back y e x d q p (sym same)), same)
