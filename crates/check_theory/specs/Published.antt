-- Source document 002: neighbourhoods, transport functions and stable sets as published, over any number n of
-- variables, and the numbers that stand for a transport function in a certificate. A set of points is a predicate, and
-- the formula is a list of clauses. Assumes nothing.
use Rattle.std.specs.Prelude.{List, ◌⊎◌, ◌≡◌, ℕ, ◌<◌, ◌^◌}
use Rattle.math.specs.Lists.{◌∈◌}
use Rattle.points.specs.Points.{Clause, Satisfies, Numbered, distance}
use Rattle.permutation_theory.specs.Permutations.{Permutation, IsPermutation, image_of_point, clauses_in, Keeps}

-- 002, definition 3: "the set of points that are at Hamming distance 1 from p and that satisfy C"
pub record Nbhd (n : ℕ) (p : ℕ) (c : Clause) (q : ℕ) : Type 0 where
  pub point : q < 2 ^ n
  pub near : distance n p q ≡ 1
  pub satisfied : Satisfies c q

-- 002, definition 4: "a transport function $g:P \to F$ is meant to assign each point $p \in P$ a clause that is
-- falsified by p"
pub record Transport (clauses : List Numbered) (P : ℕ → Type 0) (g : ℕ → Clause) : Type 0 where
  pub member : (p : ℕ) → P p → g p ∈ clauses_in clauses
  pub falsified : (p : ℕ) → P p → Satisfies (g p) p → ⊥

-- 002, definitions 5 and 11, which differ in where neighbourhoods may lie: "Let P be a nonempty subset of Z(F)" with
-- the transport function g; for each p of P every point of Nbhd(p,g(p)) is one of Q
pub record StableUpTo (n : ℕ) (clauses : List Numbered) (P : ℕ → Type 0) (g : ℕ → Clause) (Q : ℕ → Type 0) : Type 0
  where
    pub witness : ℕ
    pub nonempty : P witness
    pub within : (p : ℕ) → P p → p < 2 ^ n
    pub transport : Transport clauses P g
    pub closed : (p : ℕ) → P p → (q : ℕ) → Nbhd n p (g p) q → Q q

-- 002, definition 5: "$Nbhd(p,g(p)) \subseteq P$"
abbrev pub StableSet : ℕ → List Numbered → (ℕ → Type 0) → (ℕ → Clause) → Type 0
StableSet n clauses P g = StableUpTo n clauses P g P

-- 002, definitions 8 and 9: "The set of the permutations, with respect to which a CNF formula is symmetric, forms a
-- group", there named G
pub record Symmetry (n : ℕ) (clauses : List Numbered) (e : Permutation) : Type 0 where
  pub bijective : IsPermutation n e
  pub keeps : Keeps e clauses

-- 002, definition 10: "there is a permutation $\pi \in G$ such that $p' = \pi(p)$ or $p = \pi(p')$"
pub record Symmetric (n : ℕ) (clauses : List Numbered) (p q : ℕ) : Type 0 where
  pub symmetry : Permutation
  pub in_group : Symmetry n clauses symmetry
  pub maps : (q ≡ image_of_point symmetry p) ⊎ (p ≡ image_of_point symmetry q)

-- 002, definition 11: a point is "either in P or there is a point p of P that is symmetric to p'"
abbrev pub SymmetricToOne : ℕ → List Numbered → (ℕ → Type 0) → ℕ → Type 0
SymmetricToOne n clauses P q = P q ⊎ ((r : ℕ) × P r × Symmetric n clauses q r)

-- 002, definition 11: that holds of "every point $p' \in Nbhd(p,g(p))$"
abbrev pub StableModulo : ℕ → List Numbered → (ℕ → Type 0) → (ℕ → Clause) → Type 0
StableModulo n clauses P g = StableUpTo n clauses P g (SymmetricToOne n clauses P)

-- ---- numbers in the place of a transport function

-- k is the number of the clause that a transport function gives to x
pub record Names (clauses : List Numbered) (g : ℕ → Clause) (x k : ℕ) : Type 0 where
  pub one : Numbered
  pub member : one ∈ clauses
  pub numbered : one.number ≡ k
  pub same : one.clause ≡ g x
