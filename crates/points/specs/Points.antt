-- Document 01, 'Sheet': names, choices and rules, here variables, points and clauses. Sizes are open: a point is a
-- number.
-- S1: "A name is a variable, numbered 1 to n": variable i is digit i − 1.
-- Assumes nothing.
use Rattle.std.specs.Prelude.{Bool, true, false, not, cond, ◌||◌, List, [], ◌∷◌, ◌++◌, ◌≡◌, ℕ, suc, min, ◌≤◌, ◌<◌, ◌^◌, eqb}
use Rattle.std.proofs.Math.Bool.{xor}
use Rattle.std.proofs.Math.Option.{Option, some, none}
use Rattle.std.specs.Int.Bits.{bit_and, bit_or}
use Rattle.math.specs.Bits.{bit, members}
use Rattle.math.specs.Lists.{◌∈◌, count, below}

-- S2: "A choice (point) is a 64-bit number": the digits that a point has room for, apart from the limit of n
unfoldable pub point_digits : ℕ
point_digits = 64

-- S2: "A choice (point) is a 64-bit number: bit i−1 is 1 where name i is yes; bits n and up are 0": a point of n
-- variables
abbrev pub Point : ℕ → ℕ → Type 0
Point n x = x < 2 ^ n

-- W5: "names that differ from the wish": the number of variables, of n, in which two points differ
unfoldable pub distance : ℕ → ℕ → ℕ → ℕ
unfolding count xor
distance n x y = count (λ i. xor (bit x i) (bit y i)) (below n)

-- S3: "A rule (clause) is two such numbers: names wanted yes, names wanted no": a set of variables each
pub record Clause : Type 0 where
  pub positive : ℕ
  pub negative : ℕ

-- S5: "a rule without names"
abbrev pub empty_clause : Clause
empty_clause = record { positive = 0; negative = 0 }

-- S4: "A choice meets a rule if some listed name has the listed value."
pub data Satisfies (c : Clause) (x : ℕ) : Type 0 where
  by_yes : (i : ℕ) → bit c.positive i ≡ true → bit x i ≡ true → Satisfies c x
  by_no : (i : ℕ) → bit c.negative i ≡ true → bit x i ≡ false → Satisfies c x

-- the same, computed: a wanted variable is 1, or one not wanted is not
unfoldable pub satisfies : Clause → ℕ → Bool
satisfies c x = not (eqb (bit_and x c.positive) 0) || not (eqb (bit_and x c.negative) c.negative)

-- the variables that a clause lists, either way
unfoldable pub listed : Clause → ℕ
listed c = bit_or c.positive c.negative

-- W7: "For each name listed there, ascending": a clause's variables, of n, as digits
unfoldable pub variables : ℕ → Clause → List ℕ
unfolding members listed
variables n c = members n (listed c)

-- S6: "Rules are numbered from 1 in sheet order."
pub record Numbered : Type 0 where
  pub number : ℕ
  pub clause : Clause

unfoldable pub numbered_from : ℕ → List Clause → List Numbered
numbered_from k [] = []
numbered_from k (c ∷ cs) = record { number = k; clause = c } ∷ numbered_from (suc k) cs

abbrev pub numbered : List Clause → List Numbered
numbered cs = numbered_from 1 cs

-- W5: "it meets all rules"
abbrev pub SatisfiesAll : List Numbered → ℕ → Type 0
SatisfiesAll cs x = (c : Numbered) → c ∈ cs → Satisfies c.clause x

-- W6: "the lowest-numbered one unmet": falsified, and none before it is
pub record FirstFalsified (cs : List Numbered) (x : ℕ) (c : Numbered) : Type 0 where
  pub before : List Numbered
  pub after : List Numbered
  pub place : cs ≡ before ++ c ∷ after
  pub falsified : Satisfies c.clause x → ⊥
  pub earlier : SatisfiesAll before x

-- the same, computed; nothing where the point meets all rules
unfoldable pub first_falsified : List Numbered → ℕ → Option Numbered
unfolding satisfies
first_falsified [] x = none
first_falsified (c ∷ cs) x = cond (satisfies c.clause x) (first_falsified cs x) (some c)

-- a clause's number, 0 for none; W5: "its slot's rule stays 0"
unfoldable pub number_of : Option Numbered → ℕ
number_of none = 0
number_of (some c) = c.number

-- ---- the smallest of points that meet all rules

-- Q03.2: "the one smallest as a number": x, of those of the points l that meet all rules
pub record Smallest (cs : List Numbered) (l : List ℕ) (x : ℕ) : Type 0 where
  pub among : x ∈ l
  pub satisfying : SatisfiesAll cs x
  pub least : (y : ℕ) → y ∈ l → SatisfiesAll cs y → x ≤ y

-- none of the points l meets all rules
abbrev pub NoneSatisfies : List Numbered → List ℕ → Type 0
NoneSatisfies cs l = (y : ℕ) → y ∈ l → SatisfiesAll cs y → ⊥

-- the same, computed: a point, from the clause that it falsifies first, beside the smallest of those behind it
unfoldable pub lesser : ℕ → Option Numbered → Option ℕ → Option ℕ
lesser x (some c) o = o
lesser x none none = some x
lesser x none (some y) = some (min x y)

unfoldable pub smallest : List Numbered → List ℕ → Option ℕ
unfolding first_falsified lesser
smallest cs [] = none
smallest cs (x ∷ l) = lesser x (first_falsified cs x) (smallest cs l)
