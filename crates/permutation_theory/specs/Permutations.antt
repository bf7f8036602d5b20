-- Document 01, 'Exchanges': permutations of variables, what they do to points and clauses, and which points a set
-- covers. Assumes nothing.
use Rattle.std.specs.Prelude.{Bool, ◌&&◌, ◌||◌, List, [], ◌∷◌, map, ◌≡◌, ℕ, ◌-◌, ◌*◌, ◌/◌, ◌%◌, ◌^◌, ◌≤◌, ◌<◌, eqb, length, get_or}
use Rattle.std.specs.Int.Bits.{bit_or}
use Rattle.math.specs.Bits.{bit}
use Rattle.math.specs.Lists.{◌∈◌, any, all, count, range, has}
use Rattle.math.specs.Numerals.{entries}
use Rattle.points.specs.Points.{Clause, Numbered}

-- E1: "An exchange sends name i to name e(i)": the numbers e(1), e(2), ..
pub record Permutation : Type 0 where
  pub images : List ℕ

-- S19: "every number just one time": each of 1 to n stands exactly once among n numbers
pub record IsPermutation (n : ℕ) (e : Permutation) : Type 0 where
  pub size : length e.images ≡ n
  pub once : (v : ℕ) → 1 ≤ v → v ≤ n → count (eqb v) e.images ≡ 1

-- the same, computed
unfoldable pub is_permutation : ℕ → Permutation → Bool
unfolding all count range
is_permutation n e = eqb (length e.images) n && all (λ v. eqb (count (eqb v) e.images) 1) (range 1 n)

-- where the variables of the set s are sent: variable i of s to the i-th of the numbers
unfoldable pub moved : List ℕ → ℕ → ℕ
moved [] s = 0
moved (v ∷ vs) s = bit_or (s % 2 * 2 ^ (v - 1)) (moved vs (s / 2))

-- E2: "The image of a choice has at e(i) the value that the choice has at i": y is the image of x, over n variables
pub record IsImage (n : ℕ) (e : Permutation) (x y : ℕ) : Type 0 where
  pub within : y < 2 ^ n
  pub value : (i : ℕ) → i < n → bit y (get_or e.images i 0 - 1) ≡ bit x i

-- the same, computed
unfoldable pub image_of_point : Permutation → ℕ → ℕ
unfolding moved
image_of_point e x = moved e.images x

-- E2: "a rule's image lists e(i) as the rule listed i"
unfoldable pub image_of_clause : Permutation → Clause → Clause
unfolding moved
image_of_clause e c = record { positive = moved e.images c.positive; negative = moved e.images c.negative }

-- the clauses of a numbered list
abbrev pub clauses_in : List Numbered → List Clause
clauses_in cs = map (λ (c : Numbered). c.clause) cs

-- E3: "It keeps the rules if the image of each rule, as two sets of names, is among the rules."
abbrev pub Keeps : Permutation → List Numbered → Type 0
Keeps e cs = (c : Clause) → c ∈ clauses_in cs → image_of_clause e c ∈ clauses_in cs

-- two clauses are the same two sets
unfoldable pub same_clause : Clause → Clause → Bool
same_clause c d = eqb c.positive d.positive && eqb c.negative d.negative

-- whether the image of c under the permutation is among the clauses
abbrev pub image_among : List Clause → Permutation → Clause → Bool
image_among cs e c = any (same_clause (image_of_clause e c)) cs

-- the same, computed
unfoldable pub keeps : List Numbered → Permutation → Bool
unfolding all any image_of_clause same_clause
keeps cs e = all (image_among (clauses_in cs) e) (clauses_in cs)

-- E6: "A choice is covered by a set if it or its image under one listed exchange is in the set." E4: "Doing nothing
-- always counts as an exchange, unlisted" (itself); E5: "here one listed exchange, applied one time, counts" (by_image)
pub data Covered (es : List Permutation) (ps : List ℕ) (x : ℕ) : Type 0 where
  itself : x ∈ ps → Covered es ps x
  by_image : (e : Permutation) → e ∈ es → image_of_point e x ∈ ps → Covered es ps x

-- whether the image of x under the permutation is in the set
abbrev pub image_in : List ℕ → ℕ → Permutation → Bool
image_in ps x e = has (image_of_point e x) ps

-- the same, computed
unfoldable pub covered : List Permutation → List ℕ → ℕ → Bool
unfolding any image_of_point
covered es ps x = has x ps || any (image_in ps x) es

-- S21: "they stand without gaps, n bytes each, e(1) first": the first k permutations in a run of bytes
unfoldable pub permutations_in : ℕ → ℕ → List ℕ → List Permutation
unfolding entries
permutations_in n k bytes = entries (λ bs. record { images = bs }) n k bytes
