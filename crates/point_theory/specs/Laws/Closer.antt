-- A clause that one point falsifies and another satisfies lists a variable in which the two differ: to flip it brings
-- the one closer to the other. Assumes nothing.
use Rattle.std.specs.Prelude.{true, ◌||◌, ◌≡◌, ℕ, ◌<◌}
use Rattle.std.proofs.Math.Bool.{xor}
use Rattle.std.proofs.Common.{⊎_elim, ap₂, ◌∙◌}
use Rattle.math.specs.Laws.BitLaws.{bit-or}
use Rattle.math.specs.Bits.{bit}
use Rattle.math.specs.Laws.CountLaws.{below_in, bit_below}
use Rattle.math.specs.Laws.ListLaws.{true-or-false, not-true-false, or_left, or_right, select_in}
use Rattle.math.specs.Lists.{◌∈◌}
use Rattle.points.specs.Points.{Clause, Satisfies, by_yes, by_no, listed, variables}
use Rattle.point_theory.specs.Laws.Notions.{Differ, ClauseBelow}

-- a variable of the clause c in which the points x and s differ
pub record Differing (n : ℕ) (c : Clause) (x s : ℕ) : Type 0 where
  pub variable : ℕ
  pub among : variable ∈ variables n c
  pub small : variable < n
  pub differ : Differ variable x s

-- ---- a clause's variables

pub variable_in : (n : ℕ) (c : Clause) (v : ℕ) → v < n → bit c.positive v || bit c.negative v ≡ true
    → v ∈ variables n c
unfolding variables
variable_in n c v lt h = select_in (bit (listed c)) (below_in n v lt) (bit-or c.positive c.negative v ∙ h)

-- ---- "A choice meets a rule if some listed name has the listed value.": there the point that falsifies it has the
-- other value

pub closer : (n : ℕ) (c : Clause) (x s : ℕ) → ClauseBelow n c → (Satisfies c x → ⊥) → Satisfies c s → Differing n c x s
unfolding xor
closer n c x s b fails (by_yes v p q) =
    let lt = bit_below n c.positive v b.positive-below p in
    record {
      variable = v;
      among = variable_in n c v lt (or_left (bit c.positive v) (bit c.negative v) p);
      small = lt;
      differ = ap₂ xor (not-true-false (bit x v) (λ t. fails (by_yes v p t))) q;
    }
closer n c x s b fails (by_no v p q) =
    let lt = bit_below n c.negative v b.negative-below p in
    record {
      variable = v;
      among = variable_in n c v lt (or_right (bit c.positive v) (bit c.negative v) p);
      small = lt;
      differ = ap₂ xor (⊎_elim (λ t. t) (λ f. absurd (fails (by_no v p f))) (true-or-false (bit x v))) q;
    }
