-- The Hamming distance is a metric on the points below 2 ^ n, and a flip moves a point by one. Assumes nothing.
use Rattle.std.specs.Prelude.{true, ◌⊎◌, ◌≡◌, refl, ℕ, suc, ◌+◌, ◌≤◌, ◌<◌, ◌^◌, eqb}
use Rattle.std.specs.Bool.{xor}
use Rattle.std.proofs.Common.{inl, inr, ⊎_elim, sym, ap, ◌∙◌, subst, zero-le, zero-add, lt_of_lt_of_le, arith, pow_mono, eq-eqb}
use Rattle.math.specs.Laws.BitLaws.{bit-flip, bits_ext_below}
use Rattle.math.specs.Bits.{bit, flip}
use Rattle.math.specs.Laws.CountLaws.{below_in, xor_comm, xor_self, xor_again, xor_same, xor-between, xor_changed}
use Rattle.math.specs.Laws.CountLaws.{count-zero, count_either, count-one-more}
use Rattle.math.specs.Laws.ListLaws.{count_ext, count_none, count-le, length-range, distinct_range, distinct_count}
use Rattle.math.specs.Lists.{count, below}
use Rattle.math.specs.Laws.PartLaws.{count_eqb_range}
use Rattle.math.specs.Laws.SetLaws.{bit_other}
use Rattle.points.specs.Laws.PointLaws.{ones_distance}
use Rattle.points.specs.Points.{distance}
use Rattle.point_theory.specs.Laws.Notions.{Differ}

-- ---- a metric

pub distance_symmetric : (n x y : ℕ) → distance n x y ≡ distance n y x
unfolding distance
distance_symmetric n x y = count_ext (λ i. xor (bit x i) (bit y i)) (λ i. xor (bit y i) (bit x i)) (below n)
    (λ i m. xor_comm (bit x i) (bit y i))

pub distance_self : (n x : ℕ) → distance n x x ≡ 0
unfolding distance
distance_self n x = count_none (λ i. xor (bit x i) (bit x i)) (below n) (λ i m. xor_self (bit x i))

pub distance-zero : (n x y : ℕ) → x < 2 ^ n → y < 2 ^ n → distance n x y ≡ 0 → x ≡ y
unfolding distance
distance-zero n x y hx hy h =
    bits_ext_below n x y hx hy (λ i lt. xor_same (bit x i) (bit y i)
    (count-zero (λ i. xor (bit x i) (bit y i)) h (below_in n i lt)))

pub distance_triangle : (n x y z : ℕ) → distance n x z ≤ distance n x y + distance n y z
unfolding distance
distance_triangle n x y z =
    count_either (λ i. xor (bit x i) (bit z i)) (λ i. xor (bit x i) (bit y i)) (λ i. xor (bit y i) (bit z i)) (below n)
    (λ i. xor-between (bit x i) (bit y i) (bit z i))

-- ---- how large it is

pub distance-le : (n x y : ℕ) → distance n x y ≤ n
unfolding distance
distance-le n x y = subst (λ (k : ℕ). distance n x y ≤ k) (length-range 0 n)
    (count-le (λ i. xor (bit x i) (bit y i)) (below n))

-- it does not depend on the number of variables, once both points lie below it
pub distance_wider : (n m x y : ℕ) → x < 2 ^ n → y < 2 ^ n → n ≤ m → distance m x y ≡ distance n x y
distance_wider n m x y hx hy le =
    sym (ones_distance m x y (lt_of_lt_of_le hx (pow_mono le)) (lt_of_lt_of_le hy (pow_mono le)))
    ∙ ones_distance n x y hx hy

-- ---- a flip moves a point by one

pub distance-flip : (n x v : ℕ) → v < n → distance n x (flip x v) ≡ 1
unfolding distance
distance-flip n x v h =
    count_ext (λ i. xor (bit x i) (bit (flip x v) i)) (eqb v) (below n)
    (λ i m. ap (xor (bit x i)) (bit-flip x v i) ∙ xor_again (bit x i) (eqb v i))
    ∙ count_eqb_range v 0 n zero-le (rw zero-add h)

-- where x and s differ, one closer
pub flip_closer : (n x s v : ℕ) → v < n → Differ v x s → suc (distance n (flip x v) s) ≡ distance n x s
unfolding distance
flip_closer n x s v h d =
    sym (count-one-more (λ i. xor (bit x i) (bit s i)) (λ i. xor (bit (flip x v) i) (bit s i)) (distinct_range 0 n)
    (below_in n v h) d
    (ap (λ b. xor b (bit s v)) (bit-flip x v v ∙ ap (xor (bit x v)) (eq-eqb v v refl))
    ∙ xor_changed (bit x v) (bit s v) d)
    (λ i ne. ap (λ b. xor b (bit s i)) (sym (bit_other x v i ne))))

-- and one farther at the most, whatever v is
pub flip_near : (n x s v : ℕ) → distance n (flip x v) s ≤ suc (distance n x s)
unfolding distance
flip_near n x s v =
    let one : count (eqb v) (below n) ≤ 1 = distinct_count (distinct_range 0 n) v in
    let sum : count (λ i. xor (bit (flip x v) i) (bit s i)) (below n)
    ≤ count (eqb v) (below n) + count (λ i. xor (bit x i) (bit s i)) (below n) =
    count_either (λ i. xor (bit (flip x v) i) (bit s i)) (eqb v) (λ i. xor (bit x i) (bit s i)) (below n) either in
    omega arith
  where
    either : (i : ℕ) → Differ i (flip x v) s → (eqb v i ≡ true) ⊎ Differ i x s
    either i d =
        ⊎_elim (λ e. inl (sym (xor_again (bit x i) (eqb v i)) ∙ ap (xor (bit x i)) (sym (bit-flip x v i))
        ∙ xor_comm (bit x i) (bit (flip x v) i) ∙ e)) inr
        (xor-between (bit (flip x v) i) (bit x i) (bit s i) d)
