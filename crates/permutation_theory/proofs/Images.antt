-- What a permutation of the variables does to points and clauses: these facts are all that the theory knows of images.
-- Assumes nothing.
use Rattle.std.specs.Prelude.{Bool, true, false, [], ◌∷◌, map, ◌↔◌, ◌≡◌, refl, ℕ, suc, ◌<◌, ◌^◌, get_or}
use Rattle.std.proofs.Math.Bool.{xor}
use Rattle.std.proofs.Math.Path.{sym, ap₂}
use Rattle.std.proofs.Common.{ap, ◌∙◌, subst, arith}
use Rattle.math.specs.Laws.BitLaws.{bits_ext_below}
use Rattle.math.specs.Bits.{bit}
use Rattle.math.specs.Laws.CountLaws.{below_in, below_out, bit_below, count_carried}
use Rattle.math.specs.Laws.ListLaws.{in_get_d, map_in, count_ext, distinct_range}
use Rattle.math.specs.Lists.{◌∈◌, count, below}
use Rattle.points.specs.Points.{Clause, Satisfies, by_yes, by_no, satisfies, distance}
use Rattle.permutation_theory.proofs.ImageLaws.{sent_to, index_lt, sent_lt, sent_injective, moved_at, moved-lt}
use Rattle.permutation_theory.proofs.ImageLaws.{image_sound}
use Rattle.permutation_theory.specs.Laws.PermutationLaws.{permutation_within, permutation_distinct}
use Rattle.permutation_theory.specs.Laws.PermutationLaws.{permutation_onto}
use Rattle.permutation_theory.specs.Permutations.{Permutation, IsPermutation, moved, image_of_point, image_of_clause}
use Rattle.point_theory.specs.Laws.Notions.{ClauseBelow}

-- the images under e, over n variables, keep what matters
pub record Faithful (n : ℕ) (e : Permutation) : Type 0 where
  pub within : (x : ℕ) → image_of_point e x < 2 ^ n
  pub isometric : (x y : ℕ) → distance n (image_of_point e x) (image_of_point e y) ≡ distance n x y
  -- the image of a clause is satisfied by the image of a point exactly if the clause is by the point
  -- T5: "Reversing e for points but not for rules.": then this does not hold, as `reversed` shows
  pub exactly : (c : Clause) (x : ℕ) → ClauseBelow n c
      → Satisfies c x ↔ Satisfies (image_of_clause e c) (image_of_point e x)
  -- clauses with the same image are the same
  pub injective : (c d : Clause) → ClauseBelow n c → ClauseBelow n d → image_of_clause e c ≡ image_of_clause e d → c ≡ d

module _ (n : ℕ) (e : Permutation) (p : IsPermutation n e) where
  -- ---- a permutation is a bijection of the variables below n

  sent_onto : (j : ℕ) → j < n → (i : ℕ) × (i < n) × (sent_to e i ≡ j)
  sent_onto j h =
      let w = in_get_d 0 (permutation_onto n e p (suc j) (omega arith) h) in
      let at : get_or e.images w.0 0 ≡ suc j = w.2 in
      (w.0, subst (λ k. w.0 < k) p.size w.1, omega arith)

  -- so a test counts as often where the variables are sent
  count_sent : (t : ℕ → Bool) → count (λ i. t (sent_to e i)) (below n) ≡ count t (below n)
  count_sent t =
      count_carried (sent_to e) t (distinct_range 0 n) (distinct_range 0 n)
      (λ i m. below_in n (sent_to e i) (sent_lt n e p i (below_out n i m)))
      (λ i j mi mj. sent_injective n e p i j (below_out n i mi) (below_out n j mj))
      (λ j m. let w = sent_onto j (below_out n j m) in subst (λ k. k ∈ map (sent_to e) (below n)) w.2
      (map_in (sent_to e) (below_in n w.0 w.1)))

  -- ---- its images keep distances

  isometric : (x y : ℕ) → distance n (image_of_point e x) (image_of_point e y) ≡ distance n x y
  unfolding distance
  isometric x y =
      sym (count_sent (λ j. xor (bit (image_of_point e x) j) (bit (image_of_point e y) j)))
      ∙ count_ext (λ i. xor (bit (image_of_point e x) (sent_to e i)) (bit (image_of_point e y) (sent_to e i)))
      (λ i. xor (bit x i) (bit y i)) (below n)
      (λ i m. let h = below_out n i m in ap₂ xor ((image_sound n e p x).value i h) ((image_sound n e p y).value i h))

  -- ---- the image of a clause is satisfied by the image of a point exactly if the clause is by the point

  moved_value : (s i : ℕ) → i < n → bit (moved e.images s) (sent_to e i) ≡ bit s i
  moved_value s i h =
      moved_at e.images s i (permutation_distinct n e p) (λ v m. (permutation_within n e p v m).0)
      (index_lt n e p i h)

  moved-below : (s : ℕ) → moved e.images s < 2 ^ n
  moved-below s = moved-lt n e.images s (permutation_within n e p)

  -- a variable of the set s is sent to one of the moved set, where the image of x has the value that x has at it
  sent : (s x i : ℕ) → s < 2 ^ n → bit s i ≡ true
      → (j : ℕ) × (bit (moved e.images s) j ≡ true) × (bit (image_of_point e x) j ≡ bit x i)
  sent s x i hs h =
      let lt = bit_below n s i hs h in (sent_to e i, moved_value s i lt ∙ h, (image_sound n e p x).value i lt)

  -- and every variable of the moved set is so sent
  came : (s x j : ℕ) → bit (moved e.images s) j ≡ true
      → (i : ℕ) × (bit s i ≡ true) × (bit x i ≡ bit (image_of_point e x) j)
  came s x j h =
      let w = sent_onto j (bit_below n (moved e.images s) j (moved-below s) h) in (
        w.0,
        sym (moved_value s w.0 w.1) ∙ ap (bit (moved e.images s)) w.2 ∙ h,
        sym ((image_sound n e p x).value w.0 w.1) ∙ ap (bit (image_of_point e x)) w.2,
      )

  image_satisfies : (c : Clause) (x : ℕ) → ClauseBelow n c → Satisfies c x
      → Satisfies (image_of_clause e c) (image_of_point e x)
  unfolding image_of_clause
  image_satisfies c x b (by_yes i h q) = let w = sent c.positive x i b.positive-below h in by_yes w.0 w.1
      (w.2 ∙ q)
  image_satisfies c x b (by_no i h q) = let w = sent c.negative x i b.negative-below h in by_no w.0 w.1
      (w.2 ∙ q)

  satisfies_image : (c : Clause) (x : ℕ) → Satisfies (image_of_clause e c) (image_of_point e x) → Satisfies c x
  unfolding image_of_clause
  satisfies_image c x (by_yes j h q) = let w = came c.positive x j h in by_yes w.0 w.1 (w.2 ∙ q)
  satisfies_image c x (by_no j h q) = let w = came c.negative x j h in by_no w.0 w.1 (w.2 ∙ q)

  -- ---- clauses with the same image are the same

  moved_injective : (s t : ℕ) → s < 2 ^ n → t < 2 ^ n → moved e.images s ≡ moved e.images t → s ≡ t
  moved_injective s t hs ht q =
      bits_ext_below n s t hs ht (λ i h. sym (moved_value s i h) ∙ ap (λ u. bit u (sent_to e i)) q ∙ moved_value t i h)

  clause_injective : (c d : Clause) → ClauseBelow n c → ClauseBelow n d → image_of_clause e c ≡ image_of_clause e d → c ≡ d
  unfolding image_of_clause
  clause_injective c d bc bd q =
      ap₂ (λ u v. let k : Clause = record { positive = u; negative = v } in k)
      (moved_injective c.positive d.positive bc.positive-below bd.positive-below
      (ap (λ (k : Clause). k.positive) q))
      (moved_injective c.negative d.negative bc.negative-below bd.negative-below
      (ap (λ (k : Clause). k.negative) q))

  pub permutation_faithful : Faithful n e
  permutation_faithful =
      record {
        within = λ x. (image_sound n e p x).within;
        isometric = isometric;
        exactly = λ c x b. (image_satisfies c x b, satisfies_image c x);
        injective = clause_injective;
      }

-- ---- T5: "Reversing e for points but not for rules."

-- the clause that wants variable 1 is satisfied by the point 100; under e = 2 3 1 its image wants variable 2, and 100
-- goes to 010; e reversed, 3 1 2, takes 100 to 001, which falsifies the image
abbrev wanted : Clause
wanted = record { positive = 1; negative = 0 }

abbrev cycle : Permutation
cycle = record { images = 2 ∷ 3 ∷ 1 ∷ [] }

abbrev reverse : Permutation
reverse = record { images = 3 ∷ 1 ∷ 2 ∷ [] }

pub reversed : (satisfies wanted 1 ≡ true) × (satisfies (image_of_clause cycle wanted) (image_of_point cycle 1) ≡ true)
    × (satisfies (image_of_clause cycle wanted) (image_of_point reverse 1) ≡ false)
unfolding satisfies image_of_clause image_of_point
reversed = (refl, refl, refl)
