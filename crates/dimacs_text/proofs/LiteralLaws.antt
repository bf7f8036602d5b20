-- The literals that are written for a clause: they are those that it lists, so that they are read as the same clause.
-- Assumes nothing.
use Rattle.std.specs.Prelude.{Bool, true, false, cond, List, [], ◌∷◌, ◌++◌, map, ◌≡◌, refl, ℕ, zero, suc, ◌^◌, ◌<◌}
use Rattle.std.proofs.Common.{true≢false, ⊎_elim, sym, ◌∙◌, subst, arith}
use mathlib.Core.List.Memᴰ
use Rattle.std.proofs.lemmas.Simd.{map-map}
use Rattle.std.proofs.Math.Path.{ap}
use Rattle.std.proofs.lemmas.Nat.{or_lt}
use Rattle.math.specs.Bits.{bit, members}
use Rattle.math.specs.Laws.BitLaws.{bit-or}
use Rattle.math.specs.Laws.CountLaws.{below_in, below_out, bit_below}
use Rattle.math.specs.Laws.ListLaws.{here, or_left, or_right, select_in, select_out}
use Rattle.math.specs.Laws.PartLaws.{each_nil, each_cons, each_append, each_map}
use Rattle.math.specs.Laws.SplitLaws.{map-append, map_ext, flat_map_in, flat_map_out}
use Rattle.math.specs.Lists.{◌∈◌, below}
use Rattle.points.specs.Points.{Clause, listed, variables}
use Rattle.dimacs_format.specs.Accepted.{closed_by0, Within}
use Rattle.dimacs_format.specs.Input.{clause_of}
use Rattle.dimacs_format.specs.Laws.ClauseLaws.{clause_of_is, is_clause_same}
use Rattle.dimacs_format.specs.Text.{ascii, Literal, pos, neg, variable, literal, close, token_in}
use Rattle.dimacs_text.specs.SheetText.{spelling, literals_at, literals_of}
use Rattle.dimacs_text.specs.Laws.WordLaws.{spelling-word, zero_word}
use Rattle.dimacs_text.specs.Laws.WordLaws.{token_spelled, IsWord, number_word}

-- ---- which literals are written

-- a clause lists a literal
lists : Clause → Literal → Bool
lists c (pos zero) = false
lists c (pos (suc i)) = bit c.positive i
lists c (neg zero) = false
lists c (neg (suc i)) = bit c.negative i

-- a literal under a test
under_out : (t : Bool) (l k : Literal) → k ∈ cond t (l ∷ []) [] → (t ≡ true) × (k ≡ l)
under_out true l k m = (refl, Memᴰ.eq_of_singleton m)
under_out false l k m = absurd (Memᴰ.not-nil m)

under_in : (t : Bool) (l : Literal) → t ≡ true → l ∈ cond t (l ∷ []) []
under_in true l e = here l []
under_in false l e = absurd (true≢false (sym e))

-- the literals of one variable are listed
at_out : (c : Clause) (i : ℕ) (l : Literal) → l ∈ literals_at c i → (lists c l ≡ true) × (variable l ≡ suc i)
unfolding lists literals_at variable
at_out c i l m =
    ⊎_elim (λ k. told (pos (suc i)) refl (under_out (bit c.positive i) (pos (suc i)) l k))
    (λ k. told (neg (suc i)) refl (under_out (bit c.negative i) (neg (suc i)) l k))
    (Memᴰ.append_cases (cond (bit c.positive i) (pos (suc i) ∷ []) []) m)
  where
    told : (k : Literal) → variable k ≡ suc i → (lists c k ≡ true) × (l ≡ k)
        → (lists c l ≡ true) × (variable l ≡ suc i)
    told k e w = subst (λ x. (lists c x ≡ true) × (variable x ≡ suc i)) (sym w.1) (w.0, e)

-- and each listed one is among those of its variable
at_in : (c : Clause) (l : Literal) → lists c l ≡ true → (i : ℕ) × (bit (listed c) i ≡ true) × (l ∈ literals_at c i)
unfolding lists literals_at listed
at_in c (pos zero) e = absurd (true≢false (sym e))
at_in c (pos (suc i)) e = (
  i,
  bit-or c.positive c.negative i ∙ or_left (bit c.positive i) (bit c.negative i) e,
  Memᴰ.append_left (cond (bit c.negative i) (neg (suc i) ∷ []) []) (under_in (bit c.positive i) (pos (suc i)) e),
)
at_in c (neg zero) e = absurd (true≢false (sym e))
at_in c (neg (suc i)) e = (
  i,
  bit-or c.positive c.negative i ∙ or_right (bit c.positive i) (bit c.negative i) e,
  Memᴰ.append_right (cond (bit c.positive i) (pos (suc i) ∷ []) []) (under_in (bit c.negative i) (neg (suc i)) e),
)

module _ (n : ℕ) (c : Clause) where
  -- each that is written is listed, and of one of the variables 1 to n
  literals_out : (l : Literal) → l ∈ literals_of n c → (lists c l ≡ true) × Within n l
  unfolding literals_of variables members
  literals_out l m =
      let w = flat_map_out (literals_at c) (variables n c) m in
      let o = at_out c w.0 l w.2 in
      let lt = below_out n w.0 (select_out (bit (listed c)) (below n) w.1).0 in
      (o.0, record { low = omega (arith, o.1); high = omega (arith, o.1, lt) })

  pub literals_within : (l : Literal) → l ∈ literals_of n c → Within n l
  literals_within l m = (literals_out l m).1

  module _ (p : c.positive < 2 ^ n) (q : c.negative < 2 ^ n) where
    -- each that is listed is written
    literals_in : (l : Literal) → lists c l ≡ true → l ∈ literals_of n c
    unfolding literals_of variables members listed
    literals_in l e =
        let w = at_in c l e in
        let lt = bit_below n (listed c) w.0 (or_lt n c.positive c.negative p q) w.1 in
        flat_map_in (literals_at c) (select_in (bit (listed c)) (below_in n w.0 lt) w.1) w.2

    -- what is written for a clause is read as that clause
    pub clause_back : clause_of (literals_of n c) ≡ c
    unfolding lists
    clause_back =
        is_clause_same (literals_of n c) (clause_of (literals_of n c)) c
        (clause_of_is (literals_of n c) (λ l m. (literals_within l m).low))
        (record {
          wanted = λ i. (literals_in (pos (suc i)), λ m. (literals_out (pos (suc i)) m).0);
          unwanted = λ i. (literals_in (neg (suc i)), λ m. (literals_out (neg (suc i)) m).0);
        })

  -- ---- the words of a clause's line

  pub clause-words : (w : List ℕ) → w ∈ (map spelling (literals_of n c) ++ ascii "0" ∷ []) → IsWord w
  clause-words =
      each_append IsWord (map spelling (literals_of n c))
      (each_map IsWord spelling (literals_of n c) (λ l m. number_word (spelling l) (spelling-word l)))
      (each_cons IsWord (number_word (ascii "0") zero_word) (each_nil IsWord))

  -- S14: "A zero closes a rule."
  pub clause-tokens : n < 10 ^ 4
      → map token_in (map spelling (literals_of n c) ++ ascii "0" ∷ []) ≡ closed_by0 (literals_of n c)
  unfolding token_in
  clause-tokens few =
      map-append token_in (map spelling (literals_of n c)) (ascii "0" ∷ [])
      ∙ ap (λ l. l ++ close ∷ []) (map-map token_in spelling (literals_of n c)
      ∙ map_ext (λ l. token_in (spelling l)) literal (literals_of n c) (λ l m. let i = literals_within l m in
      token_spelled l i.low (omega (arith, i.high, few))))
