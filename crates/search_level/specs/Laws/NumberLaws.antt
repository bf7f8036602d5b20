-- The number of the first falsified clause leads back to the clause; 0 says that there is none. Assumes nothing.
use Rattle.std.specs.Prelude.{Bool, true, false, cond, ◌≡◌}
use mathlib.Core.List.{List, [], ◌∷◌}
use Rattle.std.proofs.Math.Option.{Option, some, none, none-ne-some}
use Rattle.std.proofs.Math.Path.{refl, ap}
use Rattle.std.proofs.Common.{sym, ◌∙◌, subst, le_refl}
use Prim.Native.Nat.{ℕ, suc, ◌-◌, ◌≤◌}
use native.Mathlib.Omega.{arith}
use Rattle.std.proofs.Math.ListN.{get_or}
use Rattle.points.specs.Laws.PointLaws.{first_sound, first-none}
use Rattle.points.specs.Points.{Clause, satisfies, Numbered, numbered_from, numbered, SatisfiesAll, FirstFalsified}
use Rattle.points.specs.Points.{empty_clause}
use Rattle.points.specs.Points.{first_falsified, number_of}

-- the clause c of those numbered from k on: it stands where its number says
pub record Placed (k : ℕ) (cs : List Clause) (c : Numbered) : Type 0 where
  pub low : k ≤ c.number
  pub place : c.clause ≡ get_or cs (c.number - k) empty_clause

module _ (x : ℕ) where
  pub found_at : (k : ℕ) (cs : List Clause) (c : Numbered) → first_falsified (numbered_from k cs) x ≡ some c
      → Placed k cs c
  unfolding first_falsified numbered_from
  found_at k [] c h = absurd (none-ne-some c h)
  found_at k (d ∷ cs) c h = by (satisfies d x) h (found_at (suc k) cs c)
    where
      further : Placed (suc k) cs c → Placed k (d ∷ cs) c
      further f =
          let one : c.number - k ≡ suc (c.number - suc k) = omega (arith, f.low) in
          record { low = omega (arith, f.low); place = f.place ∙ ap (λ i. get_or (d ∷ cs) i empty_clause) (sym one) }

      by : (b : Bool) → cond b (first_falsified (numbered_from (suc k) cs) x) (some (record { number = k; clause = d }))
          ≡ some c
          → (first_falsified (numbered_from (suc k) cs) x ≡ some c → Placed (suc k) cs c) → Placed k (d ∷ cs) c
      by true h ih = further (ih h)
      by false h ih =
          let e : record { number = k; clause = d } ≡ c = cc in
          subst (Placed k (d ∷ cs)) e (record {
            low = le_refl k;
            place = ap (λ i. get_or (d ∷ cs) i empty_clause) (zero k);
          })
        where
          zero : (k : ℕ) → 0 ≡ k - k
          zero k = omega arith

  module _ (cs : List Clause) (k : ℕ) (e : k ≡ number_of (first_falsified (numbered cs) x)) where
    pub number_none : k ≡ 0 → SatisfiesAll (numbered cs) x
    unfolding number_of
    number_none z = by (first_falsified (numbered cs) x) refl e
      where
        by : (o : Option Numbered) → first_falsified (numbered cs) x ≡ o → k ≡ number_of o → SatisfiesAll (numbered cs) x
        by none f q = first-none (numbered cs) x f
        by (some c) f q = let w = (found_at 1 cs c f).low in let n : ⊥ = omega arith in absurd n

    pub number_found : (k ≡ 0 → ⊥) → (c : Numbered) × FirstFalsified (numbered cs) x c × (k ≡ c.number)
        × (c.clause ≡ get_or cs (k - 1) empty_clause)
    unfolding number_of
    number_found ne = by (first_falsified (numbered cs) x) refl e
      where
        by : (o : Option Numbered) → first_falsified (numbered cs) x ≡ o → k ≡ number_of o
            → (c : Numbered) × FirstFalsified (numbered cs) x c × (k ≡ c.number)
            × (c.clause ≡ get_or cs (k - 1) empty_clause)
        by none f q = absurd (ne q)
        by (some c) f q = (
          c,
          first_sound (numbered cs) x c f,
          q,
          (found_at 1 cs c f).place
              ∙ ap (λ i. get_or cs (i - 1) empty_clause) (sym q),
        )
