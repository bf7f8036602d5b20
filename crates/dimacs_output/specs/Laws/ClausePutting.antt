-- The loop that puts a clause's literals, variable by variable, lowest first. Assumes nothing.
use Rattle.std.specs.Prelude.{true, ◌||◌, ◌≡◌, refl, ℕ, suc, ◌+◌, ◌*◌, ◌^◌, ◌≤◌, ◌<◌, length}
use mathlib.Core.List.Memᴰ
use mathlib.Core.List.{List, [], ◌∷◌, ◌++◌, flat_map, append_assoc, append-nil}
use Rattle.std.proofs.Math.Path.{sym, ap, subst}
use Rattle.std.proofs.Common.{◌∙◌, le_of_eq, length-append}
use native.Mathlib.Omega.{arith}
use Rattle.math.specs.Bits.{bit, flip, members}
use Rattle.math.specs.Lists.{◌∈◌, below}
use Rattle.math.specs.Laws.BitLaws.{bit-or, flip-lt}
use Rattle.math.specs.Laws.CountLaws.{below_out}
use Rattle.math.specs.Laws.ListLaws.{here, select_out}
use Rattle.math.specs.Laws.SetLaws.{members_next, members_few}
use Rattle.math.specs.Laws.SplitLaws.{flat_map_snoc, length_flat_map_le}
use Rattle.points.specs.Points.{Clause, listed}
use Rattle.points.specs.Laws.Contracts.{NextVariable}
use Rattle.points.specs.Laws.NextLaws.{next_lowest, next_none}
use Rattle.formula.specs.Limits.{max_variables}
use Rattle.formula.specs.Laws.RefusalLaws.{digits_suffice}
use Rattle.text_output.specs.Laws.Putting.{Put, put_none, put_both, put_as}
use Rattle.dimacs_text.specs.Laws.TextParts.{variable_part, clause_end, clause_part}
use Rattle.dimacs_text.proofs.ClauseLines.{clause-parts}
use Rattle.dimacs_text.specs.Laws.LengthLaws.{longest_variable, variable-length}

-- the variables `taken` are put, those of `left` are to come, and v is the lowest of these
pub record PuttingClause (n : ℕ) (c : Clause) (at : ℕ) (out₀ : List ℕ) (left v place : ℕ) (out : List ℕ) : Type 0 where
  pub next : NextVariable left v
  pub within : left < 2 ^ n
  pub long : length out ≡ length out₀
  pub taken : List ℕ
  pub split : members n (listed c) ≡ taken ++ members n left
  pub texts : Put at (flat_map (variable_part c) taken) out₀ place out

module _ (n : ℕ) (c : Clause) (at : ℕ) (out₀ : List ℕ) where
  -- before the first turn none is put
  pub putting_begins : {left v : ℕ} → left ≡ listed c → listed c < 2 ^ n → NextVariable left v
      → PuttingClause n c at out₀ left v at out₀
  unfolding flat_map
  putting_begins e within next =
      record {
        next = next;
        within = subst (λ s. s < 2 ^ n) (sym e) within;
        long = refl;
        taken = [];
        split = ap (members n) (sym e);
        texts = put_none at out₀;
      }

  module _ (few : n ≤ max_variables) {left v place : ℕ} {out : List ℕ} (p : PuttingClause n c at out₀ left v place out)
    where
      -- after the last turn all are put
      pub putting_ends : n ≤ v → Put at (flat_map (variable_part c) (members n (listed c))) out₀ place out
      putting_ends all =
          put_as (ap (flat_map (variable_part c)) (sym (p.split
          ∙ ap (λ l. p.taken ++ l) (next_none n left v (digits_suffice few) p.next p.within all)
          ∙ append-nil p.taken))) p.texts

      -- within what n variables can take
      pub put_within : n ≤ v → place ≤ at + n * longest_variable
      unfolding members
      put_within all =
          let whole = putting_ends all in
          omega (
            arith,
            whole.behind,
            length_flat_map_le (variable_part c) longest_variable (members n (listed c)) (λ i m. variable-length c i
                (let lt : i < n = below_out n i (select_out (bit (listed c)) (below n) m).0 in omega arith)),
            members_few n (listed c),
          )

      module _ (more : v < n) where
        rest : members n left ≡ v ∷ members n (flip left v)
        rest = members_next n left v (next_lowest n left v (digits_suffice few) p.next more) more

        split_next : members n (listed c) ≡ p.taken ++ v ∷ members n (flip left v)
        split_next = p.split ∙ ap (λ l. p.taken ++ l) rest

        member_out : (i : ℕ) → i ∈ members n (listed c) → (i < n) × (bit (listed c) i ≡ true)
        unfolding members
        member_out i m = let w = select_out (bit (listed c)) (below n) m in (below_out n i w.0, w.1)

        -- the clause lists the variable that comes next
        pub next_listed : bit c.positive v || bit c.negative v ≡ true
        unfolding listed
        next_listed =
            let m : v ∈ (p.taken ++ v ∷ members n (flip left v)) =
            Memᴰ.append_right p.taken (here v (members n (flip left v))) in
            sym (bit-or c.positive c.negative v)
            ∙ (member_out v (subst (λ l. v ∈ l) (sym split_next) m)).1

        -- and there is room for it where there is for all that n variables can take
        pub variable_room : place + longest_variable ≤ at + n * longest_variable
        variable_room =
            omega (
              arith,
              p.texts.behind,
              length_flat_map_le (variable_part c) longest_variable p.taken (λ i m. variable-length c i
                  (let lt = (member_out i (subst (λ l. i ∈ l) (sym split_next) (Memᴰ.append_left _ m))).0 in
                  omega arith)),
              ap length split_next,
              length-append p.taken (v ∷ members n (flip left v)),
              members_few n (listed c),
            )

        module _ {left' : ℕ} (without : left' ≡ flip left v) where
          pub putting_less : length (members n left') < length (members n left)
          putting_less = le_of_eq (ap (λ t. suc (length (members n t))) without ∙ sym (ap length rest))

          -- a turn puts the lowest variable that is left
          pub putting_goes_on : {v' r : ℕ} {out₁ : List ℕ} → NextVariable left' v'
              → Put place (variable_part c v) out r out₁ → length out₁ ≡ length out → PuttingClause n c at out₀ left' v' r out₁
          putting_goes_on next q same =
              record {
                next = next;
                within = subst (λ t. t < 2 ^ n) (sym without) (flip-lt n left v p.within more);
                long = same ∙ p.long;
                taken = p.taken ++ v ∷ [];
                split = split_next ∙ sym (append_assoc p.taken (v ∷ []) (members n (flip left v)))
                    ∙ ap (λ t. (p.taken ++ v ∷ []) ++ members n t) (sym without);
                texts = put_as (sym (flat_map_snoc (variable_part c) p.taken v)) (put_both p.texts q);
              }

  -- the end of the line behind them
  pub clause_put : {place r : ℕ} {out out₁ : List ℕ}
      → Put at (flat_map (variable_part c) (members n (listed c))) out₀ place out → Put place clause_end out r out₁
      → Put at (clause_part n c) out₀ r out₁
  clause_put p q = put_as (sym (clause-parts n c)) (put_both p q)
