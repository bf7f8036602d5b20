-- Laws of the test of a level: the best of points grows by one point at a time, and so do the numbers found. Assumes
-- nothing.
use Rattle.std.specs.Prelude.{Option, None, Some, true, List, [], ◌∷◌, ◌++◌, ◌≡◌, refl, length, set, take, drop}
use Rattle.std.proofs.Math.Bool.{false}
use Rattle.std.proofs.Common.{true≢false, sym, ◌∙◌, subst, le_refl, le_trans, le_of_eq, le_of_lt, le_antisymm, add-one, drop_of_length-le, length-take-le, take-suc, get_or-set_same, get_or-set_other, ltb-false}
use mathlib.Core.List.Memᴰ
use Rattle.std.proofs.Math.Path.{ap, ap₂}
use Prim.Native.Nat.{ℕ, zero, suc, ◌+◌, ◌-◌, ◌≤◌, ◌<◌}
use Rattle.std.proofs.Math.Decide.{dec_lt}
use native.Mathlib.Omega.{arith}
use Rattle.std.proofs.Math.Dec.{ltb}
use Rattle.std.proofs.Math.ListN.{get_or}
use Rattle.std.proofs.lemmas.List.{drop-append-le}
use Rattle.math.specs.Lists.{◌∈◌}
use Rattle.math.specs.Laws.QueueLaws.{each_snoc, last_in}
use Rattle.points.specs.Laws.PointLaws.{none_first}
use Rattle.points.specs.Points.{Clause, numbered, SatisfiesAll, number_of}
use Rattle.search_level.specs.Laws.NumberLaws.{number_none}
use Rattle.search_level.specs.Laws.Testing.{number_for, between, opens_at, Best, Better, NumberFound, Scans, Found}
use Rattle.search_level.specs.Laws.Testing.{Tests}

-- ---- one more point

-- it falsifies a clause: the best stays
pub better_falsified : (b : Option ℕ) (y number : ℕ) → (number ≡ 0 → ⊥) → Better b y number b
unfolding number_of
better_falsified b y number ne clauses l e best = by b best
  where
    fails : SatisfiesAll (numbered clauses) y → ⊥
    fails s = ne (e ∙ ap number_of (none_first (numbered clauses) y s))

    by : (b : Option ℕ) → Best clauses l b → Best clauses (l ++ y ∷ []) b
    by (Some x) best =
        record {
          among = Memᴰ.append_left (y ∷ []) best.among;
          satisfying = best.satisfying;
          least = each_snoc (λ z. SatisfiesAll (numbered clauses) z → x ≤ z) l best.least (λ s. absurd (fails s));
        }
    by None best = each_snoc (λ z. SatisfiesAll (numbered clauses) z → ⊥) l best fails

-- it is larger: the best stays
pub better_larger : (b : Option ℕ) (x y number : ℕ) → b ≡ Some x → x < y → Better b y number (Some x)
better_larger b x y number same less clauses l e best₀ =
    let best = subst (Best clauses l) same best₀ in
    record {
      among = Memᴰ.append_left (y ∷ []) best.among;
      satisfying = best.satisfying;
      least = each_snoc (λ z. SatisfiesAll (numbered clauses) z → x ≤ z) l best.least (λ s. le_of_lt less);
    }

-- no best, or one that is no smaller than y
abbrev pub NoneSmaller : Option ℕ → ℕ → Type 0
NoneSmaller (Some x) y = y ≤ x
NoneSmaller None y = Unit {0}

-- it satisfies and none is smaller: it is the best
pub better_new : (b b' : Option ℕ) (y number : ℕ) → number ≡ 0 → b ≡ b' → NoneSmaller b' y → Better b y number (Some y)
better_new b b' y number z same smaller clauses l e best =
    record {
      among = last_in l y;
      satisfying = number_none y clauses number e z;
      least = each_snoc (λ v. SatisfiesAll (numbered clauses) v → y ≤ v) l
          (by b' smaller (subst (Best clauses l) same best)) (λ s. le_refl y);
    }
  where
    by : (b : Option ℕ) → NoneSmaller b y → Best clauses l b → (v : ℕ) → v ∈ l
        → SatisfiesAll (numbered clauses) v → y ≤ v
    by (Some x) smaller best v m s = le_trans smaller (best.least v m s)
    by None smaller best v m s = absurd (best v m s)

-- ---- slot after slot

module _ (clauses : List Clause) (points : List ℕ) (at : ℕ) where
  pub scans_begin : (found : List ℕ) → at ≤ length points → Scans clauses points at at None found
  scans_begin found enough =
      record {
        best = λ y m s. Memᴰ.not-nil (subst (λ l. y ∈ l) none m);
        numbers = λ k lo hi. absurd (let z : ⊥ = omega arith in z);
      }
    where
      none : between at at points ≡ []
      none = drop_of_length-le (take at points) (le_of_eq (length-take-le at points enough))

  module _ {i : ℕ} {b : Option ℕ} {found : List ℕ} (s : Scans clauses points at i b found) (lo : at ≤ i)
      (enough : i < length points) (room : i < length found) where
    -- the point y, of index i, is tested and its number kept
    pub scans_on : {y number : ℕ} {b' : Option ℕ} {after : List ℕ} → y ≡ get_or points i 0
        → number ≡ number_for clauses y → after ≡ set found i number → Better b y number b'
        → Scans clauses points at (i + 1) b' after
    scans_on {y} {number} {b'} {after} read e stored next =
        record {
          best = subst (λ l. Best clauses l b') (sym one_more) (next clauses (between at i points) e s.best);
          numbers = λ k from to. numbers k from to (dec_lt k i);
        }
      where
        one_more : between at (i + 1) points ≡ between at i points ++ y ∷ []
        one_more =
            ap (λ (j : ℕ). drop at (take j points)) (add-one i)
            ∙ ap (drop at) (take-suc points i 0 enough)
            ∙ drop-append-le at (take i points) (get_or points i 0 ∷ [])
            (le_trans lo (le_of_eq (sym (length-take-le i points (le_of_lt enough)))))
            ∙ ap (λ z. between at i points ++ z ∷ []) (sym read)

        numbers : (k : ℕ) → at ≤ k → k < i + 1 → Dec (k < i) → NumberFound clauses points after k
        numbers k from to (yes lt) =
            ap (λ l. get_or l k 0) stored ∙ get_or-set_other found i k number 0 (λ e. let z : ⊥ = omega arith in z)
            ∙ s.numbers k from lt
        numbers k from to (no ge) =
            let same : k ≡ i = omega arith in
            subst (NumberFound clauses points after) (sym same)
            (ap (λ l. get_or l i 0) stored ∙ get_or-set_same found i number 0 room ∙ e ∙ ap (number_for clauses) read)

  pub scans_end : {i filled : ℕ} {b : Option ℕ} {found : List ℕ} → Scans clauses points at i b found
      → i ≤ filled → filled ≤ i → Scans clauses points at filled b found
  scans_end {i} {filled} {b} {found} s up down =
      subst (λ (j : ℕ). Scans clauses points at j b found) (le_antisymm up down) s

-- ---- whether a level is new

module _ (depths : List ℕ) where
  pub opens-first : (at : ℕ) → at ≡ 0 → true ≡ opens_at depths at
  unfolding opens_at
  opens-first at e = ap (opens_at depths) (sym e)

  pub opens_later : (at before depth : ℕ) → (at ≡ 0 → ⊥) → before ≡ get_or depths (at - 1) 0 → depth ≡ get_or depths at 0
      → ltb before depth ≡ opens_at depths at
  unfolding opens_at
  opens_later zero before depth ne b d = absurd (ne refl)
  opens_later (suc j) before depth ne b d = ap₂ ltb (b ∙ ap (λ (i : ℕ). get_or depths i 0) (less j)) d
    where
      less : (j : ℕ) → suc j - 1 ≡ j
      less j = omega arith

-- ---- the level

module _ (clauses : List Clause) (points depths : List ℕ) (at filled : ℕ) where
  pub tests_opened : {b : Option ℕ} {found : List ℕ} → opens_at depths at ≡ true
      → Scans clauses points at filled b found → Tests clauses points depths at filled b found
  tests_opened new s =
      record {
        opened = λ e. s.best;
        unopened = λ e. absurd (true≢false (sym new ∙ e));
        numbers = λ k lo hi d. s.numbers k lo hi;
      }

  -- no slot of the level is left to be tested
  pub tests_unopened : {found : List ℕ} → opens_at depths at ≡ false
      → Found clauses points depths at filled found → Tests clauses points depths at filled None found
  unfolding opens_at
  tests_unopened {found = found} old f =
      record {
        opened = λ e. absurd (true≢false (sym e ∙ old));
        unopened = λ e. refl;
        numbers = λ k lo hi d. by at old f k lo hi d;
      }
    where
      by : (at : ℕ) → opens_at depths at ≡ false → Found clauses points depths at filled found → (k : ℕ) → at ≤ k
          → k < filled → get_or depths k 0 ≤ get_or depths at 0 → NumberFound clauses points found k
      by zero e f k lo hi d = absurd (true≢false e)
      by (suc j) e f k lo hi d = f k j (le_refl (suc j)) lo hi
          (le_trans d (ltb-false (get_or depths j 0) (get_or depths (suc j) 0) e))
