-- Laws of row 18: the set of a numbered clause's variables, the loop over it, and which entries of the lists the row
-- looks at. Assumes nothing.
use Rattle.std.specs.Prelude.{Bool, true, false, ◌&&◌, ◌≡◌, refl, ℕ, suc, ◌+◌, ◌≤◌, ◌<◌, ◌^◌, length, get_or, take}
use mathlib.Core.List.{List, ◌∷◌, map}
use Rattle.std.proofs.Math.Option.{Option, some, none}
use Rattle.std.proofs.Math.Path.{sym, ap, ap₂}
use Rattle.std.proofs.Common.{◌∙◌, subst, le_of_eq, pow_pos, get_or-take, length-take-le}
use Rattle.std.proofs.lemmas.Nat.{or_lt}
use Rattle.formula.specs.Laws.RefusalLaws.{digits_suffice}
use Rattle.permutation_images.specs.declared.Permutations.{Permutations}
use Rattle.point_index.specs.declared.Index.{Index}
use Rattle.point_slices.specs.Slices.{points_of}
use Rattle.math.specs.Laws.BitLaws.{flip-lt}
use Rattle.math.specs.Bits.{flip, members}
use Rattle.math.specs.Lists.{all, first_failing, below}
use Rattle.math.specs.Laws.PartLaws.{index_some, index_none, same_failing_below}
use Rattle.math.specs.Laws.SetLaws.{members_next, members-none}
use Rattle.points.specs.Laws.Contracts.{NextVariable}
use Rattle.points.specs.Laws.NextLaws.{next_lowest, next_none}
use Rattle.points.specs.Points.{point_digits, Clause, Numbered, listed, variables, numbered, empty_clause}
use Rattle.point_theory.specs.Laws.Notions.{ClausesBelow}
use Rattle.permutation_theory.specs.Permutations.{Permutation, covered}
use Rattle.permutation_coverage.specs.Laws.Coverage.{Permuting, Imaged, Coverable, Staying}
use Rattle.formula.specs.Reply.{fault_at}
use Rattle.certificate.specs.Laws.RowLaws.{clause_found}
use Rattle.certificate.specs.Rows.{clause_numbered}
use Rattle.check_falsified.specs.Laws.FalsifiedLaws.{numbered-at, numbered_below}
use Rattle.check_flips.specs.Flips.{flips_of, flips_pass, flips_fault}
use Rattle.check_flips.specs.Laws.Loops.{listed_by, all_flips, Testable, Follows, Flipping}

-- ---- the variables of the clause of a number

module _ (cs : List Clause) where
  pub listed-none : (k : ℕ) → k < 1 → ◌≡◌ {A = ℕ} 0 (listed_by (clause_numbered (numbered cs) k))
  unfolding listed_by
  listed-none k h = sym (ap listed_by (numbered_below 1 cs k h))

  pub listed_past : (k i : ℕ) → k ≡ 1 + i → length cs ≤ i → ◌≡◌ {A = ℕ} 0 (listed_by (clause_numbered (numbered cs) k))
  unfolding listed_by
  listed_past k i e h = sym (ap (λ (j : ℕ). listed_by (clause_numbered (numbered cs) j)) e
      ∙ ap listed_by (numbered-at 1 cs i ∙ index_none cs i h))

  pub listed_at : (k i : ℕ) → k ≡ 1 + i → i < length cs
      → listed (get_or cs i empty_clause) ≡ listed_by (clause_numbered (numbered cs) k)
  unfolding listed_by
  listed_at k i e h = sym (ap (λ (j : ℕ). listed_by (clause_numbered (numbered cs) j)) e
      ∙ ap listed_by (numbered-at 1 cs i ∙ index_some cs i empty_clause h))

-- a clause of a formula lists none but the variables below n
pub listed_within : (n : ℕ) (cs : List Numbered) → ClausesBelow n cs → (k : ℕ) → listed_by (clause_numbered cs k) < 2 ^ n
unfolding listed_by listed
listed_within n cs b k = by (clause_numbered cs k) refl
  where
    by : (o : Option Clause) → clause_numbered cs k ≡ o → listed_by o < 2 ^ n
    by none e = pow_pos n
    by (some c) e =
        let w = clause_found cs k c e in
        let own = b w.0 w.1 in
        subst (λ (d : Clause). listed d < 2 ^ n) w.3
        (or_lt n w.0.clause.positive w.0.clause.negative own.positive-below own.negative-below)

-- the flips of a point by its clause are those by the set of its variables
pub flips-listed : (t : ℕ → Bool) (n : ℕ) (o : Option Clause) (x : ℕ)
    → all t (flips_of n o x) ≡ all_flips t n x (listed_by o)
unfolding flips_of listed_by variables
flips-listed t n none x = sym (ap (λ (vs : List ℕ). all t (map (flip x) vs)) (members-none n))
flips-listed t n (some c) x = refl

-- ---- the loop over the variables of a set

module _ (t : ℕ → Bool) (n x s : ℕ) (few : n ≤ point_digits) where
  pub flipping_begins : (v : ℕ) → s < 2 ^ n → NextVariable s v → Flipping t n x s s v
  flipping_begins v lt next = record { within = lt; next = next; decides = refl }

  module _ {left v : ℕ} (f : Flipping t n x s left v) where
    -- the variables left: v first
    first : v < n → members n left ≡ v ∷ members n (flip left v)
    first lt = members_next n left v (next_lowest n left v few f.next lt) lt

    turn : v < n → all_flips t n x s ≡ t (flip x v) && all_flips t n x (flip left v)
    unfolding all
    turn lt = f.decides ∙ ap (λ (vs : List ℕ). all t (map (flip x) vs)) (first lt)

    pub flipping_less : (left' : ℕ) → v < n → left' ≡ flip left v → length (members n left') < length (members n left)
    flipping_less left' lt q = le_of_eq (ap (λ (y : ℕ). suc (length (members n y))) q ∙ sym (ap length (first lt)))

    pub flipping_stops : v < n → t (flip x v) ≡ false → false ≡ all_flips t n x s
    flipping_stops lt e = sym (turn lt ∙ ap (λ (b : Bool). b && all_flips t n x (flip left v)) e)

    pub flipping_goes_on : {v' : ℕ} → v < n → t (flip x v) ≡ true → (left' : ℕ) → left' ≡ flip left v
        → NextVariable left' v' → Flipping t n x s left' v'
    flipping_goes_on {v'} lt e left' q next =
        subst (λ (y : ℕ). Flipping t n x s y v') (sym q)
        (record {
          within = flip-lt n left v f.within lt;
          next = subst (λ (y : ℕ). NextVariable y v') q next;
          decides = turn lt ∙ ap (λ (b : Bool). b && all_flips t n x (flip left v)) e;
        })

    pub flipping_ends : n ≤ v → true ≡ all_flips t n x s
    unfolding all
    flipping_ends ge = sym (f.decides
        ∙ ap (λ (vs : List ℕ). all t (map (flip x) vs)) (next_none n left v few f.next f.within ge))

-- ---- what can be looked up

module _ {g : Permutations} {clauses : List Clause} {index : Index} (t : Testable g clauses index) where
  pub tested-permuting : Permuting g.variables g.count g.images.now
  tested-permuting = record {
    few = digits_suffice
        t.given.few;
    listed = t.given.listed;
    proper = t.given.proper;
  }

  -- an indexed point has n digits
  pub tested_narrow : (i : ℕ) → i < index.count → get_or (points_of index.points.now) i 0 < 2 ^ g.variables
  tested_narrow i lt =
      let points = points_of index.points.now in
      subst (λ (y : ℕ). y < 2 ^ g.variables) (get_or-take index.count points i 0 lt)
      (t.indexed.indexes.narrow i
      (subst (λ (m : ℕ). i < m) (sym (length-take-le index.count points t.enough)) lt))

  -- the flips of a point that is indexed
  pub tested_follows : (i x : ℕ) → x ≡ get_or (points_of index.points.now) i 0 → i < index.count
      → {seen : ℕ} {stay moved : List ℕ} → Staying g.variables g.count g.images.now stay
      → Imaged g.variables g.count g.images.now seen moved → Follows g index stay moved seen x
  tested_follows i x at lt sets known =
      record {
        askable = record {
          few = digits_suffice t.given.few;
          indexed = t.indexed;
          narrow = subst (λ (y : ℕ). y < 2 ^ g.variables) (sym at) (tested_narrow i lt);
        };
        permuting = tested-permuting;
        staying = sets;
        imaged = known;
      }

module _ {g : Permutations} {index : Index} {stay moved₀ : List ℕ} {seen x : ℕ} (f : Follows g index stay moved₀ seen x) where
  -- where the images are those of x itself, its images can be looked up too
  pub follows_covers : {moved : List ℕ} → Imaged g.variables g.count g.images.now x moved
      → Coverable index.heads g.variables index.count (points_of index.points.now) index.links.now g.count g.images.now moved
      x
  follows_covers known = record { askable = f.askable; permuting = f.permuting; imaged = known.imaged }

  -- the images may be those of another point
  pub follows_on : {at : ℕ} {moved : List ℕ} → Imaged g.variables g.count g.images.now at moved
      → Follows g index stay moved at x
  follows_on known = record { askable = f.askable; permuting = f.permuting; staying = f.staying; imaged = known }

-- ---- the test of one point, and the row

module _ (n : ℕ) (cs : List Numbered) (es : List Permutation) where
  -- the test of the point of an index, from its point and its clause's variables
  pub flips_passed : (points falsified : List ℕ) (count i x s : ℕ) → i < count → x ≡ get_or points i 0
      → s ≡ listed_by (clause_numbered cs (get_or falsified i 0))
      → all_flips (covered es (take count points)) n x s ≡ flips_pass n cs es (take count points) falsified i
  unfolding flips_pass
  flips_passed points falsified count i x s lt at set =
      ap₂ (all_flips (covered es (take count points)) n) (at ∙ sym (get_or-take count points i 0 lt)) set
      ∙ sym (flips-listed (covered es (take count points)) n (clause_numbered cs (get_or falsified i 0))
      (get_or (take count points) i 0))

  -- the same, from what a test of it told
  pub flips_told : (points falsified : List ℕ) (count i x k s : ℕ) → i < count → x ≡ get_or points i 0
      → k ≡ get_or falsified i 0 → s ≡ listed_by (clause_numbered cs k) → (passes : Bool)
      → passes ≡ all_flips (covered es (take count points)) n x s
      → flips_pass n cs es (take count points) falsified i ≡ passes
  flips_told points falsified count i x k s lt at named set passes told =
      sym (told ∙ flips_passed points falsified count i x s lt at
      (set ∙ ap (λ (j : ℕ). listed_by (clause_numbered cs j)) named))

  -- the row, of so many points
  pub flips_row : (points falsified : List ℕ) (count : ℕ) → length points ≡ count
      → fault_at 18 (first_failing (flips_pass n cs es points falsified) (below count))
      ≡ flips_fault n cs es points falsified
  unfolding flips_fault
  flips_row points falsified count e = ap (λ (k : ℕ). fault_at 18
      (first_failing (flips_pass n cs es points falsified) (below k))) (sym e)

  -- it looks at as many numbers as there are points
  pub flips_fault-take : (points falsified : List ℕ) (count : ℕ) → length points ≡ count
      → flips_fault n cs es points (take count falsified) ≡ flips_fault n cs es points falsified
  unfolding flips_fault flips_pass
  flips_fault-take points falsified count e =
      ap (fault_at 18) (same_failing_below (flips_pass n cs es points (take count falsified))
      (flips_pass n cs es points falsified) (length points) (λ i lt.
      ap (λ (k : ℕ). all (covered es points) (flips_of n (clause_numbered cs k) (get_or points i 0)))
      (get_or-take count falsified i 0 (subst (λ (k : ℕ). i < k) e lt))))
