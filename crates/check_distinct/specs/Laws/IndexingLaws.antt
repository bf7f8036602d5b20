-- Laws of tests of points that index them: the test of one point, the loop over all, row 16, and arrays of links.
-- Assumes nothing.
use Rattle.std.specs.Prelude.{Bool, true, false, not, ◌&&◌, List, [], ◌∷◌, ◌++◌, ◌≡◌, ℕ, ◌+◌, ◌*◌, ◌^◌, ◌≤◌, ◌<◌, leb, ltb, eqb, length, get_or, take, replicate}
use Rattle.std.proofs.Common.{true≢false, sym, ap, ◌∙◌, subst, le_antisymm, le_of_eq, add-one, arith, take-suc, length-take-le, leb-true, ltb-true, eqb-true}
use Rattle.std.proofs.lemmas.List.{length-replicate}
use Rattle.std.proofs.lemmas.Bool.{not-true}
use Rattle.formula.specs.Laws.RefusalLaws.{digits_suffice}
use Rattle.math.specs.Laws.ListLaws.{and_split}
use Rattle.math.specs.Lists.{◌∈◌, below, Distinct}
use Rattle.math.specs.Laws.PartLaws.{all_passing_below}
use Rattle.math.specs.Laws.ScanLaws.{failing_begins, below_ends, below_stops, below_goes_on}
use Rattle.formula.specs.Limits.{max_slots}
use Rattle.formula.specs.Reply.{Fault, fault, fault_at}
use Rattle.formula.specs.Laws.ReplyLaws.{fault_not-none, fault_at-none}
use Rattle.certificate.specs.Laws.RowLaws.{no_point, over_limit, counted, passes_new, fails_bit, points_pass}
use Rattle.certificate.specs.Laws.RowLaws.{point_passes-take}
use Rattle.certificate.specs.Rows.{point_passes, points_fault}
use Rattle.point_index.specs.Laws.Index.{Indexed}
use Rattle.point_index.specs.Laws.IndexLaws.{index_empty, zeros-replicate}
use Rattle.point_index.specs.Laws.Looking.{Addable, Adds}
use Rattle.check_distinct.specs.Laws.Indexing.{Growable, Grows, Indexable, Sifting, Sifts, Refuses, Counted}
use Rattle.check_distinct.specs.Laws.Indexing.{Links, suits}

-- ---- the test of one point

module _ {heads n i : ℕ} {points links : List ℕ} (g : Growable heads n i points links) (x : ℕ)
    (at : x ≡ get_or points i 0) (small : Bool) (test : small ≡ ltb x (2 ^ n)) where
  pub grow_addable : small ≡ true → Addable heads n i points links x
  grow_addable inside =
      let lt = g.enough in
      record {
        askable = record {
          few = digits_suffice g.few;
          indexed = g.indexed;
          narrow = ltb-true x (2 ^ n) (sym test
              ∙ inside);
        };
        enough = omega arith;
        small = g.small;
        room = g.room;
      }

  pub grow_tested : small ≡ true → (repeated : Bool) (links' : List ℕ)
      → Adds heads n (take i points) links x repeated links' → Grows heads n i points (not repeated) links'
  grow_tested inside repeated links' a =
      record {
        tells = passes_new n points i x at small test inside repeated a.tells;
        grown = λ h. subst (λ (l : List ℕ). Indexed heads n l links') (sym more) (a.grown (not-true repeated h));
      }
    where
      more : take (i + 1) points ≡ take i points ++ x ∷ []
      more = ap (λ (j : ℕ). take j points) (add-one i) ∙ take-suc points i 0 g.enough
          ∙ ap (λ (y : ℕ). take i points ++ y ∷ []) (sym at)

  pub grow_fails : small ≡ false → Grows heads n i points false links
  grow_fails out = record { tells = fails_bit n points i x at small test out; grown = λ h. absurd (true≢false (sym h)) }

-- ---- the loop over the points

module _ {heads n count : ℕ} {points links₀ : List ℕ} (p : Indexable heads n count points links₀) where
  pub sifting_begins : Sifting heads n count points links₀ 0
  sifting_begins =
      let room = p.room in
      record {
        indexed = index_empty heads n links₀ p.headed (omega arith) p.zeros;
        room = room;
        most = omega arith;
        decides = failing_begins (point_passes n points) (below count) 0;
      }

  module _ {links : List ℕ} {i : ℕ} (s : Sifting heads n count points links i) where
    pub sifting_growable : i < count → Growable heads n i points links
    sifting_growable lt =
        let enough = p.enough in
        let small = p.small in
        let room = s.room in
        record { few = p.few; indexed = s.indexed; enough = omega arith; small = omega arith; room = omega arith }

    module _ (lt : i < count) (passes : Bool) (links' : List ℕ) (g : Grows heads n i points passes links') where
      pub sifting_stops : passes ≡ false → Sifts heads n count points (i + 1) links'
      sifting_stops e =
          record {
            tells = sym (s.decides ∙ below_stops (point_passes n points) count i lt (sym g.tells ∙ e));
            full = λ z. let w : ⊥ = omega arith in absurd w;
          }

      pub sifting_goes_on : passes ≡ true → length links' ≡ length links → Sifting heads n count points links' (i + 1)
      sifting_goes_on e same =
          let room = s.room in
          record {
            indexed = g.grown e;
            room = omega arith;
            most = omega arith;
            decides = s.decides ∙ below_goes_on (point_passes n points) count i lt (sym g.tells ∙ e);
          }

    pub sifting_ends : count ≤ i → Sifts heads n count points 0 links
    sifting_ends ge =
        record {
          tells = sym (s.decides ∙ below_ends (point_passes n points) count i ge);
          full = λ _. subst (λ (k : ℕ). Indexed heads n (take k points) links) (le_antisymm s.most ge) s.indexed;
        }

-- different points of n digits are all indexed
pub sifts_full : {heads n count : ℕ} {points : List ℕ} {k : ℕ} {links : List ℕ} → count ≤ length points
    → ((x : ℕ) → x ∈ take count points → x < 2 ^ n) → Distinct (take count points)
    → Sifts heads n count points k links → Indexed heads n (take count points) links
sifts_full {n = n} {count = count} {points = points} enough narrow distinct s = s.full
    (s.tells ∙ all_passing_below (point_passes n points) count each)
  where
    each : (i : ℕ) → i < count → point_passes n points i ≡ true
    each i lt =
        sym (point_passes-take n points count i lt)
        ∙ points_pass n (take count points) narrow distinct i
        (subst (λ (j : ℕ). i < j) (sym (length-take-le count points enough)) lt)

-- ---- row 16

module _ {heads n count limit : ℕ} {points : List ℕ} (links : List ℕ) where
  pub refuses_none : count < 1 → Refuses heads n count limit points (fault 16 0) links
  refuses_none h = record { tells = no_point limit n count points h; full = λ e. absurd (fault_not-none 16 0 e) }

  pub refuses_many : limit < count → Refuses heads n count limit points (fault 16 0) links
  refuses_many h = record { tells = over_limit limit n count points h; full = λ e. absurd (fault_not-none 16 0 e) }

  module _ (some : 1 ≤ count) (few : count ≤ limit) {k : ℕ} (s : Sifts heads n count points k links) where
    -- past the tests of the count the fault is that of the first point which fails
    each : fault_at 16 k ≡ points_fault limit n count points
    each = sym (counted limit n count points some few ∙ ap (fault_at 16) (sym s.tells))

    pub refuses_first : (r : Fault) → r ≡ fault_at 16 k → Refuses heads n count limit points r links
    refuses_first r e = record { tells = e ∙ each; full = λ h. s.full (fault_at-none 16 k (sym e ∙ h)) }

-- ---- links in an array of zeros

pub zeros_links : (heads most k : ℕ) → suits heads most k ≡ true → Links heads most (replicate k 0)
zeros_links heads most k h =
    let outer = and_split (leb 1 heads && leb heads 4294967296 && leb most max_slots) (eqb (heads + 2 * most) k) h in
    let middle = and_split (leb 1 heads && leb heads 4294967296) (leb most max_slots) outer.0 in
    let inner = and_split (leb 1 heads) (leb heads 4294967296) middle.0 in
    record {
      headed = (leb-true 1 heads inner.0, leb-true heads 4294967296 inner.1);
      most_slots = leb-true most max_slots middle.1;
      room = le_of_eq (eqb-true (heads + 2 * most) k outer.1 ∙ sym (length-replicate {A = ℕ} k 0));
      zeros = zeros-replicate k;
    }

-- points for which there is room can be indexed
pub links_indexable : {heads most n count : ℕ} {points links : List ℕ} → Links heads most links
    → Counted most n count points → Indexable heads n count points links
links_indexable l c =
    let room = l.room in
    let under = c.most in
    let few = l.most_slots in
    record {
      few = c.few;
      headed = l.headed;
      enough = c.enough;
      small = omega arith;
      room = omega arith;
      zeros = l.zeros;
    }

-- no more points are counted than there are
pub counted_all : {room n limit count : ℕ} {points : List ℕ} → Counted room n limit points → count ≤ limit
    → length points < count → ⊥
counted_all c fits past = let enough = c.enough in omega arith
