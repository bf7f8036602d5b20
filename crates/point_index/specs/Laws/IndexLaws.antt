-- Laws of an index in lists: the empty one, what a look-up's end tells, and the points and links after one more.
-- Assumes nothing.
use Rattle.std.specs.Prelude.{Bool, true, false, cond, List, [], ◌∷◌, ◌++◌, ◌≡◌, refl, ℕ, suc, ◌+◌, ◌*◌, ◌-◌, ◌^◌, ◌≤◌, ◌<◌, eqb, length, take, set, replicate}
use Rattle.std.proofs.Common.{true≢false, sym, ap, ◌∙◌, subst, le_trans, le_of_eq, not-suc-le-zero, add-one, arith, length-set, length-take-le, take-suc-set, get_or-set_same, get_or-set_other, eq-eqb, ne_eqb, eqb-true}
use Rattle.std.proofs.Math.Decide.{dec_lt}
use Rattle.std.proofs.lemmas.List.{length-replicate, get_or-replicate, take-set-le}
use Rattle.std.proofs.Math.ListN.{get_or-append, get_or-eq_default}
use Rattle.std.proofs.Math.Seq.{get_or-append_seam}
use Rattle.std.proofs.lemmas.Bool.{eqb-false}
use Rattle.math.specs.Bits.{bit}
use Rattle.math.specs.Laws.ListLaws.{get_d_in, in_get_d, has_in, in_has, not-true-false}
use Rattle.math.specs.Lists.{◌∈◌, has}
use Rattle.math.specs.Laws.QueueLaws.{length_snoc}
use Rattle.math.specs.Laws.ScanLaws.{get_d_prefix}
use Rattle.point_index.specs.Laws.Index.{HasHeads, head_of, child_of, entry, Indexes, Indexed}
use Rattle.point_index.specs.Laws.Looking.{AllZero, Looking, Seeking, Askable, Addable, Ends, Adds}
use Rattle.point_index.specs.Laws.TreeLaws.{looking_begins, looking_ends, looking_meets, looking_less}
use Rattle.point_index.specs.Laws.TreeLaws.{looking_goes_on, stands_lt, indexes_more}

-- links that are all 0 are an index of no points
pub index_empty : (heads n : ℕ) (links : List ℕ) → HasHeads heads → heads ≤ length links → AllZero links
    → Indexed heads n [] links
index_empty heads n links pos le zeros =
    record {
      headed = pos;
      room = omega arith;
      depth = λ j. 0;
      indexes =
          record {
            stands = λ s j e. let z : ⊥ = apart (entry links s) j (zeros s) e in absurd z;
            finds = λ j lt. absurd (not-suc-le-zero lt);
            narrow = λ j lt. absurd (not-suc-le-zero lt);
          };
    }
  where
    apart : (v j : ℕ) → v ≡ 0 → v ≡ suc j → ⊥
    apart v j z e = omega arith

-- an array of zeros is such links
pub zeros-replicate : (k : ℕ) → AllZero (replicate k 0)
zeros-replicate k s = by (dec_lt s k)
  where
    by : Dec (s < k) → entry (replicate k 0) s ≡ 0
    by (yes lt) = get_or-replicate k s 0 0 lt
    by (no ge) = get_or-eq_default (replicate k 0) 0
        (le_trans (le_of_eq (length-replicate {A = ℕ} k 0)) (omega arith))

-- ---- where a look-up ended

-- the depths with that of one more point
deeper : ℕ → ℕ → (ℕ → ℕ) → ℕ → ℕ
deeper k d depth j = cond (eqb j k) d (depth j)

deeper_new : (k d : ℕ) (depth : ℕ → ℕ) → deeper k d depth k ≡ d
unfolding deeper
deeper_new k d depth = ap (λ (b : Bool). cond b d (depth k)) (eq-eqb k k refl)

deeper_old : (k d : ℕ) (depth : ℕ → ℕ) (j : ℕ) → j < k → deeper k d depth j ≡ depth j
unfolding deeper
deeper_old k d depth j lt = ap (λ (b : Bool). cond b d (depth j)) (ne_eqb j k (λ e. let z : ⊥ = omega arith in z))

module _ {heads n : ℕ} (points links : List ℕ) {x s d : ℕ}
    (l : Looking heads n (length points) (entry points) (entry links) x s d) where
  -- the point met is among the points
  pub ends_held : (j : ℕ) → entry links s ≡ suc j → entry points j ≡ x → true ≡ has x points
  ends_held j e p =
      sym (in_has x (subst (λ (y : ℕ). y ∈ points) p (get_d_in points j 0 (looking_meets l j e))))

  pub ends_free : entry links s ≡ 0 → false ≡ has x points
  ends_free z = sym (not-true-false (has x points) (λ h. let w = in_get_d 0 (has_in x points h) in looking_ends l z
      w.0 w.1 w.2))

  -- the next number at the free link
  pub ends_grows : entry links s ≡ 0 → HasHeads heads → x < 2 ^ n → heads + 2 * suc (length points) ≤ length links
      → Indexed heads n (points ++ x ∷ []) (set links s (suc (length points)))
  ends_grows z pos narrow room =
      record {
        headed = pos;
        room =
            let a : length (points ++ x ∷ []) ≡ suc (length points) = length_snoc points x in
            let b : length (set links s (suc (length points)))
            ≡ length links = length-set links s (suc (length points)) in
            omega arith;
        depth = deeper (length points) d l.depth;
        indexes =
            subst (λ (m : ℕ). Indexes heads n m (entry (points ++ x ∷ [])) (deeper (length points) d l.depth)
            (entry (set links s (suc (length points))))) (sym (length_snoc points x))
            (indexes_more l z narrow (entry (points ++ x ∷ [])) (deeper (length points) d l.depth)
            (entry (set links s (suc (length points))))
            (λ j lt. get_or-append points (x ∷ []) 0 j lt) (get_or-append_seam points x [] 0)
            (deeper_old (length points) d l.depth) (deeper_new (length points) d l.depth)
            (get_or-set_same links s (suc (length points)) 0 within)
            (λ t ne. get_or-set_other links s t (suc (length points)) 0 ne));
      }
    where
      within : s < length links
      within = let lt : s < heads + 2 * length points = stands_lt pos.0 l.stands in omega arith

-- the number that a link which is not 0 names
named : (value : ℕ) → (value ≡ 0 → ⊥) → value ≡ suc (value - 1)
named value some = omega arith

-- ---- a look-up among the first k points: the value read at the link, and the point of its number

module _ {heads n k : ℕ} {points links : List ℕ} {x : ℕ} (a : Askable heads n (take k points) links x) where
  pub seeking_begins : (s value : ℕ) → s ≡ head_of heads x → value ≡ entry links s → value < 4294967296
      → Seeking heads n k points links x s 0 value
  seeking_begins s value e read small =
      record {
        looking =
            subst (λ (u : ℕ). Looking heads n (length (take k points)) (entry (take k points)) (entry links) x u 0)
            (sym e) (looking_begins a.indexed.indexes x);
        read = read;
        small = small;
      }

  module _ {s d value : ℕ} (l : Seeking heads n k points links x s d value) where
    pub seeking_ends : value ≡ 0 → Ends heads n (take k points) links x false s
    seeking_ends z =
        let free = sym l.read ∙ z in
        record {
          tells = ends_free (take k points) links l.looking free;
          free = λ e room. ends_grows (take k points) links l.looking free a.indexed.headed a.narrow room;
        }

    module _ (some : value ≡ 0 → ⊥) where
      names : entry links s ≡ suc (value - 1)
      names = sym l.read ∙ named value some

      known : value - 1 < length (take k points)
      known = looking_meets l.looking (value - 1) names

      -- the links of the point stand within the slice
      pub seeking_within : heads + 2 * (value - 1) + 1 < length links
      seeking_within = let room = a.indexed.room in let lt = known in omega arith

      module _ (y : ℕ) (there : y ≡ entry points (value - 1)) where
        point_met : entry (take k points) (value - 1) ≡ y
        point_met = get_d_prefix points k (value - 1) 0 known ∙ sym there

        other : eqb x y ≡ false → entry (take k points) (value - 1) ≡ x → ⊥
        other e p = eqb-false x y e (sym p ∙ point_met)

        pub seeking_stops : eqb x y ≡ true → Ends heads n (take k points) links x true s
        seeking_stops e =
            record {
              tells = ends_held (take k points) links l.looking (value - 1) names (point_met ∙ sym (eqb-true x y e));
              free = λ f room. absurd (true≢false f);
            }

        pub seeking_less : eqb x y ≡ false → d < n
        seeking_less e = looking_less l.looking a.indexed.headed.0 (value - 1) names a.narrow (other e)

        pub seeking_goes_on : eqb x y ≡ false → (s' value' : ℕ) → s' ≡ child_of heads (value - 1) (bit x d)
            → value' ≡ entry links s' → value' < 4294967296
            → Seeking heads n k points links x s' (d + 1) value'
        seeking_goes_on e s' value' side read small =
            record {
              looking =
                  subst (λ (u : ℕ). Looking heads n (length (take k points)) (entry (take k points)) (entry links) x u
                  (d + 1)) (sym side)
                  (subst (λ (m : ℕ). Looking heads n (length (take k points)) (entry (take k points)) (entry links) x
                  (child_of heads (value - 1) (bit x d)) m) (sym (add-one d))
                  (looking_goes_on l.looking a.indexed.headed.0 (value - 1) names (other e)));
              read = read;
              small = small;
            }

-- ---- an addition behind the first k points

module _ {heads n k : ℕ} {points links : List ℕ} {x s : ℕ} {held : Bool} (a : Addable heads n k points links x)
    (e : Ends heads n (take k points) links x held s) where
  pub adds_none : held ≡ true → Adds heads n (take k points) links x true links
  adds_none h = record { tells = sym h ∙ e.tells; same = λ _. refl; grown = λ f. absurd (true≢false f) }

  pub adds_one : held ≡ false → (links' : List ℕ) → links' ≡ set links s (k + 1)
      → Adds heads n (take k points) links x false links'
  adds_one h links' stored =
      record {
        tells = sym h ∙ e.tells;
        same = λ f. absurd (true≢false (sym f));
        grown = λ _. subst (Indexed heads n (take k points ++ x ∷ [])) (sym (stored ∙ ap (set links s) number))
            (e.free h (subst (λ (m : ℕ). heads + 2 * m ≤ length links) number a.room));
      }
    where
      number : k + 1 ≡ suc (length (take k points))
      number = add-one k ∙ ap suc (sym (length-take-le k points a.enough))

-- ---- the points held, as the caller changes the slice

-- a store behind the first k points leaves them
pub index_other : (heads n k : ℕ) (points links : List ℕ) (i y : ℕ) → k ≤ i → Indexed heads n (take k points) links
    → Indexed heads n (take k (set points i y)) links
index_other heads n k points links i y le t = subst (λ (l : List ℕ). Indexed heads n l links)
    (sym (take-set-le k points i y le)) t

-- the point added, stored behind them, is one of the first k + 1
pub index_stored : (heads n k : ℕ) (points links : List ℕ) (x : ℕ) → k < length points
    → Indexed heads n (take k points ++ x ∷ []) links → Indexed heads n (take (k + 1) (set points k x)) links
index_stored heads n k points links x lt t = subst (λ (l : List ℕ). Indexed heads n l links)
    (sym (ap (λ (j : ℕ). take j (set points k x)) (add-one k) ∙ take-suc-set points k x lt)) t
