-- The invariants of the search hold at the start, and one more slot or a processed one keeps them. Assumes nothing.
use mathlib.Core.List.Memᴰ
use Rattle.std.specs.Prelude.{List, [], ◌∷◌, ◌++◌, map, ◌≡◌, refl, ℕ, zero, suc, ◌≤◌, ◌<◌, ◌^◌, length}
use Rattle.std.proofs.Common.{append_assoc, sym, ap, ◌∙◌, subst, zero-le, le_refl, le_trans, le_of_eq, lt_of_lt_of_le, zero-add, arith}
use Rattle.std.proofs.Math.ListN.{get_or-append}
use Rattle.math.specs.Laws.BitLaws.{flip-lt}
use Rattle.math.specs.Bits.{bit, flip}
use Rattle.math.specs.Laws.ListLaws.{here, in_get_d, map_out, map_in, select_out, range_out}
use Rattle.math.specs.Lists.{◌∈◌, Distinct, distinct_nil, distinct_cons, below}
use Rattle.math.specs.Laws.PartLaws.{each_nil, each_cons}
use Rattle.math.specs.Laws.QueueLaws.{each_snoc, last_in, length_snoc, distinct_snoc, index_snoc, pairs_snoc}
use Rattle.math.specs.Laws.QueueLaws.{before-after, each_moved, length_moved, map-moved, get_d_moved}
use Rattle.math.specs.Laws.SplitLaws.{map-append}
use Rattle.points.specs.Points.{Clause, distance, listed, variables, Numbered, SatisfiesAll, FirstFalsified}
use Rattle.permutation_theory.specs.Permutations.{Permutation, image_of_point, Covered, itself, by_image}
use Rattle.point_theory.specs.Laws.Distance.{distance_self, flip_near}
use Rattle.point_theory.specs.Laws.Maps.{Automorphism, Automorphisms, CoveredBy, in_set, through}
use Rattle.formula.specs.Problem.{Problem}
use Rattle.search_theory.specs.Laws.Invariants.{Ready, maps, slot_at, Parent, Held, Processed, Filled, Child}
use Rattle.search_theory.specs.Laws.Invariants.{Family, Invariants}
use Rattle.search_theory.specs.Walk.{Slot, slot, points_in}

-- ---- variables, and what a set covers

pub variable_small : (n : ℕ) (c : Clause) (v : ℕ) → v ∈ variables n c → v < n
unfolding variables
variable_small n c v m = rw zero-add at (range_out 0 n v (select_out (bit (listed c)) (below n) m).0).1

pub covered_wider : {fs : List (ℕ → ℕ)} {P Q : ℕ → Type 0} {x : ℕ} → ((y : ℕ) → P y → Q y) → CoveredBy fs P x
    → CoveredBy fs Q x
covered_wider {x = x} h (in_set k) = in_set (h x k)
covered_wider {x = x} h (through f m k) = through f m (h (f x) k)

-- the first falsified clause is one of the clauses
pub first_in : {cs : List Numbered} {x : ℕ} {c : Numbered} → FirstFalsified cs x c → c ∈ cs
first_in {c = c} f = subst (λ l. c ∈ l) (sym f.place) (Memᴰ.append_right f.before (here c f.after))

-- the maps of a problem's permutations, as the theory takes them
pub symmetries_of : (pb : Problem) → Ready pb → Automorphisms pb.variables (SatisfiesAll pb.clauses) (maps pb)
symmetries_of pb ready f m =
    let w = map_out image_of_point pb.permutations m in
    subst (λ g. Automorphism pb.variables (SatisfiesAll pb.clauses) g) (sym w.2)
    (ready.symmetric w.0 w.1)

-- a point of a list of slots, none of which is deeper than k
pub held : (l : List Slot) (k y : ℕ) → ((t : Slot) → t ∈ l → t.depth ≤ k) → y ∈ points_in l → Held l k y
held l k y shallow m =
    let w = map_out (λ (s : Slot). s.point) l m in
    record { holder = w.0; among = w.1; point = sym w.2; shallow = shallow w.0 w.1 }

-- what is held is a point of the list
pub held_in : {l : List Slot} {k y : ℕ} → Held l k y → y ∈ points_in l
held_in {l} h = subst (λ y. y ∈ points_in l) h.point (map_in (λ (s : Slot). s.point) h.among)

-- what is covered by the points of held slots is covered by the points of the list
pub covered_by : (es : List Permutation) {l : List Slot} {k x : ℕ} → CoveredBy (map image_of_point es) (Held l k) x
    → Covered es (points_in l) x
covered_by es (in_set h) = itself (held_in h)
covered_by es {l} {x = x} (through f m h) =
    let w = map_out image_of_point es m in by_image w.0 w.1 (subst (λ g. g x ∈ points_in l) w.2 (held_in h))

-- ---- a parent's child, by its point and depth

same_child : {pb : Problem} {q t u : Slot} → u.point ≡ t.point → u.depth ≡ t.depth → Parent pb q t → Parent pb q u
same_child e f k =
    record {
      moved = k.moved;
      variable = k.variable;
      listed = k.listed;
      flipped = e ∙ k.flipped;
      deeper = f
          ∙ k.deeper;
    }

module _ (pb : Problem) (capacity : ℕ) where
  -- ---- a slot that is numbered, and moves from those that wait to those processed

  module _ (p w : List Slot) (s t : Slot) (point : t.point ≡ s.point) (depth : t.depth ≡ s.depth) where
    abbrev old : List Slot
    old = p ++ s ∷ w

    abbrev new : List Slot
    new = (p ++ t ∷ []) ++ w

    shorter : {i : ℕ} → i < length new → i < length old
    shorter {i} h = subst (λ (k : ℕ). i < k) (length_moved p w t s) h

    same_depth : (i : ℕ) → (slot_at new i).depth ≡ (slot_at old i).depth
    same_depth i = get_d_moved (λ (u : Slot). u.depth) p w t s (slot 0 0 0) depth i

    same_point : (i : ℕ) → (slot_at new i).point ≡ (slot_at old i).point
    same_point i = get_d_moved (λ (u : Slot). u.point) p w t s (slot 0 0 0) point i

    pub filled-moved : Filled pb capacity (p ++ s ∷ w) → Filled pb capacity ((p ++ t ∷ []) ++ w)
    filled-moved f =
        record {
          nonempty = subst (λ (k : ℕ). 1 ≤ k) (sym (length_moved p w t s)) f.nonempty;
          begins = same_point 0 ∙ f.begins;
          room = le_trans (le_of_eq (length_moved p w t s)) f.room;
          below = each_moved (λ u. u.point < 2 ^ pb.variables) p w t s
              (λ h. subst (λ x. x < 2 ^ pb.variables) (sym point) h) f.below;
          distinct = subst Distinct (sym (map-moved (λ (u : Slot). u.point) p w t s point)) f.distinct;
          near = each_moved (λ u. distance pb.variables u.point pb.target ≤ u.depth) p w t s closes f.near;
          ascending = λ i j le lt. let h = f.ascending i j le (shorter lt) in let a = same_depth i in let b =
              same_depth j in omega arith;
          depth_index = λ i lt. let h = f.depth_index i (shorter lt) in let a = same_depth i in omega arith;
        }
      where
        closes : distance pb.variables s.point pb.target ≤ s.depth
            → distance pb.variables t.point pb.target ≤ t.depth
        closes h = le_trans (le_of_eq (ap (λ x. distance pb.variables x pb.target) point))
            (le_trans h (le_of_eq (sym depth)))

    pub family_moved : Family pb (p ++ s ∷ w) (length p) → Family pb ((p ++ t ∷ []) ++ w) (length (p ++ t ∷ []))
    family_moved f i lt one =
        let c = f i (shorter lt) one in
        record {
          index = c.index;
          earlier = c.earlier;
          done = lt_of_lt_of_le c.done (longer (length p) (length (p ++ t ∷ [])) (length_snoc p t));
          parent = same_child (same_point i) (same_depth i)
              (subst (λ q. Parent pb q (slot_at old i)) (sym (kept c.index c.done)) c.parent);
        }
      where
        longer : (a b : ℕ) → b ≡ suc a → a ≤ b
        longer a b e = omega arith

        kept : (j : ℕ) → j < length p → slot_at new j ≡ slot_at old j
        kept j h =
            ap (λ l. slot_at l j) (append_assoc p (t ∷ []) w) ∙ get_or-append p (t ∷ w) (slot 0 0 0) j h
            ∙ sym (get_or-append p (s ∷ w) (slot 0 0 0) j h)

  -- ---- a slot t that is put behind the filled ones, from one of them

  module _ (l : List Slot) (t q : Slot) (parent : Parent pb q t) where
    -- T2: "Storing the exchange's image instead of the flipped point: changes lose their meaning.": `near` of the new
    -- slot needs that its point is the parent's, flipped
    pub filled_more : Filled pb capacity l → q ∈ l → (t.point ∈ points_in l → ⊥) → length l < capacity
        → ((u : Slot) → u ∈ l → u.depth ≤ t.depth)
        → Filled pb capacity (l ++ t ∷ [])
    filled_more f m fresh room deep =
        record {
          nonempty = le_trans f.nonempty (longer (length l) (length (l ++ t ∷ [])) (length_snoc l t));
          begins = ap (λ (u : Slot). u.point) (get_or-append l (t ∷ []) (slot 0 0 0) 0 f.nonempty) ∙ f.begins;
          room = le_trans (le_of_eq (length_snoc l t)) room;
          below = each_snoc (λ u. u.point < 2 ^ pb.variables) l f.below
              (subst (λ x. x < 2 ^ pb.variables) (sym parent.flipped)
              (flip-lt pb.variables q.point parent.variable (f.below q m) small));
          distinct = subst Distinct (sym (map-append (λ (u : Slot). u.point) l (t ∷ [])))
              (distinct_snoc f.distinct fresh);
          near = each_snoc (λ u. distance pb.variables u.point pb.target ≤ u.depth) l f.near close;
          -- T1: "Taking the newest point: still sound, but the choice is no longer nearest.": the new slot is the
          -- deepest, so it stands last
          ascending = pairs_snoc (λ a b. a.depth ≤ b.depth) (slot 0 0 0) l t f.ascending deep (le_refl t.depth);
          depth_index = index_snoc (λ i u. u.depth ≤ i) (slot 0 0 0) l t f.depth_index late;
        }
      where
        longer : (a b : ℕ) → b ≡ suc a → a ≤ b
        longer a b e = omega arith

        small : parent.variable < pb.variables
        small = variable_small pb.variables parent.moved.clause.clause parent.variable parent.listed

        close : distance pb.variables t.point pb.target ≤ t.depth
        close =
            let a : distance pb.variables t.point pb.target
            ≡ distance pb.variables (flip q.point parent.variable) pb.target =
            ap (λ x. distance pb.variables x pb.target) parent.flipped in
            let b : distance pb.variables (flip q.point parent.variable) pb.target
            ≤ suc (distance pb.variables q.point pb.target) =
            flip_near pb.variables q.point pb.target parent.variable in
            let c : distance pb.variables q.point pb.target ≤ q.depth = f.near q m in
            let d : t.depth ≡ suc q.depth = parent.deeper in
            omega arith

        late : t.depth ≤ length l
        late =
            let w = in_get_d (slot 0 0 0) m in
            let a : (slot_at l w.0).depth ≤ w.0 = f.depth_index w.0 w.1 in
            let b : (slot_at l w.0).depth ≡ q.depth = ap (λ (u : Slot). u.depth) w.2 in
            let c : w.0 < length l = w.1 in
            let d : t.depth ≡ suc q.depth = parent.deeper in
            omega arith

    pub family_more : (k j : ℕ) → j < k → j < length l → slot_at l j ≡ q → Family pb l k → Family pb (l ++ t ∷ []) k
    family_more k j lo hi e f =
        index_snoc (λ i u. 1 ≤ i → Child pb (l ++ t ∷ []) k i u) (slot 0 0 0) l t (λ i lt one. old i lt (f i lt one))
        (λ one. record {
          index = j;
          earlier = hi;
          done = lo;
          parent = subst (λ u. Parent pb u t) (sym (kept j hi ∙ e))
              parent;
        })
      where
        kept : (i : ℕ) → i < length l → slot_at (l ++ t ∷ []) i ≡ slot_at l i
        kept i h = get_or-append l (t ∷ []) (slot 0 0 0) i h

        old : (i : ℕ) → i < length l → Child pb l k i (slot_at l i) → Child pb (l ++ t ∷ []) k i (slot_at l i)
        old i lt c =
            record {
              index = c.index;
              earlier = c.earlier;
              done = c.done;
              parent = subst (λ u. Parent pb u (slot_at l i))
                  (sym (kept c.index (trans c.index i c.earlier lt))) c.parent;
            }
          where
            trans : (a b : ℕ) → a < b → b < length l → a < length l
            trans a b h k = omega arith

  -- ---- the oldest waiting slot is the shallowest

  pub first_shallowest : (p w : List Slot) (s : Slot) → Filled pb capacity (p ++ s ∷ w) → (t : Slot) → t ∈ (s ∷ w)
      → s.depth ≤ t.depth
  first_shallowest p w s f =
      each_cons (λ t. s.depth ≤ t.depth) (le_refl s.depth)
      (λ t m. before-after (λ a b. a.depth ≤ b.depth) (slot 0 0 0) (p ++ s ∷ []) w
      (filled-moved p w s s refl refl f).ascending s t (last_in p s) m)

  -- ---- the start

  pub invariants_start : Ready pb → 1 ≤ capacity → Invariants pb capacity [] (slot pb.target 0 0 ∷ [])
  invariants_start ready room =
      record {
        filled = record {
          nonempty = le_refl 1;
          begins = refl;
          room = room;
          below = each_cons (λ u. u.point < 2 ^ pb.variables) ready.target_below
              (each_nil (λ u. u.point < 2 ^ pb.variables));
          distinct = distinct_cons Memᴰ.not-nil distinct_nil;
          near = each_cons (λ u. distance pb.variables u.point pb.target ≤ u.depth)
              (le_of_eq (distance_self pb.variables pb.target))
              (each_nil (λ u. distance pb.variables u.point pb.target ≤ u.depth));
          ascending = λ i j le lt. subst (λ (k : ℕ). k ≤ (slot_at first j).depth) (sym (flat i)) zero-le;
          depth_index = λ i lt. subst (λ (k : ℕ). k ≤ i) (sym (flat i)) zero-le;
        };
        processed = each_nil (Processed pb first);
        family = λ i lt one. absurd (alone i lt one);
        unnumbered = each_cons (λ u. u.falsified ≡ 0) refl (each_nil (λ u. u.falsified ≡ 0));
        level = λ s t ms mt. le_trans (le_of_eq (each_cons (λ u. u.depth ≡ 0) refl (each_nil (λ u. u.depth ≡ 0)) t
            mt)) zero-le;
        failed = λ q t m. absurd (Memᴰ.not-nil m);
      }
    where
      first : List Slot
      first = slot pb.target 0 0 ∷ []

      flat : (i : ℕ) → (slot_at first i).depth ≡ 0
      flat zero = refl
      flat (suc i) = refl

      alone : (i : ℕ) → i < 1 → 1 ≤ i → ⊥
      alone i lt one = omega arith
