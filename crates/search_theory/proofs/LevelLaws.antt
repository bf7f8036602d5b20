-- Which points are tested: at a new depth all that wait, for they are of that depth; at another the one taken alone,
-- which was tested before. Assumes nothing.
use Rattle.std.specs.Prelude.{Bool, true, false, cond, ◌⊎◌, ◌≡◌, refl, ℕ, zero, suc, ◌≤◌, ◌<◌, ◌^◌, eqb, ltb, length}
use mathlib.Core.List.Memᴰ
use mathlib.Core.List.{List, [], ◌∷◌, ◌++◌}
use Rattle.std.proofs.Common.{inl, inr, ⊎_elim, sym, ◌∙◌, subst, le_trans, le_of_eq, arith, eq-eqb, eqb-true, ltb-true, ltb-false}
use Rattle.std.proofs.Math.Path.{ap}
use Rattle.std.proofs.Math.Nat.{le_antisymm}
use Rattle.std.proofs.Math.ListN.{get_or-append}
use Rattle.math.specs.Laws.ListLaws.{here, true-or-false, all-at, all_failed, select_in, select_out, map_in, map_out}
use Rattle.math.specs.Laws.ListLaws.{in_get_d, get_d_in}
use Rattle.math.specs.Laws.SplitLaws.{select-cons}
use Rattle.math.specs.Lists.{◌∈◌, select}
use Rattle.points.specs.Points.{distance, SatisfiesAll, NoneSatisfies}
use Rattle.formula.specs.Problem.{Problem}
use Rattle.search_theory.specs.Laws.InvariantLaws.{first_shallowest}
use Rattle.search_theory.specs.Laws.Invariants.{slot_at, Invariants}
use Rattle.search_theory.specs.Walk.{Slot, slot, points_in, opens, as_deep, tested}

-- the depth of s is not new: a processed slot is as deep or deeper
pub record OldDepth (p : List Slot) (s : Slot) : Type 0 where
  pub deep : Slot
  pub among : deep ∈ p
  pub reaches : s.depth ≤ deep.depth

-- the point y stands in a waiting slot that is as deep as the first of them, s
pub record OnLevel (s : Slot) (w : List Slot) (y : ℕ) : Type 0 where
  pub holder : Slot
  pub among : holder ∈ (s ∷ w)
  pub depth : holder.depth ≡ s.depth
  pub point : holder.point ≡ y

old_depth : (p : List Slot) (s : Slot) → opens p s ≡ false → OldDepth p s
unfolding opens
old_depth p s e =
    let o = all_failed (λ (t : Slot). ltb t.depth s.depth) p e in
    record { deep = o.0; among = o.1; reaches = ltb-false o.0.depth s.depth o.2 }

pub opens-or : (p : List Slot) (s : Slot) → (opens p s ≡ true) ⊎ OldDepth p s
opens-or p s = ⊎_elim inl (λ e. inr (old_depth p s e)) (true-or-false (opens p s))

-- ---- the points tested

module _ (p w : List Slot) (s : Slot) where
  -- at a new depth: the waiting slots that are as deep
  tested_level : opens p s ≡ true → tested p s w ≡ points_in (as_deep s (s ∷ w))
  unfolding tested
  tested_level e = ap (λ b. points_in (cond b (as_deep s (s ∷ w)) (s ∷ []))) e

  -- at another: the slot that is taken
  pub tested-one : opens p s ≡ false → tested p s w ≡ s.point ∷ []
  unfolding tested
  tested-one e = ap (λ b. points_in (cond b (as_deep s (s ∷ w)) (s ∷ []))) e

  -- what is tested waits, and is as deep as the slot that is taken
  pub tested_out : (y : ℕ) → y ∈ tested p s w → OnLevel s w y
  tested_out y m = ⊎_elim new old (true-or-false (opens p s))
    where
      new : opens p s ≡ true → OnLevel s w y
      new e =
          let o = map_out (λ (t : Slot). t.point) (as_deep s (s ∷ w)) (subst (λ l. y ∈ l) (tested_level e) m) in
          let k = select_out (λ (t : Slot). eqb t.depth s.depth) (s ∷ w) o.1 in
          record {
            holder = o.0;
            among = k.0;
            depth = eqb-true o.0.depth s.depth k.1;
            point = sym o.2;
          }

      old : opens p s ≡ false → OnLevel s w y
      old e = alone (subst (λ l. y ∈ l) (tested-one e) m)
        where
          alone : y ∈ (s.point ∷ []) → OnLevel s w y
          alone (Memᴰ.head h) = record { holder = s; among = here s w; depth = refl; point = sym h }
          alone (Memᴰ.tail k) = absurd (Memᴰ.not-nil k)

  -- at a new depth every waiting slot that is as deep is tested
  pub tested_in : opens p s ≡ true → (t : Slot) → t ∈ (s ∷ w) → t.depth ≡ s.depth → t.point ∈ tested p s w
  tested_in e t m d =
      subst (λ l. t.point ∈ l) (sym (tested_level e))
      (map_in (λ (t : Slot). t.point)
      (select_in (λ (t : Slot). eqb t.depth s.depth) m (eq-eqb t.depth s.depth d)))

  -- the point that is taken is tested in any case
  pub tested-first : s.point ∈ tested p s w
  tested-first =
      ⊎_elim (λ e. tested_in e s (here s w) refl)
      (λ e. subst (λ l. s.point ∈ l) (sym (tested-one e)) (here s.point []))
      (true-or-false (opens p s))

-- a list of which all pass the test is selected whole
select-whole : {A : Type 0} (t : A → Bool) (xs : List A) → ((x : A) → x ∈ xs → t x ≡ true) → select t xs ≡ xs
unfolding select
select-whole t [] h = refl
select-whole t (x ∷ xs) h =
    select-cons t xs (h x (here x xs)) ∙ ap (λ l. x ∷ l) (select-whole t xs (λ y m. h y (Memᴰ.tail m)))

-- ---- in a state of the search

module _ (pb : Problem) (capacity : ℕ) where
  -- at a new depth no waiting slot is deeper: each was filled from a processed one, which is shallower than s
  pub level_flat : (p w : List Slot) (s : Slot) → Invariants pb capacity p (s ∷ w) → opens p s ≡ true
      → (t : Slot) → t ∈ (s ∷ w) → t.depth ≡ s.depth
  unfolding opens
  level_flat p w s i e t m =
      le_antisymm (by at.0 at.1 at.2) (first_shallowest pb capacity p w s i.filled t m)
    where
      filled : List Slot
      filled = p ++ s ∷ w

      at : (k : ℕ) × (k < length (p ++ s ∷ w)) × (slot_at (p ++ s ∷ w) k ≡ t)
      at = in_get_d (slot 0 0 0) (Memᴰ.append_right p m)

      -- the slot of a processed index is shallower
      earlier : (j : ℕ) → j < length p → (slot_at filled j).depth < s.depth
      earlier j h =
          subst (λ (q : Slot). q.depth < s.depth) (sym (get_or-append p (s ∷ w) (slot 0 0 0) j h))
          (ltb-true (slot_at p j).depth s.depth
          (all-at (λ (q : Slot). ltb q.depth s.depth) e (get_d_in p j (slot 0 0 0) h)))

      by : (k : ℕ) → k < length filled → slot_at filled k ≡ t → t.depth ≤ s.depth
      by zero lt h =
          let a : (slot_at filled 0).depth ≤ 0 = i.filled.depth_index 0 lt in
          let b : (slot_at filled 0).depth ≡ t.depth = ap (λ (q : Slot). q.depth) h in
          omega arith
      by (suc k) lt h =
          let c = i.family (suc k) lt (omega arith) in
          let a : (slot_at filled (suc k)).depth ≡ suc (slot_at filled c.index).depth = c.parent.deeper in
          let b : (slot_at filled (suc k)).depth ≡ t.depth = ap (λ (q : Slot). q.depth) h in
          let d : (slot_at filled c.index).depth < s.depth = earlier c.index c.done in
          omega arith

  -- so at a new depth all that wait are tested
  pub tested-all : (p w : List Slot) (s : Slot) → Invariants pb capacity p (s ∷ w) → opens p s ≡ true
      → tested p s w ≡ points_in (s ∷ w)
  tested-all p w s i e =
      tested_level p w s e
      ∙ ap points_in (select-whole (λ (t : Slot). eqb t.depth s.depth) (s ∷ w)
      (λ t m. eq-eqb t.depth s.depth (level_flat p w s i e t m)))

  -- a point on the level is one of the formula's, no farther from the target than the level is deep
  pub level_below : (p w : List Slot) (s : Slot) → Invariants pb capacity p (s ∷ w) → {y : ℕ} → OnLevel s w y
      → y < 2 ^ pb.variables
  level_below p w s i o =
      subst (λ z. z < 2 ^ pb.variables) o.point (i.filled.below o.holder (Memᴰ.append_right p o.among))

  pub level_near : (p w : List Slot) (s : Slot) → Invariants pb capacity p (s ∷ w) → {y : ℕ} → OnLevel s w y
      → distance pb.variables y pb.target ≤ s.depth
  level_near p w s i o =
      subst (λ z. distance pb.variables z pb.target ≤ s.depth) o.point
      (le_trans (i.filled.near o.holder (Memᴰ.append_right p o.among)) (le_of_eq o.depth))

  -- a depth that is not new was tested before
  old_failed : (p w : List Slot) (s : Slot) → Invariants pb capacity p (s ∷ w) → OldDepth p s → (t : Slot)
      → t ∈ (s ∷ w) → t.depth ≤ s.depth → SatisfiesAll pb.clauses t.point → ⊥
  old_failed p w s i o t m le sat = i.failed o.deep t o.among m (le_trans le o.reaches) sat

  pub untested_fails : (p w : List Slot) (s : Slot) → Invariants pb capacity p (s ∷ w) → opens p s ≡ false
      → NoneSatisfies pb.clauses (tested p s w)
  untested_fails p w s i e y m sat =
      let o = tested_out p w s y m in
      old_failed p w s i (old_depth p s e) o.holder o.among (le_of_eq o.depth)
      (subst (SatisfiesAll pb.clauses) (sym o.point) sat)

  -- Q03.3: "tests all unprocessed points of that depth before it processes any": where none of the tested satisfies, no
  -- waiting slot of that depth does
  pub level_failed : (p w : List Slot) (s : Slot) → Invariants pb capacity p (s ∷ w)
      → NoneSatisfies pb.clauses (tested p s w) → (t : Slot) → t ∈ (s ∷ w) → t.depth ≤ s.depth
      → SatisfiesAll pb.clauses t.point → ⊥
  level_failed p w s i none t m le sat =
      ⊎_elim
      (λ e. none t.point
      (tested_in p w s e t m (le_antisymm le (first_shallowest pb capacity p w s i.filled t m))) sat)
      (λ o. old_failed p w s i o t m le sat)
      (opens-or p s)
