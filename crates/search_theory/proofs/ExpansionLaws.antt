-- The flips of one slot: while they are filled the invariants stay, and once all are looked at each is covered by the
-- filled slots. Assumes nothing.
use mathlib.Core.List.Memᴰ
use Rattle.std.specs.Prelude.{List, [], ◌∷◌, ◌++◌, ◌⊎◌, ◌≡◌, refl, ℕ, suc, ◌+◌, ◌≤◌, ◌<◌, length}
use Rattle.std.proofs.Common.{append_assoc, inl, inr, ⊎_elim, sym, ◌∙◌, subst, suc-le-suc, le_refl, le_trans, lt_of_lt_of_le, arith, length-append}
use Rattle.std.proofs.Math.Nat.{le_step}
use Rattle.std.proofs.Math.ListN.{get_or-append}
use Rattle.math.specs.Bits.{flip}
use Rattle.math.specs.Laws.ListLaws.{here, in_get_d}
use Rattle.math.specs.Lists.{◌∈◌}
use Rattle.math.specs.Laws.PartLaws.{each_nil, each_cons}
use Rattle.math.specs.Laws.QueueLaws.{each_append, each_snoc, last_in, before-after}
use Rattle.points.specs.Points.{Numbered, variables, SatisfiesAll, FirstFalsified, NoneSatisfies}
use Rattle.permutation_theory.specs.Permutations.{Covered, itself}
use Rattle.point_theory.specs.Laws.Maps.{CoveredBy, in_set}
use Rattle.permutation_theory.proofs.Symmetries.{covered_through}
use Rattle.formula.specs.Problem.{Problem}
use Rattle.search_theory.specs.Laws.InvariantLaws.{covered_wider, held, filled-moved, family_moved, filled_more}
use Rattle.search_theory.specs.Laws.InvariantLaws.{family_more}
use Rattle.search_theory.specs.Laws.Invariants.{maps, slot_at, Moved, Parent, Held, Processed, Filled, Family}
use Rattle.search_theory.specs.Laws.Invariants.{Invariants, Expanding}
use Rattle.search_theory.specs.Walk.{Slot, slot, points_in, with_number, Expansion, complete, full, Fills, no_more}
use Rattle.search_theory.specs.Walk.{skipped, filled_next, no_room, tested}
use Rattle.search_theory.proofs.LevelLaws.{level_failed}
use Rattle.search_theory.proofs.WalkLaws.{waiting_in, Added, fills_adds}

-- ---- the flips of the slot q, whose clause's variables are among vs

module _ (pb : Problem) (capacity : ℕ) (known : List Slot) (q : Slot) (moved : Moved pb q) where
  abbrev fills : List ℕ → List Slot → Expansion → Type 0
  fills vs w r = Fills pb.permutations capacity known q.point q.depth vs w r

  abbrev Listed : List ℕ → Type 0
  Listed vs = (v : ℕ) → v ∈ vs → v ∈ variables pb.variables moved.clause.clause

  -- the slot that the flip at v fills
  abbrev child : ℕ → Slot
  child v = slot (flip q.point v) 0 (suc q.depth)

  -- the flip at v is covered by those known and the slots u, none more than one deeper than q
  abbrev Reached : List Slot → ℕ → Type 0
  Reached u v = CoveredBy (maps pb) (Held (known ++ u) (suc q.depth)) (flip q.point v)

  -- no filled slot is more than one deeper
  pub depths_next : {w : List Slot} → Expanding pb capacity known q w → (t : Slot) → t ∈ (known ++ w)
      → t.depth ≤ suc q.depth
  depths_next e = each_append (λ t. t.depth ≤ suc q.depth) known (λ t m. le_step (e.settled t m))
      (λ t m. (e.next t m).1)

  -- one more slot, from q
  one_more : (w : List Slot) (v : ℕ) → v ∈ variables pb.variables moved.clause.clause
      → (Covered pb.permutations (points_in (known ++ w)) (flip q.point v) → ⊥)
      → length (known ++ w) < capacity → Expanding pb capacity known q w
      → Expanding pb capacity known q (w ++ child v ∷ [])
  one_more w v listed uncovered room e =
      record {
        filled = subst (Filled pb capacity) (append_assoc known w (t ∷ []))
            (filled_more pb capacity (known ++ w) t q parent e.filled (Memᴰ.append_left w e.among)
            (λ m. uncovered (itself m)) room (depths_next e));
        family = subst (λ l. Family pb l (length known)) (append_assoc known w (t ∷ []))
            (family_more pb capacity (known ++ w) t q parent (length known) at.0 at.1
            (lt_of_lt_of_le at.1 longer) (get_or-append known w (slot 0 0 0) at.0 at.1 ∙ at.2)
            e.family);
        unnumbered = each_snoc (λ u. u.falsified ≡ 0) w e.unnumbered refl;
        among = e.among;
        settled = e.settled;
        next = each_snoc (λ u. (q.depth ≤ u.depth) × (u.depth ≤ suc q.depth)) w e.next
            (le_step (le_refl q.depth), le_refl (suc q.depth));
      }
    where
      t : Slot
      t = child v

      parent : Parent pb q t
      parent = record { moved = moved; variable = v; listed = listed; flipped = refl; deeper = refl }

      at : (i : ℕ) × (i < length known) × (slot_at known i ≡ q)
      at = in_get_d (slot 0 0 0) e.among

      longer : length known ≤ length (known ++ w)
      longer = let s : length (known ++ w) ≡ length known + length w = length-append known w in omega arith

  -- T1: "Taking the newest point: still sound, but the choice is no longer nearest.": a slot put in front of those that
  -- wait is refused here, where `one_more` keeps the depths ascending for the last place alone. T2: "Storing the
  -- exchange's image instead of the flipped point: changes lose their meaning.": so is another point than the flipped
  -- one, for which `one_more` has no parent
  pub fills_expanding : {vs : List ℕ} {w : List Slot} {r : Expansion} → fills vs w r → Listed vs
      → Expanding pb capacity known q w → Expanding pb capacity known q (waiting_in r)
  fills_expanding no_more listed e = e
  fills_expanding (skipped c f) listed e = fills_expanding f (λ v m. listed v (Memᴰ.tail m)) e
  fills_expanding (filled_next {v = v} {vs = vs} {w = w} c h f) listed e =
      fills_expanding f (λ u m. listed u (Memᴰ.tail m)) (one_more w v (listed v (here v vs)) c h e)
  fills_expanding (no_room c h) listed e = e

  adds : {vs : List ℕ} {w : List Slot} {r : Expansion} → fills vs w r → Added q.depth w (waiting_in r)
  adds f = fills_adds pb.permutations capacity known q.point q.depth f

  -- what waited waits still
  pub fills_grow : {vs : List ℕ} {w : List Slot} {r : Expansion} → fills vs w r → (t : Slot) → t ∈ w → t ∈ waiting_in r
  fills_grow f t m = let a = adds f in subst (λ l. t ∈ l) (sym a.extends) (Memᴰ.append_left a.new m)

  -- what waits waited before, or is one deeper than q
  pub fills-new : {vs : List ℕ} {w : List Slot} {r : Expansion} → fills vs w r → (t : Slot) → t ∈ waiting_in r
      → (t ∈ w) ⊎ (t.depth ≡ suc q.depth)
  fills-new {w = w} f t m =
      let a = adds f in
      ⊎_elim inl (λ k. inr (a.deeper t k)) (Memᴰ.append_cases w (subst (λ l. t ∈ l) a.extends m))

  -- a point that is covered by the filled slots is so by slots at most one deeper than q, whatever is filled later
  still_covered : {w u : List Slot} {y : ℕ} → Expanding pb capacity known q w → ((t : Slot) → t ∈ w → t ∈ u)
      → Covered pb.permutations (points_in (known ++ w)) y
      → CoveredBy (maps pb) (Held (known ++ u) (suc q.depth)) y
  still_covered {w} {u} {y} e more c =
      covered_wider (λ z m. wider (held (known ++ w) (suc q.depth) z (depths_next e) m))
      (covered_through pb.permutations (points_in (known ++ w)) y c)
    where
      wider : {z : ℕ} → Held (known ++ w) (suc q.depth) z → Held (known ++ u) (suc q.depth) z
      wider h =
          record {
            holder = h.holder;
            among = each_append (λ t. t ∈ (known ++ u)) known (λ t m. Memᴰ.append_left u m)
                (λ t m. Memᴰ.append_right known (more t m)) h.holder h.among;
            point = h.point;
            shallow = h.shallow;
          }

  -- every flip that was looked at is covered
  pub fills_cover : {vs : List ℕ} {w u : List Slot} → fills vs w (complete u) → Listed vs
      → Expanding pb capacity known q w
      → (v : ℕ) → v ∈ vs → Reached u v
  fills_cover {u = u} no_more listed e = each_nil (Reached u)
  fills_cover {u = u} (skipped c f) listed e =
      each_cons (Reached u) (still_covered e (fills_grow f) c)
      (fills_cover f (λ v m. listed v (Memᴰ.tail m)) e)
  fills_cover {u = u} (filled_next {v = v} {vs = vs} {w = w} c h f) listed e =
      let e' = one_more w v (listed v (here v vs)) c h e in
      each_cons (Reached u)
      (in_set (record {
        holder = child v;
        among = Memᴰ.append_right known
            (fills_grow f (child v) (last_in w (child v)));
        point = refl;
        shallow = le_refl (suc q.depth);
      }))
      (fills_cover f (λ v m. listed v (Memᴰ.tail m)) e')

  -- a flip that found no room is not covered, and all slots are filled
  pub fills_stuck : {vs : List ℕ} {w u : List Slot} → fills vs w (full u)
      → (v : ℕ) × (v ∈ vs) × (Covered pb.permutations (points_in (known ++ u)) (flip q.point v) → ⊥)
      × (capacity ≤ length (known ++ u))
  fills_stuck (skipped c f) = let r = fills_stuck f in (r.0, Memᴰ.tail r.1, r.2, r.3)
  fills_stuck (filled_next c h f) = let r = fills_stuck f in (r.0, Memᴰ.tail r.1, r.2, r.3)
  fills_stuck (no_room {v = v} {vs = vs} c h) = (v, here v vs, c, h)

-- ---- a step from a state: its first waiting slot s is processed by way of its clause c

module _ (pb : Problem) (capacity : ℕ) (p w : List Slot) (s : Slot) (c : Numbered)
    (first : FirstFalsified pb.clauses s.point c) where
  abbrev q : Slot
  q = with_number s c

  abbrev known : List Slot
  known = p ++ q ∷ []

  abbrev pub numbered-moved : Moved pb (with_number s c)
  numbered-moved = record { clause = c; first = first; number = refl }

  -- the slot is numbered: its flips can be filled
  pub begins_expanding : Invariants pb capacity p (s ∷ w)
      → Expanding pb capacity (p ++ with_number s c ∷ []) (with_number s c) w
  begins_expanding i =
      record {
        filled = filled;
        family = family_moved pb capacity p w s q refl refl i.family;
        unnumbered = λ t m. i.unnumbered t (Memᴰ.tail m);
        among = last_in p q;
        settled = each_snoc (λ t. t.depth ≤ s.depth) p
            (λ t m. before-after Shallower (slot 0 0 0) p (s ∷ w) i.filled.ascending t s m (here s w))
            (le_refl s.depth);
        next = λ t m. (
          before-after Shallower (slot 0 0 0) known w filled.ascending q t (last_in p q) m,
          i.level s t
              (here s w) (Memᴰ.tail m),
        );
      }
    where
      Shallower : Slot → Slot → Type 0
      Shallower a b = a.depth ≤ b.depth

      filled : Filled pb capacity (known ++ w)
      filled = filled-moved pb capacity p w s q refl refl i.filled

  -- none of the points tested satisfies, and all its flips are looked at: the next state
  pub invariants_step : {u : List Slot} → Invariants pb capacity p (s ∷ w)
      → NoneSatisfies pb.clauses (tested p s w)
      → Fills pb.permutations capacity (p ++ with_number s c ∷ []) s.point s.depth
      (variables pb.variables c.clause) w (complete u)
      → Invariants pb capacity (p ++ with_number s c ∷ []) u
  invariants_step {u} i none f =
      let e = begins_expanding i in
      let g = fills_expanding pb capacity known q numbered-moved f (λ v m. m) e in
      record {
        filled = g.filled;
        processed = each_snoc (Processed pb (known ++ u)) p (λ t m. still (i.processed t m))
            (record { moved = numbered-moved; flips = fills_cover pb capacity known q numbered-moved f (λ v m. m) e });
        family = g.family;
        unnumbered = g.unnumbered;
        level = λ a b ma mb. le_trans (g.next b mb).1 (suc-le-suc (g.next a ma).0);
        failed = λ a b ma mb le. behind b (le_trans le (g.settled a ma))
            (fills-new pb capacity known q numbered-moved f b mb);
      }
    where
      -- a slot no deeper than s is none of those just filled, so it waited and was tested
      behind : (b : Slot) → b.depth ≤ s.depth → (b ∈ w) ⊎ (b.depth ≡ suc s.depth)
          → SatisfiesAll pb.clauses b.point → ⊥
      behind b le (inl m) sat = level_failed pb capacity p w s i none b (Memᴰ.tail m) le sat
      behind b le (inr e) sat = omega arith

      grows : (t : Slot) → t ∈ w → t ∈ u
      grows = fills_grow pb capacity known q numbered-moved f

      -- a slot that was filled is filled, with the same point and depth
      wider : {k y : ℕ} → Held (p ++ s ∷ w) k y → Held (known ++ u) k y
      wider {k} {y} h =
          each_append (λ t. t.point ≡ y → t.depth ≤ k → Held (known ++ u) k y) p
          (λ t m e d. record {
            holder = t;
            among = Memᴰ.append_left u (Memᴰ.append_left (q ∷ []) m);
            point = e;
            shallow = d;
          })
          (each_cons (λ t. t.point ≡ y → t.depth ≤ k → Held (known ++ u) k y)
          (λ e d. record { holder = q; among = Memᴰ.append_left u (last_in p q); point = e; shallow = d })
          (λ t m e d. record { holder = t; among = Memᴰ.append_right known (grows t m); point = e; shallow = d }))
          h.holder h.among h.point h.shallow

      still : {t : Slot} → Processed pb (p ++ s ∷ w) t → Processed pb (known ++ u) t
      still h = record { moved = h.moved; flips = λ v m. covered_wider (λ y k. wider k) (h.flips v m) }
