-- The search as computed is the search as the sentence has it: what `walk` gives is what `Walks` says, and `Walks` says
-- one thing only. Assumes nothing.
use Rattle.std.specs.Prelude.{Bool, ◌≡◌}
use Rattle.std.proofs.Math.Bool.{true, false}
use Rattle.std.proofs.Common.{true≢false, sym, ◌∙◌, le_trans, le_of_eq, lt-ltb, le-ltb, ltb-true, ltb-false}
use mathlib.Core.List.{List, [], ◌∷◌, ◌++◌, append-nil, append_assoc}
use Rattle.std.proofs.Math.Option.{Option, some, none}
use Rattle.std.proofs.Math.Path.{refl, ap, ap₂, subst}
use Prim.Native.Nat.{ℕ, zero, suc, ◌+◌, ◌≤◌, ◌<◌}
use native.Mathlib.Omega.{arith}
use Rattle.std.proofs.Math.Dec.{ltb}
use Rattle.std.proofs.Math.ListN.{length, length-append}
use Rattle.math.specs.Bits.{flip}
use Rattle.math.specs.Laws.ListLaws.{not-true-false}
use Rattle.math.specs.Laws.PartLaws.{each_nil, each_cons}
use Rattle.math.specs.Laws.QueueLaws.{length_snoc, length_moved}
use Rattle.math.specs.Lists.{◌∈◌}
use Rattle.points.specs.Laws.PointLaws.{first_sound, first_complete, first-none}
use Rattle.points.proofs.SmallestLaws.{smallest-some, smallest-none, none-smallest, smallest_same}
use Rattle.points.specs.Points.{distance, variables, Numbered, first_falsified, NoneSatisfies, smallest}
use Rattle.permutation_theory.specs.Laws.PermutationLaws.{covered_sound, covered_complete}
use Rattle.permutation_theory.specs.Permutations.{Permutation, Covered, covered}
use Rattle.formula.specs.Problem.{Problem}
use Rattle.formula.specs.Reply.{Reply, satisfiable}
use Rattle.search_theory.proofs.LevelLaws.{tested-first}
use Rattle.search_theory.specs.Walk.{Slot, slot, points_in, with_number, State, state, filled, start, Expansion}
use Rattle.search_theory.specs.Walk.{complete, full, filled_by, queued, Fills, no_more, skipped, filled_next}
use Rattle.search_theory.specs.Walk.{no_room, placed, expand, Walks, none_left, met, stuck, goes_on, expanded}
use Rattle.search_theory.specs.Walk.{tested, processed_by, tested_by, Ending, followed, walk, walked}

-- a test that failed is a point that is not covered
uncovered : (es : List Permutation) (ps : List ℕ) (y : ℕ) → covered es ps y ≡ false → Covered es ps y → ⊥
uncovered es ps y c h = true≢false (sym (covered_complete es ps y h) ∙ c)

covered-not : (es : List Permutation) (ps : List ℕ) (y : ℕ) → (Covered es ps y → ⊥) → covered es ps y ≡ false
covered-not es ps y h = not-true-false (covered es ps y) (λ e. h (covered_sound es ps y e))

-- the slots that wait after an expansion
abbrev pub waiting_in : Expansion → List Slot
waiting_in (complete w) = w
waiting_in (full w) = w

-- the slots u are the slots w and new ones behind them, each one deeper than d
pub record Added (d : ℕ) (w u : List Slot) : Type 0 where
  pub new : List Slot
  pub extends : u ≡ w ++ new
  pub deeper : (t : Slot) → t ∈ new → t.depth ≡ suc d

-- ---- the flips of one point

module _ (es : List Permutation) (capacity : ℕ) (known : List Slot) (x d : ℕ) where
  abbrev fills : List ℕ → List Slot → Expansion → Type 0
  fills vs w r = Fills es capacity known x d vs w r

  abbrev run : List ℕ → Expansion → Expansion
  run vs r = expand es capacity known x d vs r

  -- the slots that wait once a flip has filled one
  abbrev more : List Slot → ℕ → List Slot
  more w v = queued es capacity known x d w (filled_by es capacity known x d (flip x v))

  -- once there is no room, the rest is not looked at
  stays_full : (vs : List ℕ) (w : List Slot) → run vs (full w) ≡ full w
  unfolding expand
  stays_full [] w = refl
  stays_full (v ∷ vs) w = stays_full vs w

  pub expand-fills : (vs : List ℕ) (w : List Slot)
      → Fills es capacity known x d vs w (expand es capacity known x d vs (complete w))
  unfolding expand
  expand-fills [] w = no_more
  expand-fills (v ∷ vs) w = by (covered es (points_in (known ++ w)) (flip x v)) (ltb (length (known ++ w)) capacity) refl
      refl (expand-fills vs)
    where
      by : (b t : Bool) → covered es (points_in (known ++ w)) (flip x v) ≡ b → ltb (length (known ++ w)) capacity ≡ t
          → ((u : List Slot) → fills vs u (run vs (complete u)))
          → fills (v ∷ vs) w (run vs (placed es capacity known x d b t (flip x v) w))
      by true t c r ih = skipped (covered_sound es (points_in (known ++ w)) (flip x v) c) (ih w)
      by false true c r ih =
          filled_next (uncovered es (points_in (known ++ w)) (flip x v) c) (ltb-true (length (known ++ w)) capacity r)
          (ih (more w v))
      by false false c r ih =
          subst (fills (v ∷ vs) w) (sym (stays_full vs w))
          (no_room (uncovered es (points_in (known ++ w)) (flip x v) c) (ltb-false (length (known ++ w)) capacity r))

  pub fills-expand : {vs : List ℕ} {w : List Slot} {r : Expansion} → Fills es capacity known x d vs w r
      → expand es capacity known x d vs (complete w) ≡ r
  unfolding expand
  fills-expand no_more = refl
  fills-expand (skipped {v = v} {vs = vs} {w = w} c f) =
      ap (λ b. run vs (placed es capacity known x d b (ltb (length (known ++ w)) capacity) (flip x v) w))
      (covered_complete es (points_in (known ++ w)) (flip x v) c)
      ∙ fills-expand f
  fills-expand (filled_next {v = v} {vs = vs} {w = w} c h f) =
      ap₂ (λ b t. run vs (placed es capacity known x d b t (flip x v) w))
      (covered-not es (points_in (known ++ w)) (flip x v) c) (lt-ltb (length (known ++ w)) capacity h)
      ∙ fills-expand f
  fills-expand (no_room {v = v} {vs = vs} {w = w} c h) =
      ap₂ (λ b t. run vs (placed es capacity known x d b t (flip x v) w))
      (covered-not es (points_in (known ++ w)) (flip x v) c) (le-ltb (length (known ++ w)) capacity h)
      ∙ stays_full vs w

  -- no more slots are filled than there are
  pub fills_room : {vs : List ℕ} {w : List Slot} {r : Expansion} → Fills es capacity known x d vs w r
      → length (known ++ w) ≤ capacity → length (known ++ waiting_in r) ≤ capacity
  fills_room no_more h = h
  fills_room (skipped c f) h = fills_room f h
  fills_room (filled_next {v = v} {w = w} c lt f) h =
      let whole = length-append known (more w v) in
      let front = length-append known w in
      let last = length-append w (filled_by es capacity known x d (flip x v) ∷ []) in
      fills_room f (let one : length (known ++ more w v) ≤ capacity = omega arith in one)
  fills_room (no_room c le) h = h

  nothing : (w : List Slot) → Added d w w
  nothing w = record { new = []; extends = sym (append-nil w); deeper = each_nil (λ u. u.depth ≡ suc d) }

  -- flips fill slots behind those that wait
  pub fills_adds : {vs : List ℕ} {w : List Slot} {r : Expansion} → Fills es capacity known x d vs w r
      → Added d w (waiting_in r)
  fills_adds {w = w} no_more = nothing w
  fills_adds (skipped c f) = fills_adds f
  fills_adds (filled_next {v = v} {w = w} c h f) =
      let a = fills_adds f in
      let t = filled_by es capacity known x d (flip x v) in
      record {
        new = t ∷ a.new;
        extends = a.extends ∙ append_assoc w (t ∷ []) a.new;
        deeper = each_cons (λ u. u.depth ≡ suc d) refl a.deeper;
      }
  fills_adds {w = w} (no_room c h) = nothing w

-- ---- the search

module _ (pb : Problem) (capacity : ℕ) where
  abbrev known : List Slot → Slot → Numbered → List Slot
  known p s c = p ++ with_number s c ∷ []

  abbrev flips : List Slot → Slot → List Slot → Numbered → Expansion
  flips p s w c = expand pb.permutations capacity (known p s c) s.point s.depth
      (variables pb.variables c.clause) (complete w)

  flipped : (p : List Slot) (s : Slot) (w : List Slot) (c : Numbered) (r : Expansion) → flips p s w c ≡ r
      → Fills pb.permutations capacity (known p s c) s.point s.depth (variables pb.variables c.clause) w
      r
  flipped p s w c r e =
      subst (Fills pb.permutations capacity (known p s c) s.point s.depth
      (variables pb.variables c.clause) w) e
      (expand-fills pb.permutations capacity (known p s c) s.point s.depth
      (variables pb.variables c.clause) w)

  abbrev Says : State → Ending pb capacity → Type 0
  Says st e = Walks pb capacity st e.reply e.slots

  -- with one step more than there are slots to process, what is computed is what the sentence says
  pub walk_walks : (k : ℕ) (p w : List Slot) → length (p ++ w) ≤ capacity → capacity < k + length p
      → Says (state p w) (walk pb capacity k (state p w))
  unfolding walk
  walk_walks zero p w room more = let e : length (p ++ w)
      ≡ length p + length w = length-append p w in let z : ⊥ = omega arith in absurd z
  walk_walks (suc k) p [] room more = none_left
  walk_walks (suc k) p (s ∷ w) room more = tests (smallest pb.clauses (tested p s w)) refl (walk_walks k)
    where
      Rest : Type 0
      Rest = (q u : List Slot) → length (q ++ u) ≤ capacity → capacity < k + length q
          → Says (state q u) (walk pb capacity k (state q u))

      on : NoneSatisfies pb.clauses (tested p s w) → (c : Numbered)
          → first_falsified pb.clauses s.point ≡ some c → (r : Expansion) → flips p s w c ≡ r → Rest
          → Says (state p (s ∷ w)) (followed pb capacity (expanded pb capacity (known p s c) s.depth r)
          (λ q. walk pb capacity k q))
      on out c f (full u) e ih = stuck out (first_sound pb.clauses s.point c f) (flipped p s w c (full u) e)
      on out c f (complete u) e ih =
          let fl = flipped p s w c (complete u) e in
          let m = length_snoc p (with_number s c) in
          goes_on out (first_sound pb.clauses s.point c f) fl
          (ih (known p s c) u
          (fills_room pb.permutations capacity (known p s c) s.point s.depth fl
          (le_trans (le_of_eq (length_moved p w (with_number s c) s)) room))
          (omega arith))

      by : NoneSatisfies pb.clauses (tested p s w) → (o : Option Numbered)
          → first_falsified pb.clauses s.point ≡ o → Rest
          → Says (state p (s ∷ w)) (followed pb capacity (processed_by pb capacity p s w o) (λ q. walk pb capacity k q))
      by out none f ih = absurd (out s.point (tested-first p w s) (first-none pb.clauses s.point f))
      by out (some c) f ih = on out c f (flips p s w c) refl ih

      tests : (o : Option ℕ) → smallest pb.clauses (tested p s w) ≡ o → Rest
          → Says (state p (s ∷ w)) (followed pb capacity (tested_by pb capacity p s w o) (λ q. walk pb capacity k q))
      tests (some x) e ih = met (smallest-some pb.clauses (tested p s w) x e)
      tests none e ih = by (smallest-none pb.clauses (tested p s w) e) (first_falsified pb.clauses s.point) refl
          ih

  abbrev ending : Reply → List Slot → Ending pb capacity
  ending r l = record { reply = r; slots = l }

  -- and what the sentence says is what is computed, so it says one thing only
  pub walks_walk : {st : State} {r : Reply} {l : List Slot} → Walks pb capacity st r l → length (filled st) ≤ capacity
      → (k : ℕ) → capacity < k + length st.processed
      → walk pb capacity k st ≡ ending r l
  unfolding walk
  walks_walk {st} t room zero more =
      let e : length (st.processed ++ st.waiting)
      ≡ length st.processed + length st.waiting = length-append st.processed st.waiting in
      let z : ⊥ = omega arith in absurd z
  walks_walk none_left room (suc k) more = refl
  walks_walk (met {p = p} {w = w} {s = s} {x = x} h) room (suc k) more = by (smallest pb.clauses (tested p s w)) refl
    where
      by : (o : Option ℕ) → smallest pb.clauses (tested p s w) ≡ o
          → followed pb capacity (tested_by pb capacity p s w o) (λ q. walk pb capacity k q)
          ≡ ending (satisfiable x (distance pb.variables x pb.target) (length (p ++ s ∷ w))) (p ++ s ∷ w)
      by (some y) e =
          ap (λ z. ending (satisfiable z (distance pb.variables z pb.target) (length (p ++ s ∷ w))) (p ++ s ∷ w))
          (smallest_same (smallest-some pb.clauses (tested p s w) y e) h)
      by none e = absurd (smallest-none pb.clauses (tested p s w) e x h.among h.satisfying)
  walks_walk (stuck {p = p} {w = w} {w' = u} {s = s} {c = c} out f fl) room (suc k) more =
      ap (λ o. followed pb capacity (tested_by pb capacity p s w o) (λ q. walk pb capacity k q))
      (none-smallest pb.clauses (tested p s w) out)
      ∙ ap (λ o. followed pb capacity (processed_by pb capacity p s w o) (λ q. walk pb capacity k q))
      (first_complete pb.clauses s.point c f)
      ∙ ap (λ x. followed pb capacity (expanded pb capacity (known p s c) s.depth x) (λ q. walk pb capacity k q))
      (fills-expand pb.permutations capacity (known p s c) s.point s.depth fl)
  walks_walk (goes_on {p = p} {w = w} {w' = u} {s = s} {c = c} out f fl t) room (suc k) more =
      let m = length_snoc p (with_number s c) in
      ap (λ o. followed pb capacity (tested_by pb capacity p s w o) (λ q. walk pb capacity k q))
      (none-smallest pb.clauses (tested p s w) out)
      ∙ ap (λ o. followed pb capacity (processed_by pb capacity p s w o) (λ q. walk pb capacity k q))
      (first_complete pb.clauses s.point c f)
      ∙ ap (λ x. followed pb capacity (expanded pb capacity (known p s c) s.depth x) (λ q. walk pb capacity k q))
      (fills-expand pb.permutations capacity (known p s c) s.point s.depth fl)
      ∙ walks_walk t (fills_room pb.permutations capacity (known p s c) s.point s.depth fl
      (le_trans (le_of_eq (length_moved p w (with_number s c) s)) room)) k (omega arith)

  -- from the target: the whole search, with at least one slot
  pub walked_walks : 1 ≤ capacity → Walks pb capacity (start pb) (walked pb capacity).reply (walked pb capacity).slots
  unfolding walked
  walked_walks h = walk_walks (suc capacity) [] (slot pb.target 0 0 ∷ []) h (omega arith)

  pub walks_walked : 1 ≤ capacity → {r : Reply} {l : List Slot} → Walks pb capacity (start pb) r l
      → ((walked pb capacity).reply ≡ r) × ((walked pb capacity).slots ≡ l)
  unfolding walked
  walks_walked h t =
      let e = walks_walk t h (suc capacity) (omega arith) in
      (ap (λ (x : Ending pb capacity). x.reply) e, ap (λ (x : Ending pb capacity). x.slots) e)
