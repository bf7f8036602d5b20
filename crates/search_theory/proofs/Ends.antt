-- How a search ends: in a state that satisfies the invariants, from which its answer is the next step. Everything that
-- is promised of an answer follows from this and the invariants. Assumes nothing.
use Rattle.std.specs.Prelude.{List, [], ◌∷◌, ◌++◌, ◌≡◌, refl, ℕ, ◌≤◌, length}
use Rattle.std.proofs.Common.{append-nil, subst}
use Rattle.points.specs.Points.{variables, Numbered, FirstFalsified}
use Rattle.formula.specs.Problem.{Problem}
use Rattle.formula.specs.Reply.{Reply}
use Rattle.search_theory.specs.Laws.Promised.{reported}
use Rattle.search_theory.proofs.ExpansionLaws.{numbered-moved, begins_expanding, fills_expanding}
use Rattle.search_theory.proofs.ExpansionLaws.{invariants_step}
use Rattle.search_theory.specs.Laws.InvariantLaws.{invariants_start}
use Rattle.search_theory.specs.Laws.Invariants.{Ready, Filled, Family, Invariants, Expanding, Ended, exhausted}
use Rattle.search_theory.specs.Laws.Invariants.{reached, blocked}
use Rattle.search_theory.specs.Walk.{Slot, with_number, State, start, full, Fills, Walks, none_left, met, stuck}
use Rattle.search_theory.specs.Walk.{goes_on}

module _ (pb : Problem) (capacity : ℕ) where
  -- where a flip found no room, the invariants hold of the slots filled so far
  pub blocked_expanding : (p w : List Slot) (s : Slot) (c : Numbered) → FirstFalsified pb.clauses s.point c
      → Invariants pb capacity p (s ∷ w) → {u : List Slot}
      → Fills pb.permutations capacity (p ++ with_number s c ∷ []) s.point s.depth
      (variables pb.variables c.clause) w (full u)
      → Expanding pb capacity (p ++ with_number s c ∷ []) (with_number s c) u
  blocked_expanding p w s c f i g =
      fills_expanding pb capacity (p ++ with_number s c ∷ []) (with_number s c) (numbered-moved pb capacity p w s c f) g
      (λ v m. m)
      (begins_expanding pb capacity p w s c f i)

  -- the invariants hold in every state of the search, so in the last
  pub walks_end : {st : State} {r : Reply} {l : List Slot} → Walks pb capacity st r l
      → Invariants pb capacity st.processed st.waiting → Ended pb capacity r l
  walks_end none_left i = exhausted i
  walks_end (met h) i = reached i h
  walks_end (stuck n f g) i = blocked i n f g
  walks_end (goes_on {p = p} {w = w} {s = s} {c = c} n f g t) i =
      walks_end t (invariants_step pb capacity p w s c f i n g)

  pub search_ends : Ready pb → 1 ≤ capacity → {r : Reply} {l : List Slot} → Walks pb capacity (start pb) r l
      → Ended pb capacity r l
  search_ends ready room t = walks_end t (invariants_start pb capacity ready room)

  -- ---- what holds of the slots however it ends

  pub ended-filled : {r : Reply} {l : List Slot} → Ended pb capacity r l → Filled pb capacity l
  ended-filled (exhausted {p = p} i) = subst (Filled pb capacity) (append-nil p) i.filled
  ended-filled (reached i h) = i.filled
  ended-filled (blocked {p = p} {w = w} {s = s} {c = c} i n f g) = (blocked_expanding p w s c f i g).filled

  pub ended_family : {r : Reply} {l : List Slot} → Ended pb capacity r l → (k : ℕ) × Family pb l k
  ended_family (exhausted {p = p} i) = (length p, subst (λ l. Family pb l (length p)) (append-nil p) i.family)
  ended_family (reached {p = p} i h) = (length p, i.family)
  ended_family (blocked {p = p} {w = w} {s = s} {c = c} i n f g) =
      (length (p ++ with_number s c ∷ []), (blocked_expanding p w s c f i g).family)

  -- the number reported is that of the slots filled
  pub walks_reported : {st : State} {r : Reply} {l : List Slot} → Walks pb capacity st r l → reported r ≡ length l
  walks_reported none_left = refl
  walks_reported (met h) = refl
  walks_reported (stuck n f g) = refl
  walks_reported (goes_on n f g t) = walks_reported t
