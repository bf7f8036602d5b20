-- 'Unsatisfiable' is answered exactly if no point satisfies, unless 'unknown' is. Assumes nothing.
use mathlib.Core.List.Memᴰ
use Rattle.std.specs.Prelude.{List, [], ◌∷◌, ◌++◌, ◌≡◌, refl, ℕ, suc, ◌≤◌, length}
use Rattle.std.proofs.Common.{subst}
use Rattle.points.specs.Points.{distance, SatisfiesAll}
use Rattle.formula.specs.Problem.{Problem, Unsatisfiable}
use Rattle.formula.specs.Reply.{Reply, satisfiable, unsatisfiable, unknown}
use Rattle.search_theory.proofs.Ends.{search_ends}
use Rattle.search_theory.specs.Laws.Invariants.{Ready, Ended, exhausted}
use Rattle.search_theory.specs.Laws.InvariantLaws.{symmetries_of}
use Rattle.search_theory.specs.Laws.Measure.{measure}
use Rattle.search_theory.proofs.Nearest.{found_nearest}
use Rattle.search_theory.specs.Walk.{Slot, with_number, State, start, Walks, none_left, met, stuck, goes_on}

module _ (pb : Problem) (capacity : ℕ) where
  -- an answer is one of three
  pub otherwise_unsatisfiable : {st : State} {r : Reply} {l : List Slot} → Walks pb capacity st r l
      → ((b filled : ℕ) → r ≡ unknown b filled → ⊥) → ((x d filled : ℕ) → r ≡ satisfiable x d filled → ⊥)
      → r ≡ unsatisfiable (length l)
  otherwise_unsatisfiable none_left known lost = refl
  otherwise_unsatisfiable (met {p = p} {w = w} {s = s} {x = x} h) known lost = absurd
      (lost x (distance pb.variables x pb.target) (length (p ++ s ∷ w)) refl)
  otherwise_unsatisfiable (stuck {p = p} {w' = u} {s = s} {c = c} n f g) known lost = absurd
      (known (suc s.depth) (length ((p ++ with_number s c ∷ []) ++ u)) refl)
  otherwise_unsatisfiable (goes_on n f g t) known lost = otherwise_unsatisfiable t known lost

module _ (pb : Problem) (capacity : ℕ) (ready : Ready pb) where
  -- nothing waits, but for a satisfying point something would
  refuted_ended : {filled : ℕ} {l : List Slot} → Ended pb capacity (unsatisfiable filled) l → Unsatisfiable pb
  refuted_ended (exhausted {p = p} i) y hy sat =
      Memᴰ.not-nil (measure pb capacity ready (SatisfiesAll pb.clauses) (λ z h. h) (symmetries_of pb ready) p []
      i y hy sat).among

  module _ (room : 1 ≤ capacity) where
    pub refuted : {filled : ℕ} {l : List Slot} → Walks pb capacity (start pb) (unsatisfiable filled) l
        → Unsatisfiable pb
    refuted t = refuted_ended (search_ends pb capacity ready room t)

    -- without a satisfying point none is handed back
    pub none_found : Unsatisfiable pb → {r : Reply} {l : List Slot} → Walks pb capacity (start pb) r l
        → ((b filled : ℕ) → r ≡ unknown b filled → ⊥) → r ≡ unsatisfiable (length l)
    none_found none {l = l} t known =
        otherwise_unsatisfiable pb capacity t known
        (λ x d filled e. let m = found_nearest pb capacity ready room
        (subst (λ r. Walks pb capacity (start pb) r l) e t) in
        none x m.within m.satisfying)

    -- D3.3: "Unless 'no room' is said, 'cannot be met' is said exactly when none of the 2^n choices meets the rules."
    pub unsatisfiable_exactly : {r : Reply} {l : List Slot} → Walks pb capacity (start pb) r l
        → ((b filled : ℕ) → r ≡ unknown b filled → ⊥)
        → ((filled : ℕ) → r ≡ unsatisfiable filled → Unsatisfiable pb)
        × (Unsatisfiable pb → r ≡ unsatisfiable (length l))
    unsatisfiable_exactly {l = l} t known = (
      λ filled e. refuted (subst (λ r. Walks pb capacity (start pb) r l) e t),
      λ none.
          none_found none t known,
    )
