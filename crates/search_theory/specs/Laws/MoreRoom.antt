-- An answer other than 'no room' stays with more slots, and so do the slots filled. Assumes nothing.
use Rattle.std.specs.Prelude.{List, ◌≡◌, refl, ℕ, ◌≤◌}
use Rattle.std.proofs.Common.{lt_of_lt_of_le}
use Rattle.permutation_theory.specs.Permutations.{Permutation}
use Rattle.formula.specs.Problem.{Problem}
use Rattle.formula.specs.Reply.{Reply, unknown}
use Rattle.search_theory.specs.Walk.{Slot, State, complete, Fills, no_more, skipped, filled_next}
use Rattle.search_theory.specs.Walk.{Walks, none_left, met, stuck, goes_on}

module _ {few many : ℕ} (more : few ≤ many) where
  -- flips that found room
  fills-more : {es : List Permutation} {known : List Slot} {x d : ℕ} {vs : List ℕ} {w u : List Slot}
      → Fills es few known x d vs w (complete u) → Fills es many known x d vs w (complete u)
  fills-more no_more = no_more
  fills-more (skipped c f) = skipped c (fills-more f)
  fills-more (filled_next out room f) = filled_next out (lt_of_lt_of_le room more) (fills-more f)

  pub walks_more : {pb : Problem} {st : State} {r : Reply} {l : List Slot}
      → ((b filled : ℕ) → r ≡ unknown b filled → ⊥) → Walks pb few st r l → Walks pb many st r l
  walks_more known none_left = none_left
  walks_more known (met m) = met m
  walks_more known (stuck n first f) = absurd (known _ _ refl)
  walks_more known (goes_on n first f t) = goes_on n first (fills-more f) (walks_more known t)
