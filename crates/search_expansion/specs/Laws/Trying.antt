-- The loop over the variables of a set, whose flips are tried. Assumes nothing.
use Rattle.std.specs.Prelude.{true, List, ℕ, ◌+◌, ◌≤◌, ◌<◌, ◌^◌, length}
use Rattle.math.specs.Bits.{members}
use Rattle.points.specs.Laws.Contracts.{NextVariable}
use Rattle.search_expansion.specs.declared.Frame.{Frame}
use Rattle.search_expansion.specs.declared.Visit.{Visit}
use Rattle.search_expansion.specs.Laws.Filling.{listed_in, SlotsIndexed, Advances}
use Rattle.point_slices.specs.Slices.{SlotSlices}

-- the loop over the variables of the set `listed`: those of `left` are still to be tried, v the lowest of them, and the
-- links are an index of the points of the slots filled, which with those left are at most n more than before
pub record Trying (g : Frame) (slots₀ : SlotSlices) (filled₀ : ℕ) (from : Visit) (listed : ℕ)
    (slots : SlotSlices) (links : List ℕ) (filled left v : ℕ) : Type 0 where
  pub within : left < 2 ^ g.permutations.variables
  pub next : NextVariable left v
  pub advances : Advances (listed_in g) g.room from (members g.permutations.variables listed) filled₀ slots₀ true
      (members g.permutations.variables left) filled slots
  pub indexed : SlotsIndexed g slots links filled
  pub bounded : filled + length (members g.permutations.variables left) ≤ filled₀ + g.permutations.variables
