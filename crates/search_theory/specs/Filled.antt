-- Document 01, 'Walk': slots in the front of lent slices. Assumes nothing.
use Rattle.std.specs.Prelude.{List, map}
use Rattle.math.specs.Lists.{over}
use Rattle.point_slices.specs.Slices.{SlotSlices}
use Rattle.search_theory.specs.Walk.{Slot, points_in}

-- W10: "Slots beyond those filled are unchanged.": the parts of the slots l over the fronts of the slices s
abbrev pub filled_with : List Slot → SlotSlices → SlotSlices
filled_with l s =
    record {
      points = over (points_in l) s.points;
      points_rest = s.points_rest;
      falsified = over (map (λ (t : Slot). t.falsified) l) s.falsified;
      depths = over (map (λ (t : Slot). t.depth) l) s.depths;
    }
