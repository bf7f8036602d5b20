-- Laws of the loop over the variables of a set: it begins, goes on with the next variable, stops where there is no
-- room, and ends; each turn leaves one variable less. Assumes nothing.
use Rattle.std.specs.Prelude.{Bool, true, false, Ok, Err, List, [], ◌∷◌, refl, ◌≡◌, ℕ, suc, ◌+◌, ◌*◌, ◌≤◌, ◌<◌, ◌^◌, length}
use Rattle.std.proofs.Common.{sym, ap, subst, ◌∙◌, le_of_eq, arith}
use Rattle.math.specs.Laws.BitLaws.{flip-lt}
use Rattle.math.specs.Bits.{flip, members}
use Rattle.math.specs.Laws.SetLaws.{members_next, members_few}
use Rattle.points.specs.Laws.Contracts.{NextVariable}
use Rattle.points.specs.Laws.NextLaws.{next_lowest, next_none}
use Rattle.points.specs.Points.{point_digits}
use Rattle.search_expansion.specs.declared.Frame.{Frame}
use Rattle.search_expansion.specs.declared.Visit.{Visit}
use Rattle.search_expansion.specs.Laws.Filling.{listed_in, SlotsIndexed, Fillable, Headed, Follows, Advances}
use Rattle.search_expansion.specs.Laws.Filling.{Tries}
use Rattle.search_expansion.specs.Laws.FillingLaws.{lends_still, advances_begins, advances_on, advances_stuck}
use Rattle.point_slices.specs.Slices.{SlotSlices, slot_slices}
use Rattle.search_expansion.specs.Laws.Memory.{SameSizes}
use Rattle.search_expansion.specs.Laws.Trying.{Trying}

-- what lets a flip be tried lets the next one be tried: the slices are as long as they were
pub trying_fillable : {g : Frame} {moved : List ℕ}
    {points₀ falsified₀ depths₀ links₀ points falsified depths links : List ℕ} {filled₀ : ℕ} {from : Visit}
    {listed filled left v : ℕ}
    → Fillable g (slot_slices points₀ falsified₀ depths₀) links₀ moved filled₀ from
    → Trying g (slot_slices points₀ falsified₀ depths₀) filled₀ from listed (slot_slices points falsified depths)
    links filled left v
    → SameSizes points₀ falsified₀ depths₀ links₀ points falsified depths links
    → Fillable g (slot_slices points falsified depths) links moved filled from
trying_fillable {g} f t same =
    let c = f.coverable in
    record {
      coverable = record {
        askable = record { few = c.askable.few; indexed = t.indexed; narrow = c.askable.narrow };
        permuting = c.permuting;
        imaged = c.imaged;
      };
      room = lends_still _ _ f.room same.points_size same.falsified_size same.depths_size;
      most = f.most;
      shallow = f.shallow;
      linked = subst (λ (j : ℕ). g.heads + 2 * g.heads ≤ j) (sym same.links_size) f.linked;
    }

module _ (g : Frame) (slots₀ : SlotSlices) (filled₀ : ℕ) (from : Visit) (listed : ℕ)
    (few : g.permutations.variables ≤ point_digits) where
  abbrev n : ℕ
  n = g.permutations.variables

  -- from the start to so many slots filled, and the variables vs to come
  abbrev Onwards : Bool → List ℕ → ℕ → SlotSlices → Type 0
  Onwards enough vs filled slots = Advances (listed_in g) g.room from (members n listed) filled₀ slots₀ enough
      vs filled slots

  pub trying_begins : {v : ℕ} {links : List ℕ} → listed < 2 ^ n → NextVariable listed v
      → SlotsIndexed g slots₀ links filled₀
      → Trying g slots₀ filled₀ from listed slots₀ links filled₀ listed v
  trying_begins lt next t =
      let less = members_few n listed in
      record {
        within = lt;
        next = next;
        advances = advances_begins (listed_in g) g.room from (members n listed) filled₀ slots₀;
        indexed = t;
        bounded = omega arith;
      }

  module _ {slots : SlotSlices} {links : List ℕ} {filled left v : ℕ}
      (t : Trying g slots₀ filled₀ from listed slots links filled left v) where
    -- the variables left: v first
    first : v < n → members n left ≡ v ∷ members n (flip left v)
    first lt = members_next n left v (next_lowest n left v few t.next lt) lt

    forward : v < n → Onwards true (v ∷ members n (flip left v)) filled slots
    forward lt = subst (λ vs. Onwards true vs filled slots) (first lt) t.advances

    fewer : (left' : ℕ) → v < n → left' ≡ flip left v → suc (length (members n left')) ≡ length (members n left)
    fewer left' lt q = ap (λ s. suc (length (members n s))) q ∙ sym (ap length (first lt))

    pub trying_less : (left' : ℕ) → v < n → left' ≡ flip left v → length (members n left') < length (members n left)
    trying_less left' lt q = le_of_eq (fewer left' lt q)

    -- the next slot has a head, if there is one
    pub trying_headed : v < n → Headed g (filled₀ + n) → Headed g (filled + 1)
    trying_headed lt headed j below =
        let less = fewer (flip left v) lt refl in
        let bounded = t.bounded in
        headed j (omega arith)

    -- the flip of v tried, it found the slot that it was to fill, or no slot
    module _ {slots' : SlotSlices} {filled' : ℕ} (lt : v < n) where
      pub trying_goes_on : {links' : List ℕ} {v' : ℕ}
          → Tries (listed_in g) g.room from v filled slots (Ok filled') slots'
          → Follows g filled slots' links' filled'
          → (left' : ℕ) → left' ≡ flip left v → NextVariable left' v'
          → Trying g slots₀ filled₀ from listed slots' links' filled' left' v'
      trying_goes_on tried follows left' q next =
          let less = fewer left' lt q in
          let bounded = t.bounded in
          let one = follows.one in
          record {
            within = subst (λ (s : ℕ). s < 2 ^ n) (sym q) (flip-lt n left v t.within lt);
            next = next;
            advances = subst (λ (s : ℕ). Onwards true (members n s) filled' slots') (sym q)
                (advances_on (listed_in g) g.room from (forward lt) (tried (members n (flip left v))));
            indexed = follows.indexed;
            bounded = omega arith;
          }

      pub trying_stops : Tries (listed_in g) g.room from v filled slots (Err filled') slots'
          → Onwards false [] filled' slots'
      trying_stops tried =
          advances_stuck (listed_in g) g.room from []
          (advances_on (listed_in g) g.room from (forward lt) (tried (members n (flip left v))))

    pub trying_ends : n ≤ v → Onwards true [] filled slots
    trying_ends ge = subst (λ vs. Onwards true vs filled slots) (next_none n left v few t.next t.within ge)
        t.advances
