-- The claim holds. Assumes nothing.
use Rattle.std.specs.Prelude.{List, [], ◌≡◌, ℕ, ◌≤◌, ◌^◌, length, take}
use Rattle.std.proofs.Common.{sym, ap, ◌∙◌, subst}
use Rattle.std.proofs.Math.Nat.{le-min}
use Rattle.math.specs.Laws.ListLaws.{map_in, map_out}
use Rattle.math.specs.Lists.{◌∈◌}
use Rattle.points.specs.Points.{distance, SatisfiesAll}
use Rattle.point_slices.specs.Slices.{SlotSlices}
use Rattle.formula.specs.Limits.{max_slots, capacity}
use Rattle.formula.specs.Reply.{satisfiable, unsatisfiable}
use Rattle.search_theory.specs.Walk.{Slot, points_in}
use Rattle.search.specs.Search.{search_slots, search_slices}
use Rattle.search.specs.Laws.Left.{search_points_left}
use Rattle.search.specs.Laws.Theorems.{search_nearest, search_exactly, search_bound, search_room, search_slot}
use Rattle.search.specs.Laws.Theorems.{search_smallest-filled, search_smallest}
use Rattle.certificate.specs.Writer.{length_needed}
use Rattle.checker.proofs.Soundness.{accepted_refutes}
use Rattle.claims.specs.Laws.Certificates.{short_reply, short_output, long_reply, long_rest, long_accepted}
use Rattle.claims.specs.Laws.SameChoice.{HouseChoice, same_house_choice}
use Rattle.claims.specs.Claim.{Sheet, formula_in, slices_in, problem_in, SearchAnswers}
use Rattle.claims.specs.Claim.{Meets, AtLeast, SmallestIn, InSlots, OnSheet, Certified, Claim}

-- the certificate of an unsatisfiable sheet, whatever the slots held and whatever the output is
certified : (s : Sheet) (slots : SlotSlices) (filled : ℕ) → SearchAnswers s slots (unsatisfiable filled)
    → (out : List ℕ) → Certified s slots filled (length_needed (problem_in s) filled) out
certified s slots filled a out =
    let f = formula_in s in
    let clauses = slices_in s in
    record {
      too_short = λ h. (
        short_reply f clauses slots filled a.reply out h,
        short_output f clauses slots filled a.reply out h,
      );
      answers = long_reply f clauses slots filled a.reply out;
      behind = long_rest f clauses slots filled a.reply out;
      checks = long_accepted f clauses slots filled a.reply out;
    }

-- as many slots as three slices of that length give
enough : (slots : SlotSlices) (m : ℕ) → m ≤ max_slots → m ≤ length slots.points → m ≤ length slots.falsified
    → m ≤ length slots.depths → m ≤ capacity slots
unfolding capacity
enough slots m a b c d = le-min a (le-min b (le-min c d))

-- ---- a sheet that is met

module _ (s : Sheet) (slots : SlotSlices) (x d filled : ℕ) (a : SearchAnswers s slots (satisfiable x d filled)) where
  abbrev l : List Slot
  l = search_slots (formula_in s) (slices_in s) (capacity slots)

  -- the choices in the filled slots are the points of the slots that the search fills
  slots_hold : take filled (search_slices (formula_in s) (slices_in s) slots).points ≡ points_in l
  slots_hold = (search_points_left (formula_in s) (slices_in s) slots (satisfiable x d filled) a.reply a.accepted
      ).front

  smallest_in_slots : InSlots s slots filled x × SmallestIn (InSlots s slots filled) (problem_in s) d x
  smallest_in_slots =
      let own = search_slot (formula_in s) (slices_in s) (capacity slots) x d filled a.reply in (
        subst (λ xs. x ∈ xs) (sym slots_hold)
            (subst (λ y. y ∈ points_in l) own.point (map_in (λ (t : Slot). t.point) own.among)),
        λ y m meets near.
            let t = map_out (λ (t : Slot). t.point) l (subst (λ xs. y ∈ xs) slots_hold m) in
            subst (λ z. x ≤ z) (sym t.2)
            (search_smallest-filled (formula_in s) (slices_in s) (capacity slots) x d filled a.reply t.0 t.1
            (subst (SatisfiesAll (problem_in s).clauses) t.2 meets.satisfying)
            (ap (λ z. distance (problem_in s).variables z (problem_in s).target) (sym t.2) ∙ near)),
      )

  nearest : Meets (problem_in s) x × (d ≡ distance (problem_in s).variables x (problem_in s).target)
      × AtLeast (problem_in s) d
  nearest =
      let n = search_nearest (formula_in s) (slices_in s) (capacity slots) x d filled a.reply in (
        record { within = n.within; satisfying = n.satisfying },
        n.changes,
        λ y m. n.nearest y m.within m.satisfying,
      )

  smallest : (problem_in s).permutations ≡ [] → SmallestIn OnSheet (problem_in s) d x
  smallest plain y on m near = search_smallest (formula_in s) (slices_in s) (capacity slots) plain x d filled a.reply y
      m.within m.satisfying near

  house_choice : (problem_in s).permutations ≡ [] → HouseChoice (problem_in s) x d
  house_choice plain = record { nearest = nearest; smallest = smallest plain }

pub claim : Claim
claim =
    record {
      nearest = nearest;
      exactly = λ s slots r a known.
          let e = search_exactly (formula_in s) (slices_in s) (capacity slots) r a.reply a.accepted known
          in (
            λ w. e.0 w.0 w.1,
            λ none. (
              length (search_slots (formula_in s) (slices_in s) (capacity slots)),
              e.1 none,
            ),
          );
      certified = certified;
      refutes = accepted_refutes;
      bound = λ s slots b filled a y m. search_bound (formula_in s) (slices_in s) (capacity slots) b filled
          a.reply y
          m.within m.satisfying;
      enough_room = λ s slots b filled few p q r a.
          search_room (formula_in s) (slices_in s) (capacity slots)
          (enough slots (2 ^ (problem_in s).variables) few p q r) b filled a.reply;
      smallest_in_slots = smallest_in_slots;
      smallest = smallest;
      same_choice = λ s t slots lent x d filled y e used a b plain-s plain-t same.
          same_house_choice (problem_in s) (problem_in t) same x d y e (house_choice s slots x d filled a plain-s)
          (house_choice t lent y e used b plain-t);
    }
