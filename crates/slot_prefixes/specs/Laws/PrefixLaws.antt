-- The search on the fronts of longer lists, what its answer says of their room, and what a certificate takes: slots,
-- and bytes. Assumes nothing.
use Rattle.std.specs.Prelude.{Result, Ok, Err, Bool, true, false, cond, List, ◌++◌, ◌≡◌, refl, ℕ, ◌≤◌, ◌<◌, min, leb, length, take}
use Rattle.std.proofs.Common.{sym, ap, ◌∙◌, zero-le, le_refl, le_trans, le_of_eq, arith, length-take-le, take_at, leb-true, leb-false, le-leb}
use Rattle.std.proofs.lemmas.Bool.{lt-leb}
use Rattle.point_slices.specs.Slices.{ClauseSlices, SlotSlices, slot_slices, whole_slots}
use Rattle.formula.specs.declared.Formula.{Formula}
use Rattle.formula.specs.Limits.{max_slots, capacity}
use Rattle.formula.specs.Reply.{Reply, refused, satisfiable, unsatisfiable, unknown, parsed, written, opened, accepted}
use Rattle.formula.specs.Reply.{no_fault}
use Rattle.formula.specs.declared.reasons.Refusal.{Refusal}
use Rattle.search.specs.declared.Found.{Found}
use Rattle.search.specs.Contract.{Searched}
use Rattle.search.specs.Laws.Accepted.{lent_enough, lent_of_faults, some_passes}
use Rattle.search.specs.Search.{search_fault}
use Rattle.slot_columns.specs.Laws.Copies.{Within}
use Rattle.slot_columns.specs.Laws.SlotLaws.{words-whole}

-- W8: "answer no room"
abbrev pub no_room : Reply → Bool
no_room (unknown b filled) = true
no_room (refused code place) = false
no_room (satisfiable x d filled) = false
no_room (unsatisfiable filled) = false
no_room parsed = false
no_room (written size) = false
no_room opened = false
no_room accepted = false

-- the bytes of the certificate that was written
abbrev pub bytes_in : Result ℕ Refusal → ℕ
bytes_in (Ok size) = size
bytes_in (Err r) = 0

-- R16: as many slots as are filled, or none where that is more than can be used of those lent
unfoldable pub taken : ℕ → ℕ → ℕ
taken filled lent = cond (leb filled (min max_slots lent)) filled 0

-- what is taken, by how many can be used
pub taken-all : (filled lent m : ℕ) → m ≡ min max_slots lent → filled ≤ m → filled ≡ taken filled lent
unfolding taken
taken-all filled lent m e h = sym (ap (λ b. cond b filled 0) (ap (leb filled) (sym e) ∙ le-leb filled m h))

pub taken_none : (filled lent m : ℕ) → m ≡ min max_slots lent → m < filled → 0 ≡ taken filled lent
unfolding taken
taken_none filled lent m e h = sym (ap (λ b. cond b filled 0) (ap (leb filled) (sym e) ∙ lt-leb filled m h))

-- so it is lent, and it is enough where what can be used is
pub record Takes (filled lent k : ℕ) : Type 0 where
  pub taken_used : k ≤ min max_slots lent
  pub taken_enough : leb filled k ≡ leb filled (min max_slots lent)

pub taken_takes : (filled lent : ℕ) → Takes filled lent (taken filled lent)
unfolding taken
taken_takes filled lent = by (leb filled (min max_slots lent)) refl
  where
    by : (b : Bool) → leb filled (min max_slots lent) ≡ b → Takes filled lent (cond b filled 0)
    by true e =
        record {
          taken_used = leb-true filled (min max_slots lent) e;
          taken_enough = le-leb filled filled (le_refl filled) ∙ sym e;
        }
    by false e =
        let l = leb-false filled (min max_slots lent) e in
        record {
          taken_used = zero-le;
          taken_enough = lt-leb filled 0 (let z : 0 < filled = omega (arith, l) in z) ∙ sym e;
        }

-- three lists that the search leaves are the fronts of longer ones
pub searched_fronts : (k : ℕ) (f : Formula) (clauses : ClauseSlices) (slots₀ : SlotSlices) (r : Found)
    (points₁ falsified₁ depths₁ points₂ falsified₂ depths₂ : List ℕ)
    → length points₁ ≡ k → length falsified₁ ≡ k → length depths₁ ≡ k
    → Searched f clauses slots₀ r (slot_slices points₁ falsified₁ depths₁)
    → Searched f clauses slots₀ r (slot_slices (take k (points₁ ++ points₂)) (take k (falsified₁ ++ falsified₂))
    (take k (depths₁ ++ depths₂)))
searched_fronts k f clauses slots₀ r points₁ falsified₁ depths₁ points₂ falsified₂ depths₂ e₁ e₂ e₃ s =
    record {
      reply = s.reply;
      point = s.point;
      slots = (λ i. slot_slices (take_at points₁ points₂ k e₁ i) (take_at falsified₁ falsified₂ k e₂ i)
          (take_at depths₁ depths₂ k e₃ i)) ∙ s.slots;
    }

-- k places that are room for a slot: on them nothing is refused where nothing is with k slots lent
pub prefix_accepted : (k : ℕ) (f : Formula) (clauses : ClauseSlices) (p n d : List ℕ)
    → Within k k (length p) (length n) (length d) → search_fault f clauses k ≡ no_fault
    → search_fault f clauses (capacity (slot_slices (take k p) (take k n) (take k d))) ≡ no_fault
prefix_accepted k f clauses p n d within h =
    let some = lent_of_faults f clauses k h in
    let long : (l : List ℕ) → k ≤ length l → 1 ≤ length (take k l)
    = λ l e. le_trans some (le_of_eq (sym (length-take-le k l e))) in
    some_passes f clauses k (capacity (slot_slices (take k p) (take k n) (take k d)))
    (le_trans (lent_enough 1 (whole_slots (take k p) (take k n) (take k d)) (omega arith) (long p within.in_points)
    (long n within.in_falsified) (long d within.in_depths))
    (le_of_eq (sym (ap capacity (words-whole (take k p) (take k n) (take k d)))))) h
