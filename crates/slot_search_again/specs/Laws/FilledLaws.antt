-- Laws of how many slots a search fills, and of a search on fewer slots than are lent: unless it finds no room, its
-- answer and its slots are those on all of them. Assumes nothing.
use Rattle.std.specs.Prelude.{false, [], ◌∷◌, ◌≡◌, refl, ℕ, ◌≤◌}
use Rattle.std.proofs.Common.{true≢false, ◌∙◌, le_trans, arith}
use Rattle.std.proofs.Math.Path.{sym, ap}
use Rattle.std.proofs.Math.ListN.{length}
use Rattle.point_slices.specs.Slices.{ClauseSlices}
use Rattle.formula.specs.declared.Formula.{Formula}
use Rattle.formula.specs.Problem.{Problem, problem_of}
use Rattle.formula.specs.Refusals.{formula_fault, permutation_fault, symmetry_fault}
use Rattle.formula.specs.Reply.{unknown, Fault, no_fault, fault, first, unless}
use Rattle.formula.specs.Laws.ReplyLaws.{unless-none}
use Rattle.search.specs.Search.{search_fault, search_reply, search_slots}
use Rattle.search.specs.Laws.Accepted.{slot_complete, ready_of_faults, lent_of_faults}
use Rattle.search.specs.Laws.Theorems.{slots_filled}
use Rattle.search_theory.specs.Walk.{walked}
use Rattle.search_theory.proofs.Ends.{walks_reported}
use Rattle.search_theory.specs.Laws.MoreRoom.{walks_more}
use Rattle.search_theory.specs.Laws.Promised.{reported}
use Rattle.search_theory.proofs.WalkLaws.{walked_walks, walks_walked}
use Rattle.slot_prefixes.specs.Laws.PrefixLaws.{no_room}

module _ (f : Formula) (clauses : ClauseSlices) where
  abbrev pb : Problem
  pb = problem_of f clauses

  -- ---- "with slots filled"

  module _ (lent : ℕ) where
    abbrev count : ℕ
    count = reported (search_reply f clauses lent)

    pub count-filled : search_fault f clauses lent ≡ no_fault → count ≡ length (search_slots f clauses lent)
    unfolding search_reply search_slots
    count-filled h = ap reported (unless-none (search_fault f clauses lent) h (walked pb lent).reply)
        ∙ walks_reported pb lent (walked_walks pb lent (lent_of_faults f clauses lent h))

    pub count_refused : (code place : ℕ) → search_fault f clauses lent ≡ fault code place → count ≡ 0
    unfolding search_reply unless
    count_refused code place h = ap (λ t. reported (unless t (walked pb lent).reply)) h

    -- a refusal is not 'no room'
    pub room_refused : (code place : ℕ) → search_fault f clauses lent ≡ fault code place
        → no_room (search_reply f clauses lent) ≡ false
    unfolding search_reply unless
    room_refused code place h = ap (λ t. no_room (unless t (walked pb lent).reply)) h

    -- no more than are lent
    pub count-lent : (t : Fault) → search_fault f clauses lent ≡ t → count ≤ lent
    unfolding search_slots
    count-lent no_fault h =
        let room = lent_of_faults f clauses lent h in
        let few : length (search_slots f clauses lent)
        ≤ lent = slots_filled pb lent (ready_of_faults f clauses lent h) room (walked_walks pb lent room) in
        let e : count ≡ length (search_slots f clauses lent) = count-filled h in
        (let z : count ≤ lent = omega (arith, e, few) in z)
    count-lent (fault code place) h =
        let e : count ≡ 0 = count_refused code place h in (let z : count ≤ lent = omega (arith, e) in z)

  -- ---- fewer slots than are lent

  -- the search on k slots is that on m
  pub record SameSearch (k m : ℕ) : Type 0 where
    pub same_reply : search_reply f clauses k ≡ search_reply f clauses m
    pub same_fault : search_fault f clauses k ≡ search_fault f clauses m
    pub same_slots : search_fault f clauses k ≡ no_fault → search_slots f clauses k ≡ search_slots f clauses m

  pub same_lent : {k m : ℕ} → k ≡ m → SameSearch k m
  same_lent e =
      record {
        same_reply = ap (search_reply f clauses) e;
        same_fault = ap (search_fault f clauses) e;
        same_slots = λ _. ap (search_slots f clauses) e;
      }

  module _ (k m : ℕ) (some : 1 ≤ k) (more : k ≤ m) (settled : no_room (search_reply f clauses k) ≡ false) where
    -- rows 10 to 12 look at no slot, and row 13 at whether there is one
    faults : search_fault f clauses k ≡ search_fault f clauses m
    unfolding search_fault
    faults =
        let row11 = permutation_fault pb.variables pb.permutations in
        let row12 = symmetry_fault pb.clauses pb.permutations in
        ap (λ t. first (formula_fault f clauses ∷ row11 ∷ row12 ∷ t ∷ []))
        (slot_complete k (λ z. omega (arith, z, some)) ∙ sym (slot_complete m (λ z. omega (arith, z, some, more))))

    answer : search_fault f clauses k ≡ no_fault → search_reply f clauses k ≡ (walked pb k).reply
    unfolding search_reply
    answer h = unless-none (search_fault f clauses k) h (walked pb k).reply

    known : search_fault f clauses k ≡ no_fault → (b filled : ℕ) → (walked pb k).reply ≡ unknown b filled → ⊥
    known h b filled e = true≢false (sym (ap no_room (answer h ∙ e)) ∙ settled)

    walks : search_fault f clauses k ≡ no_fault
        → ((walked pb m).reply ≡ (walked pb k).reply) × ((walked pb m).slots ≡ (walked pb k).slots)
    walks h = walks_walked pb m (le_trans some more) (walks_more more (known h) (walked_walks pb k some))

    replies : (t : Fault) → search_fault f clauses k ≡ t → search_reply f clauses k ≡ search_reply f clauses m
    unfolding search_reply unless
    replies no_fault h = answer h ∙ sym (walks h).0
        ∙ sym (unless-none (search_fault f clauses m) (sym faults ∙ h) (walked pb m).reply)
    replies (fault code place) h = ap (λ t. unless t (walked pb k).reply) h
        ∙ ap (λ t. unless t (walked pb m).reply) (sym h ∙ faults)

    slots : search_fault f clauses k ≡ no_fault → search_slots f clauses k ≡ search_slots f clauses m
    unfolding search_slots
    slots h = sym (walks h).1

    pub same_settled : SameSearch k m
    same_settled =
        record { same_reply = replies (search_fault f clauses k) refl; same_fault = faults; same_slots = slots }
