-- The worked cases of document 01 hold of the definitions: by computation, or by one or two steps of the walk where n,
-- wish and slots are open. Assumes nothing.
use Rattle.std.specs.Prelude.{true, ◌&&◌, List, [], ◌∷◌, ◌≡◌, refl, ℕ, zero, suc, ◌^◌, ◌≤◌, ◌<◌, leb, ltb, length}
use mathlib.Core.List.Memᴰ
use Rattle.std.proofs.Common.{sym, ap, ◌∙◌, subst, zero-le, suc-le-suc, le_trans, le_of_eq, not-suc-le-zero, lit≤, leb-true, ltb-true, lt-ltb}
use Rattle.math.specs.Bits.{bit, flip}
use Rattle.math.specs.Laws.ListLaws.{and_split, and_join}
use Rattle.math.specs.Laws.SetLaws.{members-none}
use Rattle.math.specs.Lists.{◌∈◌, over}
use Rattle.points.specs.Laws.PointLaws.{no_names, both_ways}
use Rattle.points.specs.Points.{Satisfies, SatisfiesAll, Numbered, FirstFalsified, empty_clause, variables, listed}
use Rattle.points.specs.Points.{Smallest, NoneSatisfies}
use Rattle.point_slices.specs.Slices.{ClauseSlices, whole_clauses, whole_slots}
use Rattle.point_theory.specs.Laws.Distance.{distance_self}
use Rattle.formula.specs.Laws.RefusalLaws.{fits_complete}
use Rattle.formula.specs.Laws.ReplyLaws.{first_join, test_passed, unless-none, satisfiable-not_refused}
use Rattle.formula.specs.Laws.ReplyLaws.{unsatisfiable_not_refused, satisfiable-not_unknown, unsatisfiable_not_unknown}
use Rattle.formula.specs.Limits.{max_variables}
use Rattle.formula.specs.Problem.{problem_of}
use Rattle.formula.specs.Refusals.{Fits, fits, formula_fault, permutation_fault, symmetry_fault}
use Rattle.formula.specs.Reply.{Reply, refused, satisfiable, unknown, accepted, no_fault, first}
use Rattle.search_theory.specs.Filled.{filled_with}
use Rattle.search_theory.proofs.LevelLaws.{tested-first}
use Rattle.search_theory.proofs.WalkLaws.{walks_walked}
use Rattle.search_theory.specs.Walk.{Slot, slot, start, Fills, no_more, complete, tested, Walks, met, goes_on}
use Rattle.search_theory.specs.Walk.{none_left, walked}
use Rattle.search.specs.Laws.Accepted.{more-answers}
use Rattle.search.specs.Search.{slot_fault, search_fault}
use Rattle.search.specs.Search.{search_reply, search_slots}
use Rattle.certificate.specs.Certificate.{contents_of}
use Rattle.certificate.specs.Writer.{certificate_of}
use Rattle.checker.specs.Checker.{check_reply}
use Rattle.dimacs_format.specs.Laws.Example.{satisfiable_text_lem}
use Rattle.dimacs_format.specs.Reader.{read_reply, read_formula, read_clauses}
use Rattle.claims.specs.Cases.{Case, sizes_of, certificate_in, Given, Holds, with_slots, AllHold, bare, any_sheet}
use Rattle.claims.specs.Cases.{clauses_a, case_a, case_a_swap, case_a_3, case_b, case_none, case_empty}
use Rattle.claims.specs.Cases.{case_both, cases, Yields}

hold_A_swap : Holds case_a_swap
unfolding search_reply search_slots certificate_of contents_of bit flip over
hold_A_swap = record { answered = refl; filled = refl; certified = refl }

hold_A : Holds case_a
unfolding search_reply search_slots bit flip
hold_A = record { answered = refl; filled = refl; certified = tt }

hold_A_3 : Holds case_a_3
unfolding search_reply bit flip
hold_A_3 = record { answered = refl; filled = tt; certified = tt }

hold_B : Holds case_b
unfolding search_reply bit flip
hold_B = record { answered = refl; filled = tt; certified = tt }

-- ---- the cases for every n, wish and number of slots

-- what the test of such a case says
record AnySheet (n target lent : ℕ) : Type 0 where
  pub some-variable : 1 ≤ n
  pub few_variables : n ≤ max_variables
  pub target_below : target < 2 ^ n
  pub some-slot : 1 ≤ lent

any_sheet_lem : (n target lent : ℕ) → any_sheet n target lent ≡ true → AnySheet n target lent
any_sheet_lem n target lent h =
    let a = and_split (leb 1 n && leb n max_variables && ltb target (2 ^ n)) (leb 1 lent) h in
    let b = and_split (leb 1 n && leb n max_variables) (ltb target (2 ^ n)) a.0 in
    let c = and_split (leb 1 n) (leb n max_variables) b.0 in
    record {
      some-variable = leb-true 1 n c.0;
      few_variables = leb-true n max_variables c.1;
      target_below = ltb-true target (2 ^ n) b.1;
      some-slot = leb-true 1 lent a.1;
    }

-- where the clauses fit, the answer to a formula without permutations is that of the walk
bare-answers : (n m target lent : ℕ) (clauses : ClauseSlices) → Fits n m clauses → target < 2 ^ n → 1 ≤ lent
    → {r : Reply} {l : List Slot}
    → Walks (problem_of (bare n m target) clauses) lent (start (problem_of (bare n m target) clauses)) r l
    → search_reply (bare n m target) clauses lent ≡ r
unfolding search_reply search_fault formula_fault problem_of permutation_fault symmetry_fault slot_fault first
bare-answers n m target zero clauses fit low some t = absurd (not-suc-le-zero some)
bare-answers n m target (suc k) clauses fit low some t =
    let f = bare n m target in
    unless-none (search_fault f clauses (suc k))
    (first_join (formula_fault f clauses) (no_fault ∷ no_fault ∷ no_fault ∷ [])
    (test_passed (fits n m clauses && ltb target (2 ^ n)) no_fault 10 0
    (and_join (fits n m clauses) (ltb target (2 ^ n)) (fits_complete n m clauses fit) (lt-ltb target (2 ^ n) low)) refl)
    refl)
    (walked (problem_of f clauses) (suc k)).reply
    ∙ (walks_walked (problem_of f clauses) (suc k) some t).0

-- one clause that lists the same variables both ways fits
one-fits : (n s : ℕ) → 1 ≤ n → n ≤ max_variables → s < 2 ^ n → Fits n 1 (whole_clauses (s ∷ []) (s ∷ []))
one-fits n s some few low =
    record {
      some-variable = some;
      few_variables = few;
      few_clauses_lem = lit≤ tt;
      positive-length = refl;
      negative-length = refl;
      positive-below = below;
      negative-below = below;
    }
  where
    below : (x : ℕ) → x ∈ (s ∷ []) → x < 2 ^ n
    below x (Memᴰ.head e) = subst (λ (y : ℕ). y < 2 ^ n) (sym e) low
    below x (Memᴰ.tail m) = absurd (Memᴰ.not-nil m)

-- at first the wish is tested alone
tested_wish : (target y : ℕ) → y ∈ tested [] (slot target 0 0) [] → y ≡ target
unfolding tested
tested_wish target y (Memᴰ.head e) = e
tested_wish target y (Memᴰ.tail m) = absurd (Memᴰ.not-nil m)

wish_met : (cs : List Numbered) (target : ℕ) → SatisfiesAll cs target
    → Smallest cs (tested [] (slot target 0 0) []) target
wish_met cs target meets =
    record {
      among = tested-first [] [] (slot target 0 0);
      satisfying = meets;
      least = λ y m sat. le_of_eq (sym (tested_wish target y m));
    }

wish_unmet : (cs : List Numbered) (target : ℕ) → (SatisfiesAll cs target → ⊥)
    → NoneSatisfies cs (tested [] (slot target 0 0) [])
wish_unmet cs target fails y m sat = fails (subst (SatisfiesAll cs) (tested_wish target y m) sat)

-- "C = 0": the wish meets all rules, and differs from itself in no name
hold_none : (n target lent : ℕ) → any_sheet n target lent ≡ true → Holds (case_none.case n target lent)
unfolding problem_of
hold_none n target lent h =
    let s = any_sheet_lem n target lent h in
    record {
      answered = bare-answers n 0 target lent (whole_clauses [] [])
          (record {
            some-variable = s.some-variable;
            few_variables = s.few_variables;
            few_clauses_lem = zero-le;
            positive-length = refl;
            negative-length = refl;
            positive-below = λ x m. absurd (Memᴰ.not-nil m);
            negative-below = λ x m. absurd (Memᴰ.not-nil m);
          }) s.target_below s.some-slot (met (wish_met [] target (λ c m. absurd (Memᴰ.not-nil m))))
          ∙ ap (λ (d : ℕ). satisfiable target d 1) (distance_self n target);
      filled = tt;
      certified = tt;
    }

no_variables : (n : ℕ) → variables n empty_clause ≡ []
unfolding variables listed
no_variables n = members-none n

-- "One empty rule": the wish falsifies it, and no name is listed there
hold_empty : (n target lent : ℕ) → any_sheet n target lent ≡ true → Holds (case_empty.case n target lent)
unfolding problem_of
hold_empty n target lent h =
    let s = any_sheet_lem n target lent h in
    let rule : Numbered = record { number = 1; clause = empty_clause } in
    let first : FirstFalsified (rule ∷ []) target rule =
    record {
      before = [];
      after = [];
      place = refl;
      falsified = no_names target;
      earlier = λ c m. absurd (Memᴰ.not-nil m);
    } in
    let unmet = wish_unmet (rule ∷ []) target (λ sat. no_names target (sat rule (Memᴰ.head refl))) in
    let flips : Fills [] lent (slot target 1 0 ∷ []) target 0 (variables n empty_clause) [] (complete []) =
    subst (λ vs. Fills [] lent (slot target 1 0 ∷ []) target 0 vs [] (complete [])) (sym (no_variables n)) no_more in
    record {
      answered = bare-answers n 1 target lent (whole_clauses (0 ∷ []) (0 ∷ []))
          (one-fits n 0 s.some-variable s.few_variables (le_trans (suc-le-suc zero-le) s.target_below))
          s.target_below s.some-slot (goes_on unmet first flips none_left);
      filled = tt;
      certified = tt;
    }

-- "Rule (1 −1), n 1": each wish meets it
hold_both : (n target lent : ℕ) → case_both.test n target lent ≡ true → Holds (case_both.case n target lent)
unfolding problem_of bit
hold_both n target lent h =
    let t = and_split (ltb target 2) (leb 1 lent) h in
    record {
      answered = bare-answers 1 1 target lent (whole_clauses (1 ∷ []) (1 ∷ []))
          (one-fits 1 1 (lit≤ tt) (lit≤ tt) (lit≤ tt)) (ltb-true target 2 t.0) (leb-true 1 lent t.1)
          (met (wish_met (record { number = 1; clause = record { positive = 1; negative = 1 } } ∷ []) target meets))
          ∙ ap (λ (d : ℕ). satisfiable target d 1) (distance_self 1 target);
      filled = tt;
      certified = tt;
    }
  where
    meets : (c : Numbered) → c ∈ (record { number = 1; clause = record { positive = 1; negative = 1 } } ∷ [])
        → Satisfies c.clause target
    meets c (Memᴰ.head e) =
        subst (λ (r : Numbered). Satisfies r.clause target) (sym e)
        (both_ways (record { positive = 1; negative = 1 }) 0 refl refl target)
    meets c (Memᴰ.tail m) = absurd (Memᴰ.not-nil m)

-- ---- with more slots

-- an answer other than 'no room' stays, and so do the slots and the certificate
more_holds : (c : Case) → ((code place : ℕ) → c.reply ≡ refused code place → ⊥)
    → ((b filled : ℕ) → c.reply ≡ unknown b filled → ⊥) → Holds c
    → (n target lent : ℕ) → leb c.lent lent ≡ true → Holds (with_slots c lent)
more_holds c ok known h n target lent le =
    let m = more-answers c.formula c.clauses c.lent lent (leb-true c.lent lent le) c.reply h.answered
    ok known in
    record {
      answered = m.0;
      filled = subst (Given c.slots) (sym m.1) h.filled;
      certified = subst (λ (l : List Slot). Given c.certificate
          (sizes_of (certificate_of (problem_of c.formula c.clauses) (filled_with l (whole_slots [] [] [])) (length l))))
          (sym m.1) h.certified;
    }

-- G.d: all of them
pub cases_hold : AllHold cases
cases_hold =
    let a = more_holds case_a unsatisfiable_not_refused unsatisfiable_not_unknown hold_A in
    let swap = more_holds case_a_swap unsatisfiable_not_refused unsatisfiable_not_unknown hold_A_swap in
    let b = more_holds case_b satisfiable-not_refused satisfiable-not_unknown hold_B in
    (a, (swap, (only hold_A_3, (b, (hold_none, (hold_empty, (hold_both, tt)))))))
  where
    only : {c : Case} → Holds c → (n target lent : ℕ) → true ≡ true → Holds c
    only h n target lent e = h

-- ---- the certificate of A with exchange 2 1 is accepted, and the program's example is B

pub swap_accepted : check_reply case_a_swap.formula clauses_a (certificate_in case_a_swap) ≡ accepted
unfolding check_reply search_slots certificate_of bit flip over
swap_accepted = refl

pub text_B : Yields satisfiable_text_lem case_b
unfolding read_reply read_formula read_clauses
text_B = record { answer = refl; formula = refl; clauses = refl }
