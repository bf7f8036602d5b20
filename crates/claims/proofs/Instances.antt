-- Nothing in the claim is vacuous, nor in what is said of the checker and of the cases for every n and wish: for each
-- sentence a worked case is an instance, and what the sentence then says of it. Assumes nothing.
use Rattle.std.specs.Prelude.{true, [], ◌∷◌, ◌≡◌, refl, ℕ, ◌≤◌, ◌-◌, replicate}
use mathlib.Core.List.Memᴰ
use Rattle.std.proofs.Common.{sym, subst, arith, lit≤}
use Rattle.math.specs.Bits.{bit, flip}
use Rattle.math.specs.Lists.{◌∈◌, over, range}
use Rattle.points.specs.Points.{Numbered, Satisfies, by_no, SatisfiesAll, numbered_from, distance}
use Rattle.point_slices.specs.Slices.{SlotSlices, whole_clauses, whole_slots}
use Rattle.formula.specs.Limits.{max_variables, max_images, max_slots, capacity}
use Rattle.formula.specs.Laws.ReplyLaws.{satisfiable-not_refused, unsatisfiable_not_refused, unknown_not_refused}
use Rattle.formula.specs.Laws.ReplyLaws.{unsatisfiable_not_unknown}
use Rattle.formula.specs.Problem.{problem_of, Unsatisfiable}
use Rattle.formula.specs.Reply.{satisfiable, unsatisfiable, unknown}
use Rattle.dimacs_format.specs.Laws.Example.{satisfiable_text_lem}
use Rattle.dimacs_format.specs.Reader.{read_reply, read_formula, read_clauses}
use Rattle.search.specs.Search.{search_reply, search_slots}
use Rattle.certificate.specs.Certificate.{contents_of}
use Rattle.certificate.specs.Writer.{length_needed, certificate_of}
use Rattle.check_theory.specs.Published.{StableSet, StableModulo}
use Rattle.checker.specs.Checker.{check_reply}
use Rattle.claims.specs.Cases.{Case, case_a, case_a_swap, case_a_3, case_b, certificate_in, any_sheet}
use Rattle.claims.proofs.CasesHold.{swap_accepted}
use Rattle.claims.specs.Claim.{Sheet, from_text, by_value, problem_in, SearchAnswers, Meets, AtLeast}
use Rattle.claims.specs.Claim.{SmallestIn, InSlots, OnSheet, SameRules, Certified}
use Rattle.claims.proofs.CheckerExact.{exact}
use Rattle.claims.proofs.Theorem.{claim}
use Rattle.claims.specs.StableSets.{StableListed, HasStableSet}

-- the sheet of a case, by value, and three slices of p places
abbrev sheet_of : Case → Sheet
sheet_of c = by_value c.formula c.clauses

abbrev places : ℕ → SlotSlices
places p = whole_slots (replicate p 7) (replicate p 7) (replicate p 7)

-- ---- accepted sheets with each answer

pub answered_B : SearchAnswers (sheet_of case_b) (places 5) (satisfiable 2 1 3)
unfolding search_reply capacity bit flip
answered_B = record { readable = tt; reply = refl; accepted = satisfiable-not_refused }

-- the program's example, read into slices of three and of two places
abbrev sheet_text : Sheet
sheet_text = from_text satisfiable_text_lem (whole_clauses (0 ∷ 0 ∷ 9 ∷ []) (0 ∷ 0 ∷ []))

pub answered_text : SearchAnswers sheet_text (places 5) (satisfiable 2 1 3)
unfolding search_reply capacity read_reply read_formula read_clauses bit flip
answered_text = record { readable = refl; reply = refl; accepted = satisfiable-not_refused }

pub answered_A : SearchAnswers (sheet_of case_a_swap) (places 4) (unsatisfiable 3)
unfolding search_reply capacity bit flip
answered_A = record { readable = tt; reply = refl; accepted = unsatisfiable_not_refused }

pub answered_A_3 : SearchAnswers (sheet_of case_a_3) (places 3) (unknown 2 3)
unfolding search_reply capacity bit flip
answered_A_3 = record { readable = tt; reply = refl; accepted = unknown_not_refused }

-- ---- what the claim says of them

-- 1: 010 meets the rules of B, by value and as text, and no choice that does is nearer to 000
pub nearest_B : Meets (problem_in (sheet_of case_b)) 2
nearest_B = (claim.nearest (sheet_of case_b) (places 5) 2 1 3 answered_B).0

pub nearest_text : AtLeast (problem_in sheet_text) 1
nearest_text = (claim.nearest sheet_text (places 5) 2 1 3 answered_text).2

-- 2: A cannot be met, with exchange 2 1
pub refuted_A : Unsatisfiable (problem_in (sheet_of case_a_swap))
refuted_A = (claim.exactly (sheet_of case_a_swap) (places 4) (unsatisfiable 3) answered_A
    unsatisfiable_not_unknown).0 (3, refl)

-- 3: its certificate is 70 bytes long; an output of 71 takes it, and the checker accepts it; one of 69 is refused
pub certified_A : Certified (sheet_of case_a_swap) (places 4) 3 70 (replicate 71 9)
unfolding length_needed problem_of
certified_A = claim.certified (sheet_of case_a_swap) (places 4) 3 answered_A (replicate 71 9)

-- 4: a certificate that is accepted, from wherever it comes
pub refuted_again : Unsatisfiable (problem_of case_a_swap.formula case_a_swap.clauses)
refuted_again = claim.refutes case_a_swap.formula case_a_swap.clauses
    (certificate_in case_a_swap) swap_accepted

-- 5: with three slots A without exchange is left open, and every choice that meets the rules would differ from 00 in
-- two names
pub bound_A : AtLeast (problem_in (sheet_of case_a_3)) 2
bound_A = claim.bound (sheet_of case_a_3) (places 3) 2 3 answered_A_3

-- 6: with 2 ^ 2 slots it is not left open
pub enough_room_A : (b filled : ℕ) → SearchAnswers (sheet_of case_a) (places 4) (unknown b filled) → ⊥
unfolding problem_of
enough_room_A b filled = claim.enough_room (sheet_of case_a) (places 4) b filled (lit≤ tt) (lit≤ tt) (lit≤ tt)
    (lit≤ tt)

-- 7: 010 is in one of the three slots of B, and the smallest there of those that meet the rules with one change
pub in_slots_B : InSlots (sheet_of case_b) (places 5) 3 2
    × SmallestIn (InSlots (sheet_of case_b) (places 5) 3) (problem_in (sheet_of case_b)) 1 2
in_slots_B = claim.smallest_in_slots (sheet_of case_b) (places 5) 2 1 3 answered_B

-- 8: and of all that do, B having no exchanges
plain_B : (problem_in (sheet_of case_b)).permutations ≡ []
unfolding problem_of
plain_B = refl

pub smallest_B : SmallestIn OnSheet (problem_in (sheet_of case_b)) 1 2
smallest_B = claim.smallest (sheet_of case_b) (places 5) 2 1 3 answered_B plain_B

-- with exchanges it may be another: n 2, the rule (−1 −2), wish 11 and exchange 2 1. 01 fills a slot and covers 10,
-- which is smaller
abbrev sheet_exchanged : Sheet
sheet_exchanged = by_value (record {
  variables = 2;
  clauses = 1;
  target = 3;
  permutations = 1;
  images = 2 ∷ 1 ∷ replicate (max_images - 2) 0;
}) (whole_clauses (0 ∷ []) (3 ∷ []))

pub answered_exchanged : SearchAnswers sheet_exchanged (places 4) (satisfiable 2 1 2)
unfolding search_reply capacity bit flip
answered_exchanged = record { readable = tt; reply = refl; accepted = satisfiable-not_refused }

pub exchanged_larger : SmallestIn OnSheet (problem_in sheet_exchanged) 1 2 → ⊥
unfolding problem_of numbered_from distance range bit
exchanged_larger least =
    let two : 2 ≤ 1 = least 1 tt (record { within = lit≤ tt; satisfying = meets }) refl in
    omega arith
  where
    meets : SatisfiesAll (problem_in sheet_exchanged).clauses 1
    meets c (Memᴰ.head e) = subst (λ (r : Numbered). Satisfies r.clause 1) (sym e) (by_no 1 refl refl)
    meets c (Memᴰ.tail m) = absurd (Memᴰ.not-nil m)

-- 9: B with its rules in the other order has the same rules, so whatever choice is handed back for it, with however
-- many slots, is 010
abbrev sheet_turned : Sheet
sheet_turned = by_value case_b.formula (whole_clauses (4 ∷ 3 ∷ []) (1 ∷ 0 ∷ []))

turned : {A : Type 0} {x y z : A} → z ∈ (x ∷ y ∷ []) → z ∈ (y ∷ x ∷ [])
turned (Memᴰ.head e) = Memᴰ.tail (Memᴰ.head e)
turned (Memᴰ.tail (Memᴰ.head e)) = Memᴰ.head e
turned (Memᴰ.tail (Memᴰ.tail m)) = absurd (Memᴰ.not-nil m)

same_rules_B : SameRules (problem_in (sheet_of case_b)) (problem_in sheet_turned)
unfolding problem_of numbered_from
same_rules_B = record { variables = refl; target = refl; rules = λ c. (turned, turned) }

plain_turned : (problem_in sheet_turned).permutations ≡ []
unfolding problem_of
plain_turned = refl

pub answered_turned : SearchAnswers sheet_turned (places 3) (satisfiable 2 1 3)
unfolding search_reply capacity bit flip
answered_turned = record { readable = tt; reply = refl; accepted = satisfiable-not_refused }

pub same_choice_B : (slots : SlotSlices) (y e used : ℕ) → SearchAnswers sheet_turned slots (satisfiable y e used)
    → (2 ≡ y) × (1 ≡ e)
same_choice_B slots y e used a = claim.same_choice (sheet_of case_b) sheet_turned (places 5) slots 2 1 3 y e used
    answered_B a plain_B plain_turned same_rules_B

-- ---- the checker accepts exactly the stable sets: each of its sentences has an instance

-- with a listed permutation: the certificate of A with exchange 2 1
pub stable_swap : HasStableSet case_a_swap.formula case_a_swap.clauses (certificate_in case_a_swap)
    (StableListed (certificate_in case_a_swap))
stable_swap = (exact.listed case_a_swap.formula case_a_swap.clauses (certificate_in case_a_swap)).0 swap_accepted

-- without: the certificate of A
pub stable_A : HasStableSet case_a.formula case_a.clauses (certificate_in case_a) StableSet
unfolding certificate_of search_slots contents_of bit flip over check_reply
stable_A = (exact.unlisted case_a.formula case_a.clauses (certificate_in case_a) refl).0 refl

-- and modulo the whole group
pub modulo_swap : HasStableSet case_a_swap.formula case_a_swap.clauses (certificate_in case_a_swap) StableModulo
modulo_swap = exact.modulo case_a_swap.formula case_a_swap.clauses (certificate_in case_a_swap) swap_accepted

-- the cases for every n and wish are about some: the fewest variables and slots, and the most
pub any_least : any_sheet 1 1 1 ≡ true
any_least = refl

pub any_most : any_sheet max_variables 1 max_slots ≡ true
any_most = refl
