-- Document 01, 'Sheets to try', as request 2026-03 has them: the cases marked *, one list under one proposition (G.d:
-- "Cases marked * are theorems, gathered as a list under one proposition"). Points are written as numbers: name 1 is
-- bit 0. Assumes nothing.
use Rattle.std.specs.Prelude.{Bool, true, ◌&&◌, List, [], ◌∷◌, ◌≡◌, ℕ, ◌-◌, ◌^◌, leb, ltb, length, replicate}
use Rattle.std.proofs.Math.Option.{Option, some, none}
use Rattle.point_slices.specs.Slices.{ClauseSlices, whole_clauses, whole_slots}
use Rattle.formula.specs.declared.Formula.{Formula}
use Rattle.formula.specs.Limits.{max_variables, max_images}
use Rattle.formula.specs.Problem.{problem_of}
use Rattle.formula.specs.Reply.{Reply, parsed, satisfiable, unsatisfiable, unknown}
use Rattle.search_theory.specs.Filled.{filled_with}
use Rattle.search_theory.specs.Walk.{Slot, slot}
use Rattle.search.specs.Search.{search_reply, search_slots}
use Rattle.certificate.specs.Certificate.{contents_of}
use Rattle.certificate.specs.Writer.{certificate_of}
use Rattle.dimacs_format.specs.Reader.{read_reply, read_formula, read_clauses}

-- ---- what a case is

-- a certificate's length, and where its three bodies begin
pub record Sizes : Type 0 where
  pub size : ℕ
  pub permutations_at : ℕ
  pub points_at : ℕ
  pub numbers_at : ℕ

-- a formula, its clauses and a number of slots; the answer, and, where document 01 gives them, the slots and the
-- certificate's sizes
pub record Case : Type 0 where
  pub formula : Formula
  pub clauses : ClauseSlices
  pub lent : ℕ
  pub reply : Reply
  pub slots : Option (List Slot)
  pub certificate : Option Sizes

-- the sizes of a file
abbrev pub sizes_of : List ℕ → Sizes
sizes_of file = let c = contents_of file in record {
  size = length file;
  permutations_at = c.permutations_at;
  points_at = c.points_at;
  numbers_at = c.numbers_at;
}

-- the certificate of a case: what the writer puts out from the slots that the search leaves
abbrev pub certificate_in : Case → List ℕ
certificate_in c =
    let l = search_slots c.formula c.clauses c.lent in
    certificate_of (problem_of c.formula c.clauses) (filled_with l (whole_slots [] [] [])) (length l)

-- a thing is what document 01 gives, if it gives it
abbrev pub Given : {A : Type 0} → Option A → A → Type 0
Given none x = Unit {0}
Given (some y) x = x ≡ y

-- the definitions say of the case what document 01 says
pub record Holds (c : Case) : Type 0 where
  pub answered : search_reply c.formula c.clauses c.lent ≡ c.reply
  pub filled : Given c.slots (search_slots c.formula c.clauses c.lent)
  pub certified : Given c.certificate (sizes_of (certificate_in c))

-- cases that differ in n, the target and the number of slots: those for which the test passes
pub record Family : Type 0 where
  pub test : ℕ → ℕ → ℕ → Bool
  pub case : ℕ → ℕ → ℕ → Case

-- one case
abbrev pub one : Case → Family
one c = record { test = λ n target lent. true; case = λ n target lent. c }

-- a case with another number of slots
abbrev pub with_slots : Case → ℕ → Case
with_slots c lent = record {
  formula = c.formula;
  clauses = c.clauses;
  lent = lent;
  reply = c.reply;
  slots = c.slots;
  certificate = c.certificate;
}

-- a case with as many slots as it says, or more
abbrev pub or_more : Case → Family
or_more c = record { test = λ n target lent. leb c.lent lent; case = λ n target lent. with_slots c lent }

-- each case of each family of a list holds
abbrev pub AllHold : List Family → Type 0
AllHold [] = Unit {0}
AllHold (c ∷ cs) = ((n target lent : ℕ) → c.test n target lent ≡ true → Holds (c.case n target lent)) × AllHold cs

-- ---- the cases

-- a formula of n variables and m clauses, with a target and no permutation
abbrev pub bare : ℕ → ℕ → ℕ → Formula
bare n m target = record {
  variables = n;
  clauses = m;
  target = target;
  permutations = 0;
  images = replicate max_images 0;
}

-- every n, every target of n variables, every number of slots but 0
abbrev pub any_sheet : ℕ → ℕ → ℕ → Bool
any_sheet n target lent = leb 1 n && leb n max_variables && ltb target (2 ^ n) && leb 1 lent

-- "A: n 2, rules (1 2) (−1 2) (1 −2) (−1 −2), wish 00": clauses of A
abbrev pub clauses_a : ClauseSlices
clauses_a = whole_clauses (3 ∷ 2 ∷ 1 ∷ 0 ∷ []) (0 ∷ 1 ∷ 2 ∷ 3 ∷ [])

-- V1: "cannot be met; 00 10 01 11, rules 1 2 3 4, depths 0 1 1 2"; V3: "P = 4: cannot be met."
abbrev pub case_a : Case
case_a =
    record {
      formula = bare 2 4 0;
      clauses = clauses_a;
      lent = 4;
      reply = unsatisfiable 4;
      slots = some (slot 0 1 0 ∷ slot 1 2 1 ∷ slot 2 3 1 ∷ slot 3 4 2 ∷ []);
      certificate = none;
    }

-- V2: "A with exchange 2 1: 00 10 11, rules 1 2 4, depths 0 1 2. Certificate 70 bytes, bodies at 32, 34, 58."
abbrev pub case_a_swap : Case
case_a_swap =
    record {
      formula = record {
        variables = 2;
        clauses = 4;
        target = 0;
        permutations = 1;
        images = 2 ∷ 1 ∷ replicate
            (max_images - 2) 0;
      };
      clauses = clauses_a;
      lent = 3;
      reply = unsatisfiable 3;
      slots = some (slot 0 1 0 ∷ slot 1 2 1 ∷ slot 3 4 2 ∷ []);
      certificate = some (record { size = 70; permutations_at = 32; points_at = 34; numbers_at = 58 });
    }

-- V3: "A, P = 3, no exchange: no room"; Q03.5: "case A with P = 3 carries 2"
abbrev pub case_a_3 : Case
case_a_3 = record {
  formula = bare 2 4 0;
  clauses = clauses_a;
  lent = 3;
  reply = unknown 2 3;
  slots = none;
  certificate = none;
}

-- V4: "B: n 3, rules (1 2) (−1 3), wish 000: met by 010, changes 1"; Q03.5: "Case B, the program's example too, now
-- fills 3 slots, with P = 3 it is met"
abbrev pub case_b : Case
case_b = record {
  formula = bare 3 2 0;
  clauses = whole_clauses (3 ∷ 4 ∷ []) (0 ∷ 1 ∷ []);
  lent = 3;
  reply = satisfiable 2 1 3;
  slots = none;
  certificate = none;
}

-- V5: "C = 0: met by the wish, changes 0.": for every n and wish
abbrev pub case_none : Family
case_none = record {
  test = any_sheet;
  case = λ n target lent. record {
    formula = bare n 0 target;
    clauses = whole_clauses [] [];
    lent = lent;
    reply = satisfiable target 0 1;
    slots = none;
    certificate = none;
  };
}

-- V5: "One empty rule: cannot be met, one slot.": for every n and wish
abbrev pub case_empty : Family
case_empty = record {
  test = any_sheet;
  case = λ n target lent. record {
    formula = bare n 1 target;
    clauses = whole_clauses (0 ∷ []) (0 ∷ []);
    lent = lent;
    reply = unsatisfiable 1;
    slots = none;
    certificate = none;
  };
}

-- V6: "Rule (1 −1), n 1: met by the wish.": for both wishes
abbrev pub case_both : Family
case_both = record {
  test = λ n target lent. ltb target 2 && leb 1 lent;
  case = λ n target lent. record {
    formula = bare 1 1 target;
    clauses = whole_clauses (1 ∷ []) (1 ∷ []);
    lent = lent;
    reply = satisfiable target 0 1;
    slots = none;
    certificate = none;
  };
}

abbrev pub cases : List Family
cases = or_more case_a ∷ or_more case_a_swap ∷ one case_a_3 ∷ or_more case_b ∷ case_none ∷ case_empty ∷ case_both ∷ []

-- ---- a text that says a case

-- slices for two clauses
abbrev pub two_places : ClauseSlices
two_places = whole_clauses (0 ∷ 0 ∷ []) (0 ∷ 0 ∷ [])

-- P2: "For `p cnf 3 2`, `c wish 000`, `1 2 0`, `-1 3 0` on four lines": the reader yields the formula and the clauses
-- of B
pub record Yields (text : List ℕ) (c : Case) : Type 0 where
  pub answer : read_reply text two_places ≡ parsed
  pub formula : read_formula text two_places ≡ c.formula
  pub clauses : read_clauses text two_places ≡ c.clauses
