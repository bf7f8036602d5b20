-- `formula::refusals::symmetry_refusal` meets its contract: of no permutation none fails. Assumes nothing.
use Rattle.std.proofs.Common.{List, ◌≡◌, refl, sym, ℕ, zero, suc, ◌<◌, le_of_suc-le-suc, not-suc-le-zero}
use Rattle.points.specs.Points.{Numbered}
use Rattle.permutation_theory.specs.Permutations.{permutations_in}
use Rattle.formula.specs.Refusals.{symmetry_fault}
use Rattle.formula.specs.Reply.{no_fault}
use Rattle.formula.specs.Laws.ReplyLaws.{fault_zero, fault_found}
use Rattle.formula.proofs.refusals.symmetry_refusal.Goals as goal

-- no permutation, no fault
none_faulty : (cs : List Numbered) (n permutations : ℕ) (bytes : List ℕ) → permutations < 1 → no_fault ≡ symmetry_fault cs (permutations_in n permutations bytes)
unfolding symmetry_fault permutations_in
none_faulty cs n zero bytes lt = refl
none_faulty cs n (suc permutations) bytes lt = absurd (not-suc-le-zero (le_of_suc-le-suc lt))

pub returns-then-permutations-lt1 : goal.returns-then-permutations-lt1
returns-then-permutations-lt1 c = none_faulty _ _ _ _ c.if-permutations-lt1.true

pub returns-in-None : goal.returns-in-None
unfolding symmetry_fault
returns-in-None c = fault_zero 12 _ (sym c.in-None.ensures.first)

pub returns-in-Some : goal.returns-in-Some
unfolding symmetry_fault
returns-in-Some c = fault_found 12 _ _ c.in-Some.ensures.first
