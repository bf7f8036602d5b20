-- Laws of tests in order and of replies: a test that passes is skipped, one that does not is the answer, and where
-- nothing was found each passed. Assumes nothing.
use Rattle.std.specs.Prelude.{Bool, true, false, cond, List, [], ◌∷◌, ◌++◌, ◌≡◌, refl, ℕ, zero, suc, ◌+◌, ◌<◌}
use Rattle.std.proofs.Common.{true≢false, sym, ap, ap₂, ◌∙◌, arith}
use Rattle.math.specs.Lists.{◌∈◌, first_failing, below}
use Rattle.math.specs.Laws.PartLaws.{none_failing, none_failing_below, all_passing, all_passing_below}
use Rattle.formula.specs.Reply.{Fault, no_fault, fault, fault_at, first, Reply, refused, accepted, written, opened}
use Rattle.formula.specs.Reply.{satisfiable, unsatisfiable, unknown, unless}

-- whether the test found nothing
abbrev is_no_fault : Fault → Bool
is_no_fault no_fault = true
is_no_fault (fault code place) = false

pub fault_not-none : (code place : ℕ) → fault code place ≡ no_fault → ⊥
fault_not-none code place e = true≢false (ap is_no_fault (sym e))

pub first_skips : (f : Fault) (fs : List Fault) → f ≡ no_fault → first (f ∷ fs) ≡ first fs
unfolding first
first_skips f fs e = ap (λ f. first (f ∷ fs)) e

pub first_stops : (f : Fault) (fs : List Fault) (code place : ℕ) → f ≡ fault code place
    → first (f ∷ fs) ≡ fault code place
unfolding first
first_stops f fs code place e = ap (λ f. first (f ∷ fs)) e

-- the last test alone
pub first_last : (f : Fault) → first (f ∷ []) ≡ f
unfolding first
first_last no_fault = refl
first_last (fault code place) = refl

-- a fault that is one
abbrev pub IsFault : Fault → Type 0
IsFault no_fault = ⊥
IsFault (fault code place) = Unit {0}

-- a function that tests in order answers the first fault, or what the tests behind it answer
pub answers-first : (r t : Fault) (ts : List Fault) → r ≡ t → IsFault r → r ≡ first (t ∷ ts)
answers-first no_fault t ts e h = absurd h
answers-first (fault code place) t ts e h = sym (first_stops t ts code place (sym e))

pub answers-rest : (r t : Fault) (ts : List Fault) → t ≡ no_fault → r ≡ first ts → r ≡ first (t ∷ ts)
answers-rest r t ts passed e = e ∙ sym (first_skips t ts passed)

-- ---- a fault by number

pub fault_at-none : (code k : ℕ) → fault_at code k ≡ no_fault → k ≡ 0
unfolding fault_at
fault_at-none code zero h = refl
fault_at-none code (suc k) h = absurd (fault_not-none code (suc k) h)

pub fault_zero : (code k : ℕ) → k ≡ 0 → no_fault ≡ fault_at code k
unfolding fault_at
fault_zero code k e = sym (ap (fault_at code) e)

pub fault_pos : (code k r : ℕ) → r ≡ k → (r ≡ 0 → ⊥) → fault code r ≡ fault_at code k
unfolding fault_at
fault_pos code zero r e ne = absurd (ne e)
fault_pos code (suc k) r e ne = ap (fault code) e

-- the fault of a thing by the index at which it was found
pub fault_found : (code i k : ℕ) → i + 1 ≡ k → fault code (i + 1) ≡ fault_at code k
fault_found code i k e = fault_pos code k (i + 1) e (λ z. omega (arith, z))

-- ---- tests one after the other

pub first-none : first [] ≡ no_fault
unfolding first
first-none = refl

pub first_split : (t : Fault) (ts : List Fault) → first (t ∷ ts) ≡ no_fault → (t ≡ no_fault) × (first ts ≡ no_fault)
unfolding first
first_split no_fault ts h = (refl, h)
first_split (fault code place) ts h = absurd (fault_not-none code place h)

pub first_join : (t : Fault) (ts : List Fault) → t ≡ no_fault → first ts ≡ no_fault → first (t ∷ ts) ≡ no_fault
unfolding first
first_join t ts p q = rw p q

-- ---- tests behind others

pub first-after : (fs gs : List Fault) → first fs ≡ no_fault → first (fs ++ gs) ≡ first gs
unfolding first
first-after [] gs h = refl
first-after (no_fault ∷ fs) gs h = first-after fs gs h
first-after (fault code place ∷ fs) gs h = absurd (fault_not-none code place h)

pub first-before : (fs gs : List Fault) (code place : ℕ) → first fs ≡ fault code place
    → first (fs ++ gs) ≡ fault code place
unfolding first
first-before [] gs code place h = absurd (fault_not-none code place (sym h))
first-before (no_fault ∷ fs) gs code place h = first-before fs gs code place h
first-before (fault c p ∷ fs) gs code place h = h

-- what tests found, in front of others
pub first_nested : (fs gs : List Fault) → first (first fs ∷ gs) ≡ first (fs ++ gs)
unfolding first
first_nested [] gs = refl
first_nested (no_fault ∷ fs) gs = first_nested fs gs
first_nested (fault code place ∷ fs) gs = refl

-- ---- one test

pub tested : (b : Bool) (t : Fault) (code place : ℕ) → cond b t (fault code place) ≡ no_fault
    → (b ≡ true) × (t ≡ no_fault)
tested true t code place h = (refl, h)
tested false t code place h = absurd (fault_not-none code place h)

pub test_passed : (b : Bool) (t : Fault) (code place : ℕ) → b ≡ true → t ≡ no_fault
    → cond b t (fault code place) ≡ no_fault
test_passed b t code place p q = rw p q

-- ---- a test of each of several things

module _ {A : Type 0} (code : ℕ) (t : A → Bool) (xs : List A) where
  pub each_passed : fault_at code (first_failing t xs) ≡ no_fault → (x : A) → x ∈ xs → t x ≡ true
  each_passed h = none_failing t xs (fault_at-none code (first_failing t xs) h)

  pub passes_each : ((x : A) → x ∈ xs → t x ≡ true) → fault_at code (first_failing t xs) ≡ no_fault
  passes_each h = sym (fault_zero code (first_failing t xs) (all_passing t xs h))

module _ (code : ℕ) (t : ℕ → Bool) (k : ℕ) where
  pub below_passed : fault_at code (first_failing t (below k)) ≡ no_fault → (i : ℕ) → i < k → t i ≡ true
  below_passed h = none_failing_below t k (fault_at-none code (first_failing t (below k)) h)

  pub passes_below : ((i : ℕ) → i < k → t i ≡ true) → fault_at code (first_failing t (below k)) ≡ no_fault
  passes_below h = sym (fault_zero code (first_failing t (below k)) (all_passing_below t k h))

-- ---- the reply

-- a reply that is no refusal
pub unless-none : (t : Fault) → t ≡ no_fault → (r : Reply) → unless t r ≡ r
unfolding unless
unless-none t e r = rw e

-- no fault was found where the reply is not a refusal
pub not_refused : (t : Fault) (r s : Reply) → unless t r ≡ s → ((code place : ℕ) → s ≡ refused code place → ⊥)
    → t ≡ no_fault
unfolding unless
not_refused no_fault r s h ne = refl
not_refused (fault code place) r s h ne = absurd (ne code place (sym h))

pub accepted_not_refused : (code place : ℕ) → accepted ≡ refused code place → ⊥
accepted_not_refused code place e = let z : ◌≡◌ {A = ℕ} 0 1 = cc in omega arith

pub written_not_refused : (size code place : ℕ) → written size ≡ refused code place → ⊥
written_not_refused size code place e = let z : ◌≡◌ {A = ℕ} 0 1 = cc in omega arith

pub opened_not_refused : (code place : ℕ) → opened ≡ refused code place → ⊥
opened_not_refused code place e = let z : ◌≡◌ {A = ℕ} 0 1 = cc in omega arith

pub satisfiable-not_refused : {x d filled : ℕ} (code place : ℕ) → satisfiable x d filled ≡ refused code place → ⊥
satisfiable-not_refused code place e = let z : ◌≡◌ {A = ℕ} 0 1 = cc in omega arith

pub unsatisfiable_not_refused : {filled : ℕ} (code place : ℕ) → unsatisfiable filled ≡ refused code place → ⊥
unsatisfiable_not_refused code place e = let z : ◌≡◌ {A = ℕ} 0 1 = cc in omega arith

pub unknown_not_refused : {b filled : ℕ} (code place : ℕ) → unknown b filled ≡ refused code place → ⊥
unknown_not_refused code place e = let z : ◌≡◌ {A = ℕ} 0 1 = cc in omega arith

-- nor 'no room'
pub satisfiable-not_unknown : {x d filled : ℕ} (b k : ℕ) → satisfiable x d filled ≡ unknown b k → ⊥
satisfiable-not_unknown b k e = let z : ◌≡◌ {A = ℕ} 0 1 = cc in omega arith

pub unsatisfiable_not_unknown : {filled : ℕ} (b k : ℕ) → unsatisfiable filled ≡ unknown b k → ⊥
unsatisfiable_not_unknown b k e = let z : ◌≡◌ {A = ℕ} 0 1 = cc in omega arith

-- a refusal is the fault that was found
pub refused_fault : (t : Fault) (r : Reply) → ((code place : ℕ) → r ≡ refused code place → ⊥) → (code place : ℕ)
    → refused code place ≡ unless t r → fault code place ≡ t
unfolding unless
refused_fault no_fault r ne code place e = absurd (ne code place (sym e))
refused_fault (fault c p) r ne code place e =
    let a : code ≡ c = cc in
    let b : place ≡ p = cc in
    ap₂ fault a b
