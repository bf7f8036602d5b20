-- The code answers by a `Result`: a step that may refuse. Assumes nothing.
use Rattle.std.specs.Prelude.{◌≡◌, Result, Ok, Err, MatchResult, IfOk}
use Rattle.std.proofs.Math.Path.{refl, sym, ap}
use Rattle.std.proofs.Common.{◌∙◌, subst}
use Rattle.formula.specs.declared.reasons.Refusal.{Refusal}
use Rattle.formula.specs.Reasons.{code_of}
use Rattle.dimacs_format.specs.Reader.{Step, and_then, goes, refuses}

-- the step that a refusal of the code is
abbrev pub refusal_step : {S : Type 0} → Refusal → Step S
refusal_step r = refuses (code_of r.reason) r.place

module _ {V S : Type 0} where
  -- the step that an answer is, with what follows from its value
  abbrev pub step_then : Result V Refusal → (V → Step S) → Step S
  step_then (Ok v) k = k v
  step_then (Err r) k = refusal_step r

module _ {V S T : Type 0} where
  -- another step behind both
  pub then_next : (a : Result V Refusal) (f : V → Step S) (k : S → Step T)
      → and_then (step_then a f) k ≡ step_then a (λ v. and_then (f v) k)
  unfolding and_then
  then_next (Ok v) f k = refl
  then_next (Err r) f k = refl

  -- the value is a part of another one
  pub step_within : (a : Result V Refusal) (f : V → S) (g : S → T) {m : Step S} → step_then a (λ v. goes (f v)) ≡ m
      → step_then a (λ v. goes (g (f v))) ≡ and_then m (λ t. goes (g t))
  unfolding and_then
  step_within (Ok v) f g e = ap (λ m. and_then m (λ t. goes (g t))) e
  step_within (Err r) f g e = ap (λ m. and_then m (λ t. goes (g t))) e

module _ {V S : Type 0} where
  -- what follows a refusal may be anything
  pub then_alike : (a : Result V Refusal) (j k : V → Step S) → IfOk a (λ v. j v ≡ k v) → step_then a j ≡ step_then a k
  then_alike (Ok v) j k e = e
  then_alike (Err r) j k e = refl

module _ {V : Type 0} where
  -- what holds of a value holds of it where it is in the answer
  pub told : (P : V → Type 0) {a : Result V Refusal} {v : V} → a ≡ Ok v → IfOk a P → P v
  told P e h = subst (λ x. IfOk x P) e h

  -- what holds of every value
  pub of_any : {P : V → Type 0} (a : Result V Refusal) → ((v : V) → P v) → IfOk a P
  of_any (Ok v) h = h v
  of_any (Err r) h = tt

  pub of_both : {P Q : V → Type 0} (a : Result V Refusal) → ((v : V) → P v → Q v) → IfOk a P → IfOk a Q
  of_both (Ok v) f h = f v h
  of_both (Err r) f h = tt

-- ---- an answer whose value says nothing, with a value beside it

module _ {V S : Type 0} where
  -- the step that an answer is, with the value beside it
  abbrev pub step_to : Result V Refusal → S → Step S
  step_to a s = step_then a (λ v. goes s)

-- what holds where the answer is no refusal
abbrev pub WherePassed : {V : Type 0} → Result V Refusal → Type 0 → Type 0
WherePassed a A = IfOk a (λ v. A)

module _ {V S T : Type 0} where
  pub then_passed : (a : Result V Refusal) (s : S) (k : S → Step T) {v : V} → a ≡ Ok v → and_then (step_to a s) k ≡ k s
  unfolding and_then
  then_passed a s k e = ap (λ b. and_then (step_to b s) k) e

  pub then_refused : (a : Result V Refusal) (r : Refusal) (s : S) (t : T) (k : S → Step T) → a ≡ Err r
      → and_then (step_to a s) k ≡ step_to a t
  unfolding and_then
  then_refused a r s t k e = ap (λ b. and_then (step_to b s) k) e ∙ sym (ap (λ b. step_to b t) e)

module _ {V : Type 0} where
  pub where_told : (A : Type 0) {a : Result V Refusal} {v : V} → a ≡ Ok v → WherePassed a A → A
  where_told A = told (λ v. A)

  pub where_passed : {A : Type 0} (a : Result V Refusal) → A → WherePassed a A
  where_passed a h = of_any a (λ v. h)

  pub where_refused : (A : Type 0) {a : Result V Refusal} {r : Refusal} → a ≡ Err r → WherePassed a A
  where_refused A e = subst (λ x. WherePassed x A) (sym e) tt

  pub where_both : {A B : Type 0} (a : Result V Refusal) → (A → B) → WherePassed a A → WherePassed a B
  where_both a f = of_both a (λ v. f)
