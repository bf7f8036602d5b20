-- An answer's words, put for its own case, and a front part made new. Assumes nothing.
use Rattle.std.specs.Prelude.{List, ◌++◌, ◌≡◌, ℕ, length, drop}
use Rattle.std.proofs.Common.{sym, ap, ap₂, ◌∙◌}
use Rattle.math.specs.Lists.{over}

-- words put for the case that an answer is are the words of the answer
pub case_words : {A : Type 0} {r s : A} {new : List ℕ} → r ≡ s → (words : A → List ℕ) (old : List ℕ)
    → new ≡ over (words s) old → new ≡ over (words r) old
case_words e words old put = put ∙ ap (λ s. over (words s) old) (sym e)

-- a front part made new: its contents stand over what was there
pub over_front : {A : Type 0} {k : ℕ} {part new : List A} → part ≡ new → length new ≡ k → (old : List A)
    → part ++ drop k old ≡ over new old
unfolding over
over_front e n old = ap₂ (λ l i. l ++ drop i old) e (sym n)
