-- Laws of steps that may refuse, and of options: what a walk that reached its end went through. Assumes nothing.
use Rattle.std.specs.Prelude.{Bool, true, false, cond, ◌≡◌, ℕ}
use mathlib.Core.List.{List, [], ◌∷◌, ◌++◌, flat_map}
use Rattle.std.proofs.Math.Option.{Option, some, none}
use Rattle.std.proofs.Math.Path.{refl, sym, ap}
use Rattle.std.proofs.Common.{◌∙◌, arith}
use Rattle.dimacs_format.specs.Reader.{Step, and_then, walk, goes, refuses}

-- ---- options

pub same_some : {A : Type 0} {x y : A} → some x ≡ some y → x ≡ y
same_some e = cc

pub not_some : {A : Type 0} {x : A} → ◌≡◌ {A = Option A} none (some x) → ⊥
not_some {x = x} e = let z : ◌≡◌ {A = ℕ} 0 1 = cc in omega arith

-- what is there under a test: the test passed
pub some-cond : {A : Type 0} (t : Bool) {o : Option A} {y : A} → cond t o none ≡ some y → (t ≡ true) × (o ≡ some y)
some-cond true e = (refl, e)
some-cond false e = absurd (not_some e)

-- ---- steps

module _ {S : Type 0} where
  pub goes_same : {s t : S} → goes s ≡ goes t → s ≡ t
  goes_same e = cc

  pub never : {code place : ℕ} {s : S} → refuses code place ≡ goes s → ⊥
  never {code} {place} {s} e = let z : ◌≡◌ {A = ℕ} 0 1 = cc in omega arith

module _ {S T : Type 0} where
  -- two steps that lead on: the first does, and the second from there
  pub both_go : (m : Step S) (k : S → Step T) {t : T} → and_then m k ≡ goes t → (s : S) × (m ≡ goes s) × (k s ≡ goes t)
  unfolding and_then
  both_go (goes s) k e = (s, refl, e)
  both_go (refuses code place) k e = absurd (never e)

module _ {S X : Type 0} (f : S → X → Step S) where
  pub walk-append : (s : S) (xs ys : List X) → walk f s (xs ++ ys) ≡ and_then (walk f s xs) (λ q. walk f q ys)
  unfolding walk
  walk-append s [] ys = refl
  walk-append s (x ∷ xs) ys = by (f s x) (λ q. walk-append q xs ys)
    where
      by : (m : Step S) → ((q : S) → walk f q (xs ++ ys) ≡ and_then (walk f q xs) (λ r. walk f r ys))
          → and_then m (λ q. walk f q (xs ++ ys)) ≡ and_then (and_then m (λ q. walk f q xs)) (λ r. walk f r ys)
      by (goes q) ih = ih q
      by (refuses code place) ih = refl

  -- where the first step leads on, the walk is the rest of it from there
  pub walk_step : (s q : S) (x : X) (xs : List X) → f s x ≡ goes q → walk f s (x ∷ xs) ≡ walk f q xs
  unfolding walk
  walk_step s q x xs e = rw e

-- a walk that walks along a list for each item is a walk along all these lists
module _ {S X Y : Type 0} (f : S → Y → Step S) (ys : X → List Y) where
  pub walk_flat : (s : S) (xs : List X) → walk (λ t x. walk f t (ys x)) s xs ≡ walk f s (flat_map ys xs)
  unfolding walk flat_map
  walk_flat s [] = refl
  walk_flat s (x ∷ xs) = by (walk f s (ys x)) (λ q. walk_flat q xs) ∙ sym (walk-append f s (ys x) (flat_map ys xs))
    where
      by : (m : Step S) → ((q : S) → walk (λ t x. walk f t (ys x)) q xs ≡ walk f q (flat_map ys xs))
          → and_then m (λ q. walk (λ t x. walk f t (ys x)) q xs) ≡ and_then m (λ q. walk f q (flat_map ys xs))
      by m ih = ap (and_then m) (λ i q. ih q i)
