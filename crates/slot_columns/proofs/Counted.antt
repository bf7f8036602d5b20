-- A loop that counts a variable up to k, for walks: its invariant is a context for each count.
--     counted      from a turn at each count below k, and from the turn at k, which leaves the loop, the loop
--     holds, fails     truth values that a test has
-- Assumes `Logic` and the tables' laws.
use mathlib.Core.Path.{◌≡◌, refl, sym, subst}
use mathlib.Core.Bool.{Bool, true, false}
use Prim.Native.Nat.{ℕ, zero, suc, ◌+◌, ◌<◌}
use native.Mathlib.Nat.{zero-add, lt-suc_self}
use native.Mathlib.Omega.{arith}
use mathlib.Core.List.{List}
use lib.Dec.{T}
use lib.WfN.{lt-wf_rel}
use seplogic.Ra.Ura.{Ura}
use mir.Syntax.{Body, loop}
use base.Logic.{SProp, ent, ex, guard, via, ex_i, ex_e, guard_i, guard_e}
use prog.Wp.{Out, Env, after_turn, Wp, Tables}
use types.Logic.{Logic}
use sound.Loop.{loop_rule}
use types.Kit.{Item, ⋆}

pub holds : (t : Bool) → T t → t ≡ true
holds true _ = refl
holds false a = absurd a

pub fails : (t : Bool) → (T t → ⊥) → t ≡ false
fails true f = absurd (f tt)
fails false _ = refl

module _ {M : Type 1} {𝓤 : Ura M} (𝓛 : Logic 𝓤) (𝓣 : Tables 𝓤 𝓛.H) (En : Env 𝓤 𝓛.H) (turn : Body) (Left : Out → SProp 𝓤) (At : ℕ → List (Item 𝓤)) (k : ℕ) where
  -- one turn, after which Y is to hold
  open 𝓛 use {H}

  abbrev Turn : ℕ → SProp 𝓤 → Type 1
  Turn i Y = ent 𝓤 (⋆ 𝓛 (At i)) (Wp 𝓤 H 𝓣.C 𝓣.Λ En turn (after_turn 𝓤 H Y Left))

  -- t turns are left
  abbrev AtIf : ℕ → ℕ → SProp 𝓤
  AtIf t i = guard 𝓤 (i + t ≡ k) (⋆ 𝓛 (At i))

  abbrev Inv : ℕ → SProp 𝓤
  Inv t = ex 𝓤 (AtIf t)

  abbrev BelowIf : ℕ → ℕ → SProp 𝓤
  BelowIf t t' = guard 𝓤 (t' < t) (Inv t')

  begins : (t i : ℕ) → i + t ≡ k → ent 𝓤 (⋆ 𝓛 (At i)) (Inv t)
  begins t i e = via 𝓤 (AtIf t i) (guard_i 𝓤 (i + t ≡ k) (⋆ 𝓛 (At i)) e) (ex_i 𝓤 (AtIf t) i)

  pub counted : ((i : ℕ) (Y : SProp 𝓤) → i < k → ent 𝓤 (⋆ 𝓛 (At (i + 1))) Y → Turn i Y) → ((Y : SProp 𝓤) → Turn k Y)
      → ent 𝓤 (⋆ 𝓛 (At 0)) (Wp 𝓤 H 𝓣.C 𝓣.Λ En (loop turn) Left)
  counted more last = via 𝓤 (Inv k) (begins k 0 (zero-add k)) (loop_rule 𝓤 H 𝓛.laws 𝓣 ◌<◌ lt-wf_rel.wf En turn Left Inv (λ t. ex_e 𝓤 (AtIf t) (λ i. guard_e 𝓤 (i + t ≡ k) (⋆ 𝓛 (At i)) (from t i))) k)
    where
      from : (t i : ℕ) → i + t ≡ k → Turn i (ex 𝓤 (BelowIf t))
      from zero i e = subst (λ (j : ℕ). Turn j (ex 𝓤 (BelowIf zero))) (sym (let z : i ≡ k = omega (arith, e) in z)) (last (ex 𝓤 (BelowIf zero)))
      from (suc t) i e =
          more i (ex 𝓤 (BelowIf (suc t))) (let z : i < k = omega (arith, e) in z)
          (via 𝓤 (Inv t) (begins t (i + 1) (let z : i + 1 + t ≡ k = omega (arith, e) in z)) (via 𝓤 (BelowIf (suc t) t) (guard_i 𝓤 (t < suc t) (Inv t) (lt-suc_self t)) (ex_i 𝓤 (BelowIf (suc t)) t)))
