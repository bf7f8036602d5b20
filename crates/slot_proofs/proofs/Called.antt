-- Steps of a walk that hold of any call and of any locals.
--     asked        a call is made from the tokens of its lifetimes, what its parameters own, and what it requires
--     answered     once it has returned: the tokens, the result, what is said of its `&mut` parameters, and what it
-- ensures
--     given_up     a `&mut` slice that is as it was passed: its last list is the one it has
--     free_all     all locals are freed, the first first
--     placed       a function's locals with where they stand
-- Assumes `Logic`.
use Prim.Native.Nat.{ℕ, zero}
use mathlib.Core.List.{List, [], ◌∷◌}
use seplogic.Ra.Ura.{Ura}
use mir.Syntax.{Lifetime, Ty, Local, local}
use mir.Val.{Val}
use base.Logic.{SProp, ent, id⊢, sep, emp, via, comm∗, emp∗, mono_l}
use base.Fml.{Lft, froom, fdies, fres}
use prog.Wp.{Env}
use types.Logic.{Logic}
use types.Kit.{Goal, Soaks, Item, ‵, mean, raw, ◌⊛◌, some, later, frees, Seq, Step, step, ◌$◌, use1, use2, move}
use types.Kit.{drop, split, pick, await, fsplit}
use types.Run.{free1, free0}
use denote.RattleType.{RattleType, owns}
use denote.Ref.{MutBor}
use denote.Signature.{type_at, types_at}
use denote.Slice.{MutSlice, finally, res-finally, coded_holeys, heres}
use denote.Triple.Clauses.{Clauses, Ended, Lasts, at_exit, lasts, ensured, closing}
use denote.Triple.Entry.{Res, alive}
use denote.Triple.Spec.{triple_of}
use denote.Triple.Statement.{Contract}

-- the contract that a function's clauses make
abbrev pub Does : {M : Type 1} {𝓤 : Ura M} (𝓛 : Logic 𝓤) (T : Ended) → Clauses 𝓤 T → Contract 𝓤
Does 𝓛 T c = triple_of 𝓛 T.signature (closing 𝓛 T c)

abbrev pub placed : List Local → List ℕ → List (Ty × ℕ)
placed [] ls = []
placed (local τ h ∷ ts) [] = []
placed (local τ h ∷ ts) (l ∷ ls) = (τ, l) ∷ placed ts ls

-- the locals' room, and that each dies, before what else is had
abbrev pub rooms : {M : Type 1} (𝓤 : Ura M) → List (Ty × ℕ) → List (Item 𝓤) → List (Item 𝓤)
rooms 𝓤 [] Γ = Γ
rooms 𝓤 (l ∷ E) Γ = ‵ (froom l.0 l.1 zero) ∷ ‵ (fdies l.0 l.1) ∷ rooms 𝓤 E Γ

module _ {M : Type 1} {𝓤 : Ura M} {𝓛 : Logic 𝓤} where
  open 𝓛 use {H}

  module _ {K : Type 0} {Γ : List (Item 𝓤)} {G : Goal 𝓤 H} (T : Ended) (c : Clauses 𝓤 T) (y : (Does 𝓛 T c).Ghost) (tokens : Item 𝓤) where
    pub asked : K → ent 𝓤 (mean 𝓛 tokens) (alive 𝓛 T.signature y.0.0 y.0.1) → ent 𝓤 (emp 𝓤) ((c y.0.0 y.0.3).requires y.1)
        → Step K 𝓛 (raw ((Does 𝓛 T c).pre y) ∷ Γ) G (tokens ∷ ‵ (owns (types_at T.signature.params y.0.0) y.0.3 y.0.4) ∷ Γ) G
    asked t are holds =
        let O : SProp 𝓤 = mean 𝓛 (‵ (owns (types_at T.signature.params y.0.0) y.0.3 y.0.4)) in
        let P : SProp 𝓤 = sep 𝓤 (alive 𝓛 T.signature y.0.0 y.0.1) O in
        let R : SProp 𝓤 = (c y.0.0 y.0.3).requires y.1 in
        use2 𝓛 (raw ((Does 𝓛 T c).pre y)) (via 𝓤 P (mono_l 𝓤 O are) (via 𝓤 (sep 𝓤 (emp 𝓤) P) (emp∗ 𝓤 P) (via 𝓤 (sep 𝓤 R P) (mono_l 𝓤 P holds) (comm∗ 𝓤 R P))))

    pub answered : K → Soaks G → (w : Val) → ent 𝓤 (alive 𝓛 T.signature y.0.0 y.0.1) (mean 𝓛 tokens)
        → ((r : Res T.signature y.0.0) (ws : Lasts T y.0.0 y.0.3) → Seq K 𝓛 (tokens ∷ ‵ ((type_at T.signature.result y.0.0).own_val r (w ∷ []))
        ∷ ‵ (lasts T y.0.0 y.0.3 ws) ∷ raw ((c y.0.0 y.0.3).ensures y.1 r (at_exit T y.0.0 y.0.3 ws)) ∷ Γ) G) → Seq K 𝓛 (raw ((Does 𝓛 T c).post y w) ∷ Γ) G
    answered t a w are k =
        use1 𝓛 (later (some (λ (r : Res T.signature y.0.0). (raw (alive 𝓛 T.signature y.0.0 y.0.1) ⊛ ‵ ((type_at T.signature.result y.0.0).own_val r (w ∷ []))) ⊛ raw (ensured 𝓛 T c y.0.0 y.0.3 y.1 r)))) (id⊢ 𝓤 _) $ await t a $
        pick t (λ r. split t $ move t (1 ∷ []) $
        use1 𝓛 (some (λ (ws : Lasts T y.0.0 y.0.3). ‵ (lasts T y.0.0 y.0.3 ws) ⊛ raw ((c y.0.0 y.0.3).ensures y.1 r (at_exit T y.0.0 y.0.3 ws)))) (id⊢ 𝓤 _) $
        pick t (λ ws. split t $ move t (2 ∷ []) $ split t $ use1 𝓛 tokens are $ k r ws))

  module _ {K : Type 0} {Γ : List (Item 𝓤)} {G : Goal 𝓤 H} where
    pub given_up : K → (ℓ : Lifetime) (κ : Lft) (E : RattleType) (x : MutBor (List E.Denot)) (vs : List Val) → Step K 𝓛 (‵ (finally E x.ghost_name x.now) ∷ Γ) G (‵ ((MutSlice ℓ κ E).own_val x vs) ∷ Γ) G
    given_up t ℓ κ E x vs = step (λ s. fsplit t $ drop t $ fsplit t $ use1 𝓛 (‵ (fres x.ghost_name ((coded_holeys E).code (heres E x.now)))) (𝓛.names.obs-res x.ghost_name ((coded_holeys E).code (heres E x.now))) $
        use1 𝓛 (‵ (finally E x.ghost_name x.now)) (res-finally 𝓛 ℓ κ E x.ghost_name x.now) $ move t (1 ∷ []) $ drop t $ s)

  pub free_all : {K : Type 0} {Γ : List (Item 𝓤)} {G : Goal 𝓤 H} → K → (E : Env 𝓤 H) → Seq K 𝓛 Γ G → Seq K 𝓛 (rooms 𝓤 E Γ) (frees E G)
  free_all t [] s = free0 t $ s
  free_all t (l ∷ E) s = free1 t $ free_all t E s
