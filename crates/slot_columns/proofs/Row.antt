-- What the walks of this crate share: a slot's row in memory, with its machine value and its laws.
--     R, vals        the row, and how a slot is spelled
--     spells, copies, owes   its relation tells the machine value; it can be copied; what it owns is had for nothing
--     typed          a slot's machine value has its MIR type
--     scaled         an index times the bytes of an element is a usize
--     element_place  where a slot lies
-- The laws under a model assume `Logic`; all else assumes nothing.
use mathlib.Core.Path.{◌≡◌, refl, sym, ap, subst}
use Prim.Native.Nat.{ℕ, ◌+◌, ◌*◌, ◌<◌, ◌^◌}
use mathlib.Core.List.{List, [], ◌∷◌}
use seplogic.Ra.Ura.{Ura}
use lib.Dec.{T}
use lib.ListN.{length}
use mir.Syntax.{w64, Lifetime}
use mir.Val.{Val, Fits, has_ty, WT}
use base.Fml.{Lft, GName, fobs, fbor, fhide}
use types.Logic.{Logic}
use types.Kit.{Goal, Item, ‵, Step, step, ◌$◌, fjoin}
use borrow.Author.Rules.{scaled_Fits}
use denote.RattleType.{RattleType}
use denote.Laws.{Is, Tells, Copy, Makes}
use denote.Index.{place, place_is}
use denote.Lend.{Held}
use denote.Memory.{mem, lone, each_shared}
use prog.Memory.{size}
use denote.Shadow.{pure_i}
use denote.Slice.{Room, slice_val, MutSlice, ShrSlice, heres, shr_slice_at, mut_slice_at, coded_holeys}
use denote.Struct.Laws as LL
use Rattle.slot_columns.specs.declared.Slot.{Slot}
use Rattle.slot_columns.specs.Laws.Copies.{slot_of}
use Rattle.slot_columns.specs.contracts.Slot as S
use Rattle.slot_columns.proofs.Slot.TheLaws as S'

abbrev pub R : RattleType
R = S.the_row

abbrev pub val : Slot → Val
val s = LL.val S.the_type S'.the_laws s

abbrev pub vals : Slot → List Val
vals s = val s ∷ []

pub spells : Tells R (Is R) vals
spells = LL.tells S.the_type S'.the_laws

pub scaled : (E : RattleType) (i n : ℕ) → i < n → Room E n → Fits w64 (i * (mem E).size)
scaled E i n l room = scaled_Fits i n (mem E).size l room.1

pub element_place : (o i : ℕ) → i * 16 + o ≡ place 16 o i
element_place o i = sym (place_is 16 o i)

module _ {M : Type 1} {𝓤 : Ura M} (𝓛 : Logic 𝓤) where
  pub copies : Copy 𝓛 R
  copies = LL.copy S.the_type S'.the_copy 𝓛

  pub owes : Makes 𝓛 R (Is R)
  owes = LL.makes S.the_type S'.the_plain 𝓛

  pub typed : (s : Slot) → Is R s (vals s) → T (has_ty S'.mir (val s)) × WT (val s)
  typed s g = ((LL.lawful S.the_type S'.the_laws 𝓛).typed s _ g).0

-- a `&mut` slice's own parts at a list, made the reference again: the count that its machine value has is the list's
module _ {M : Type 1} {𝓤 : Ura M} {𝓛 : Logic 𝓤} {K : Type 0} {Γ : List (Item 𝓤)} {G : Goal 𝓤 𝓛.H} where
  pub mut_again : K → (E : RattleType) (ℓ : Lifetime) {κ : Lft} {γ : GName} (b o n : ℕ) (zs : List E.Denot) → length zs ≡ n → Room E n
      → Step K 𝓛 (‵ ((MutSlice ℓ κ E).own_val (record { ref_ptr = (b, o); ghost_name = γ; now = zs }) (slice_val (b, o) n ∷ [])) ∷ Γ) G (‵ (fobs γ ((coded_holeys E).code (heres E zs))) ∷ ‵ (fbor κ (Held E (length zs) b o γ)) ∷ Γ) G
  mut_again t E ℓ {κ} {γ} b o n zs e room = step (λ s. fjoin t $
      pure_i t (mut_slice_at E (record { ref_ptr = (b, o); ghost_name = γ; now = zs }) (slice_val (b, o) n ∷ [])) (tt, (tt, tt)) (ap (λ (m : ℕ). slice_val (b, o) m ∷ []) (sym e), subst (Room E) (sym e) room) $ fjoin t $ s)

  -- the same of a `&` slice, whose elements are shared one by one
  pub shr_again : K → (E : RattleType) (ℓ : Lifetime) (κ : Lft) (b o : ℕ) (zs : List E.Denot) → Room E (length zs)
      → Step K 𝓛 (‵ ((ShrSlice ℓ κ E).own_val (record { ref_ptr = (b, o); now = zs }) (slice_val (b, o) (length zs) ∷ [])) ∷ Γ) G
      (‵ (fhide (each_shared {D = E.Denot} zs (λ h b' o'. E.shr_at h b' o') (size (lone E.mir)) b o κ)) ∷ Γ) G
  shr_again t E ℓ κ b o zs room = step (λ s.
      pure_i t (shr_slice_at E (record { ref_ptr = (b, o); now = zs }) (slice_val (b, o) (length zs) ∷ [])) (tt, (tt, tt)) (refl, room) $ fjoin t $ s)

-- a slot whose parts fit
pub fitting : (x n d : ℕ) → x < 2 ^ 64 → n < 2 ^ 32 → d < 2 ^ 32 → Is R (slot_of x n d) (vals (slot_of x n d))
fitting x n d gx gn gd = LL.owes S.the_type S'.the_laws (slot_of x n d) ((refl, gx), ((refl, gn), ((refl, gd), tt)))
