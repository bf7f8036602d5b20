-- Steps for a function that lends what it has in memory to the functions that it calls, each time for a lifetime of the
-- call's own.
--     lend, unlend     a row of elements is lent as a `&mut` slice; it is back, at the last list, once the lifetime is
-- ended
--     unshare          a row that was shared is back, its list as it was, once the lifetime is ended
--     zeros_typed      the machine value of n zeros has its type
--     abstracted, emptied  a local array of n zeros is a row of n elements; a row of n elements is a local array's room
-- again
--     roomy            a list of n elements has room where n elements have
--     big_lit      a constant that is written with its bound to be shown
-- Assumes `Logic`.
use mathlib.Core.Path.{◌≡◌, refl, sym, subst}
use Prim.Native.Nat.{ℕ, ◌^◌, ◌<◌}
use mathlib.Core.List.{List, [], ◌∷◌}
use lib.ListN.{length, replicate, length-replicate}
use seplogic.Ra.Ura.{Ura}
use base.Fraction.{full_share}
use mir.Syntax.{Lifetime, Width, int_big, ty_int, ty_array}
use lib.Dec.{T}
use mir.Val.{Val, vint, vstruct, of_list, bits, has_ty, WT, Fits}
use base.Logic.{via, guard_i}
use base.Fml.{GName, fsep, fat, froom, flft, flent}
use prog.Wp.{Env}
use types.Logic.{Logic}
use types.Kit.{Goal, Soaks, Item, ‵, ◌⊛◌, some, later, Seq, Step, step, ◌$◌, use1, use3, move, drop, split, pick}
use types.Kit.{rewrite, await, fsplit, fjoin, fpick, fpack, feq_l, feq_i}
use types.Run.{Opd, forget}
use types.Tokens.{lft_new, lft_end, lent_back}
use types.SemTy.{cells, Arr}
use types.Share.{arr_parts}
use denote.Array.{Array, array_val, Array-repeat, Array-Lawful}
use denote.ArrayMemory.{Array-apart, Array-whole}
use denote.Index.{row, whole_out, whole_in}
use denote.Laws.{Is, shows}
use denote.Lend.{Held, lends_slice, slice_back, lends_shr_slice}
use denote.Memory.{cell_at, part_at, part_of, mem, shares}
use denote.Plain.{UInt, uint_copy, uint_Makes, uint_Lawful}
use denote.RattleType.{RattleType}
use denote.Ref.{MutBor}
use denote.Slice.{Room, slice_val, MutSlice, ShrSlice, finally}
use denote.Steps.{owned, facts}

-- what has room for n elements has it for a list of n
pub roomy : (E : RattleType) {n : ℕ} (xs : List E.Denot) → Room E n → length xs ≡ n → Room E (length xs)
roomy E xs room e = subst (Room E) (sym e) room

-- a slice reference: where it points, its ghost name and its list
abbrev pub at_list : {D : Type 0} → ℕ → ℕ → GName → List D → MutBor (List D)
at_list b o γ ys = record { ref_ptr = (b, o); ghost_name = γ; now = ys }

module _ {M : Type 1} {𝓤 : Ura M} {𝓛 : Logic 𝓤} {K : Type 0} {Γ : List (Item 𝓤)} {G : Goal 𝓤 𝓛.H} where
  pub lend : K → Soaks G → (E : RattleType) (ℓ : Lifetime) (n : ℕ) (ys : List E.Denot) (b o : ℕ) → length ys ≡ n → Room E (length ys)
      → ((ν : ℕ) (γ : GName) → Seq K 𝓛 (‵ ((MutSlice ℓ (ν ∷ []) E).own_val (at_list b o γ ys) (slice_val (b, o) n ∷ [])) ∷ ‵ (flft (ν ∷ []) full_share) ∷ ‵ (flent (ν ∷ []) (Held E (length ys) b o γ)) ∷ Γ) G)
      → Seq K 𝓛 (‵ (row E full_share ys b o) ∷ Γ) G
  lend t a E ℓ n ys b o e room k =
      use1 𝓛 (‵ (cells (mem E) ys b o)) (whole_in 𝓛 E ys b o) $ lft_new t a (λ ν. move t (1 ∷ []) $
      use1 𝓛 (later (some (λ (γ : GName). ‵ ((MutSlice ℓ (ν ∷ []) E).own_val (at_list b o γ ys) (slice_val (b, o) (length ys) ∷ [])) ⊛ ‵ (flent (ν ∷ []) (Held E (length ys) b o γ))))) (lends_slice 𝓛 E ℓ (ν ∷ []) ys b o room) $
      await t a $ pick t (λ γ. split t $ rewrite t 0 (λ (m : ℕ). ‵ ((MutSlice ℓ (ν ∷ []) E).own_val (at_list b o γ ys) (slice_val (b, o) m ∷ []))) e refl $ move t (0 ∷ 2 ∷ []) $ k ν γ))

  pub unlend : K → Soaks G → (E : RattleType) {ν m : ℕ} {γ : GName} (zs : List E.Denot) (b o : ℕ)
      → Step K 𝓛 (‵ (row E full_share zs b o) ∷ Γ) G (‵ (flft (ν ∷ []) full_share) ∷ ‵ (flent (ν ∷ []) (Held E m b o γ)) ∷ ‵ (finally E γ zs) ∷ Γ) G
  unlend t a E {ν} {m} {γ} zs b o = step (λ s. lft_end t a $ use3 𝓛 (later (‵ ((Arr (mem E) m).own_at zs b o))) (slice_back 𝓛 E (ν ∷ []) γ zs m b o) $ await t a $ fsplit t $ drop t $
      use1 𝓛 (‵ (row E full_share zs b o)) (whole_out 𝓛 E zs b o) $ s)

  pub unshare : K → Soaks G → (E : RattleType) {ν : ℕ} (ys : List E.Denot) (b o : ℕ)
      → Step K 𝓛 (‵ (row E full_share ys b o) ∷ Γ) G (‵ (flft (ν ∷ []) full_share) ∷ ‵ (flent (ν ∷ []) ((arr_parts (shares E) (length ys)).part full_share ys b o)) ∷ Γ) G
  unshare t a E ys b o = step (λ s. lft_end t a $ lent_back t a $ fsplit t $ drop t $ s)

  pub zeros_typed : K → (w : Width) (n : ℕ) → 0 < 2 ^ bits w → (T (has_ty (ty_array (ty_int w) n) (vstruct (of_list (replicate n (vint w 0))))) × WT (vstruct (of_list (replicate n (vint w 0)))) → Seq K 𝓛 Γ G) → Seq K 𝓛 Γ G
  zeros_typed t w n z k = owned t (UInt w) (Is (UInt w)) (uint_Makes 𝓛 w) 0 (vint w 0 ∷ []) (refl, z) $
      use1 𝓛 (‵ ((Array (UInt w) n).own_val (replicate n 0) (array_val (replicate n (vint w 0)) ∷ []))) (Array-repeat 𝓛 (UInt w) (uint_copy 𝓛 w) n 0 (vint w 0)) $
      facts t (Array (UInt w) n) (Is (Array (UInt w) n)) (shows 𝓛 (Array (UInt w) n)) (replicate n 0) (array_val (replicate n (vint w 0)) ∷ []) (λ is.
      k ((Array-Lawful 𝓛 (UInt w) (uint_Lawful 𝓛 w) n).typed (replicate n 0) (array_val (replicate n (vint w 0)) ∷ []) is).0)

  zeroed : K → (w : Width) (n l : ℕ) → 0 < 2 ^ bits w
      → Step K 𝓛 (‵ (row (UInt w) full_share (replicate n 0) l 0) ∷ Γ) G (‵ (fat full_share (ty_array (ty_int w) n) l 0 (vstruct (of_list (replicate n (vint w 0))))) ∷ Γ) G
  unfolding part_of
  zeroed t w n l z = step (λ s. owned t (UInt w) (Is (UInt w)) (uint_Makes 𝓛 w) 0 (vint w 0 ∷ []) (refl, z) $
      use1 𝓛 (‵ ((Array (UInt w) n).own_val (replicate n 0) (array_val (replicate n (vint w 0)) ∷ []))) (Array-repeat 𝓛 (UInt w) (uint_copy 𝓛 w) n 0 (vint w 0)) $ move t (1 ∷ 0 ∷ []) $ fjoin t $
      fpack t (List Val) (λ vs. fsep (cell_at full_share (Array (UInt w) n).mir vs l 0) ((Array (UInt w) n).own_val (replicate n 0) vs)) (array_val (replicate n (vint w 0)) ∷ []) $
      use1 𝓛 (‵ ((arr_parts (shares (UInt w)) n).part full_share (replicate n 0) l 0)) (Array-apart 𝓛 (UInt w) full_share tt n (replicate n 0) l 0) $ fsplit t $ drop t $ s)

  -- the same with the list kept out of sight but for its length, so that no check computes n elements
  pub abstracted : K → (w : Width) (n l : ℕ) → 0 < 2 ^ bits w → ((xs : List ℕ) → length xs ≡ n → Seq K 𝓛 (‵ (row (UInt w) full_share xs l 0) ∷ Γ) G)
      → Seq K 𝓛 (‵ (fat full_share (ty_array (ty_int w) n) l 0 (vstruct (of_list (replicate n (vint w 0))))) ∷ Γ) G
  abstracted t w n l z k = zeroed t w n l z $ k (replicate n 0) (length-replicate n 0)

  pub emptied : K → (w : Width) (n l : ℕ) (xs : List ℕ) → length xs ≡ n → Step K 𝓛 (‵ (froom (ty_array (ty_int w) n) l 0) ∷ Γ) G (‵ (row (UInt w) full_share xs l 0) ∷ Γ) G
  unfolding part_of
  emptied t w n l xs e = step (λ s. feq_i t ℕ (length xs) n e $ fjoin t $ use1 𝓛 (‵ (part_at (Array (UInt w) n) full_share xs l 0)) (Array-whole 𝓛 (UInt w) full_share n xs l 0) $
      fpick t (λ vs. fsplit t $ move t (1 ∷ []) $ fpick t (λ us. fsplit t $ fsplit t $ feq_l t (λ is. drop t $ drop t $
      rewrite t 0 (λ (ws : List Val). ‵ (cell_at full_share (Array (UInt w) n).mir ws l 0)) is refl $ forget t 0 refl $ s))))

-- a constant that is written with the bound to be shown
module _ {M : Type 1} {𝓤 : Ura M} {𝓛 : Logic 𝓤} {K : Type 0} {Γ : List (Item 𝓤)} {E : Env 𝓤 𝓛.H} where
  pub big_lit : K → {w : Width} {n : ℕ} → Fits w n → Opd K 𝓛 Γ E (int_big w n) (vint w n)
  big_lit t {w} {n} z = record { go = λ Kt h. via 𝓤 (Kt (vint w n)) h (guard_i 𝓤 (Fits w n) (Kt (vint w n)) z) }
