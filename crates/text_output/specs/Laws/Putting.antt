-- Texts put into lent bytes, one behind the other, as far as the bytes reach: whoever puts a text into none learns how
-- long it is. Assumes nothing.
use mathlib.Core.List.Memᴰ
use mathlib.Core.List.{List, [], ◌∷◌, ◌++◌, map-id, flat_map}
use Rattle.std.specs.Prelude.{◌≡◌, refl, ℕ, suc, ◌+◌, ◌*◌, ◌≤◌, ◌<◌, length, get_or, set, take, drop}
use Rattle.std.proofs.Common.{sym, ap, ap₂, ◌∙◌, subst, zero-le, add_assoc, add-zero, zero-add, le_trans, le_of_eq, le_refl, suc-mul, mul-le-mul, add-one, arith, length-append, take-append-drop, take-suc, take_all, length-take-le}
use Rattle.std.proofs.lemmas.List.Edits.{sets, sets-eq}
use Rattle.math.specs.Lists.{◌∈◌, over, spliced}
use Rattle.math.specs.Laws.SpliceLaws.{spliced-front}
use Rattle.math.specs.Laws.SplitLaws.{flat_map_snoc, flat_map_single, length_flat_map_le}

-- no put reaches this place, so that no sum of a place and a length leaves the machine's numbers
abbrev pub places_end : ℕ
places_end = 4294967296

-- a text is put from place `at` on, byte by byte where there is room for it; r is the place behind it, and all else is
-- as it was
pub record Put (at : ℕ) (text out₀ : List ℕ) (r : ℕ) (out₁ : List ℕ) : Type 0 where
  pub behind : r ≡ at + length text
  pub stored : out₁ ≡ sets out₀ at text

-- ---- one put behind the other

sets_append : (a b out : List ℕ) (at : ℕ) → sets out at (a ++ b) ≡ sets (sets out at a) (at + length a) b
sets_append [] b out at = ap (λ (k : ℕ). sets out k b) (sym (add-zero at))
sets_append (x ∷ a) b out at =
    let behind : suc at + length a ≡ at + suc (length a) = omega arith in
    sets_append a b (set out at x) (suc at) ∙ ap (λ (k : ℕ). sets (sets (set out at x) (suc at) a) k b) behind

-- nothing put
pub put_none : (at : ℕ) (out : List ℕ) → Put at [] out at out
put_none at out = record { behind = sym (add-zero at); stored = refl }

-- two texts
pub put_both : {at r r' : ℕ} {a b out out₁ out₂ : List ℕ} → Put at a out r out₁ → Put r b out₁ r' out₂
    → Put at (a ++ b) out r' out₂
put_both {at} {r} {r'} {a} {b} {out} p q =
    record {
      behind = q.behind ∙ ap (λ (k : ℕ). k + length b) p.behind ∙ add_assoc at (length a) (length b)
          ∙ ap (λ (k : ℕ). at + k) (sym (length-append a b));
      stored = q.stored ∙ ap₂ (λ (l : List ℕ) (k : ℕ). sets l k b) p.stored p.behind
          ∙ sym (sets_append a b out at);
    }

-- a text known under two names
pub put_as : {at r : ℕ} {a b out out₁ : List ℕ} → a ≡ b → Put at a out r out₁ → Put at b out r out₁
put_as {at} {r} {a} {b} {out} {out₁} e p = subst (λ t. Put at t out r out₁) e p

-- the room that two texts take, up to a place k
module _ (at : ℕ) (a b : List ℕ) (k : ℕ) (room : at + length (a ++ b) ≤ k) where
  pub front_room : at + length a ≤ k
  front_room = omega (arith, length-append a b)

  pub back_room : {r : ℕ} {out out₁ : List ℕ} → Put at a out r out₁ → r + length b ≤ k
  back_room p = omega (arith, length-append a b, p.behind)

-- ---- a text for each element of a list

module _ {A : Type 0} where
  -- the texts of the first i elements of a list are put
  pub record PutFirst (f : A → List ℕ) (xs : List A) (at : ℕ) (out₀ : List ℕ) (i place : ℕ) (out : List ℕ)
      : Type 0 where
    pub within : i ≤ length xs
    pub long : length out ≡ length out₀
    pub texts : Put at (flat_map f (take i xs)) out₀ place out

  module _ (f : A → List ℕ) (xs : List A) (at : ℕ) (out₀ : List ℕ) where
    pub first-none : PutFirst f xs at out₀ 0 at out₀
    unfolding flat_map
    first-none = record { within = zero-le; long = refl; texts = put_none at out₀ }

    module _ {i place : ℕ} {out : List ℕ} (p : PutFirst f xs at out₀ i place out) where
      pub first-all : length xs ≤ i → Put at (flat_map f xs) out₀ place out
      first-all all = put_as (ap (flat_map f) (take_all i xs all)) p.texts

      module _ (d : A) (more : i < length xs) where
        pub first_next : {r : ℕ} {out₁ : List ℕ} → Put place (f (get_or xs i d)) out r out₁ → length out₁ ≡ length out
            → PutFirst f xs at out₀ (i + 1) r out₁
        first_next q same =
            record {
              within = omega arith;
              long = same ∙ p.long;
              texts = put_as (sym (flat_map_snoc f (take i xs) (get_or xs i d)) ∙ ap (flat_map f)
                  (sym (take-suc xs i d more) ∙ ap (λ (k : ℕ). take k xs) (sym (add-one i)))) (put_both p.texts q);
            }

-- where each text has at most k bytes, the first i have at most i · k, so that there is room for one more
module _ {A : Type 0} (f : A → List ℕ) (k : ℕ) (xs : List A) (short : (x : A) → x ∈ xs → length (f x) ≤ k) where
  pub room_left : (at : ℕ) (out₀ : List ℕ) {i place : ℕ} {out : List ℕ} → PutFirst f xs at out₀ i place out
      → i < length xs → (end : ℕ) → at + length xs * k ≤ end → place + k ≤ end
  room_left at out₀ {i} {place} p more end room =
      omega (
        arith,
        p.texts.behind,
        length_flat_map_le f k (take i xs) (λ x m. short x
            (subst (λ l. x ∈ l) (take-append-drop i xs) (Memᴰ.append_left (drop i xs) m))),
        ap (λ (j : ℕ). j * k) (length-take-le i xs p.within),
        suc-mul i k,
        mul-le-mul more (le_refl k),
      )

-- a byte each: the list itself
pub flat_bytes : (bs : List ℕ) → flat_map (λ b. b ∷ []) bs ≡ bs
flat_bytes bs = flat_map_single (λ b. b) bs ∙ map-id bs

-- ---- a text at the front

-- put there with room for all of it: r counts its bytes, and what is behind them is as it was
pub put_over : (text out₀ : List ℕ) (r : ℕ) (out₁ : List ℕ) → length text ≤ length out₀ → Put 0 text out₀ r out₁
    → (r ≡ length text) × (out₁ ≡ over text out₀)
unfolding spliced
put_over text out₀ r out₁ room p =
    let within : 0 + length text ≤ length out₀ = le_trans (le_of_eq (zero-add (length text))) room in
    (p.behind ∙ zero-add (length text), p.stored ∙ sets-eq text out₀ 0 within ∙ spliced-front text out₀)
