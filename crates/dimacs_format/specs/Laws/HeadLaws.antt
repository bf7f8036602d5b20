-- Laws of lines told apart by their heads: where no head begins like another, a line has the kind of the one head that
-- it has. Assumes nothing.
use Rattle.std.specs.Prelude.{Bool, ◌&&◌, ◌||◌, ◌≡◌, ℕ}
use Rattle.std.proofs.Math.Bool.{true, false, not, cond}
use Rattle.std.proofs.Common.{true≢false, ⊎_elim, ◌∙◌, subst}
use mathlib.Core.List.Memᴰ
use mathlib.Core.List.{List, [], ◌∷◌}
use Rattle.std.proofs.Math.Option.{some}
use Rattle.std.proofs.Math.Path.{refl, sym, ap}
use Rattle.std.proofs.Math.Dec.{eqb}
use borrow.Author.Tests.{eqb-true, eq-eqb, ne_eqb, eqb-false, not-true}
use Rattle.math.specs.Laws.ListLaws.{and_split, and_join, or_split, all-at}
use Rattle.math.specs.Lists.{◌∈◌, all}
use Rattle.dimacs_format.specs.Text.{Line, ascii, begins, is_comment}
use Rattle.dimacs_format.specs.Reader.{Kind, clause_line_lem, HeadedKind, headed_kinds, kind_among, kind_of}
use Rattle.dimacs_format.specs.Laws.SideLaws.{is_of}

-- ---- heads

-- two heads differ at a byte
unfoldable pub apart : List ℕ → List ℕ → Bool
apart [] ys = false
apart (x ∷ xs) [] = false
apart (x ∷ xs) (y ∷ ys) = not (eqb x y) || apart xs ys

-- then no run of bytes has both
apart_alone : (xs ys bytes : List ℕ) → apart xs ys ≡ true → begins xs bytes ≡ true → begins ys bytes ≡ true → ⊥
unfolding apart begins
apart_alone [] ys bytes h a b = true≢false (sym h)
apart_alone (x ∷ xs) [] bytes h a b = true≢false (sym h)
apart_alone (x ∷ xs) (y ∷ ys) [] h a b = true≢false (sym a)
apart_alone (x ∷ xs) (y ∷ ys) (z ∷ zs) h a b =
    let v = and_split (eqb x z) (begins xs zs) a in
    let w = and_split (eqb y z) (begins ys zs) b in
    ⊎_elim
    (λ (d : not (eqb x y) ≡ true). eqb-false x y (not-true (eqb x y) d)
    (eqb-true x z v.0 ∙ sym (eqb-true y z w.0)))
    (λ (d : apart xs ys ≡ true). apart_alone xs ys zs d v.1 w.1) (or_split (not (eqb x y)) (apart xs ys) h)

-- a head that has a head
begins-begins : (xs ys bytes : List ℕ) → begins xs ys ≡ true → begins ys bytes ≡ true → begins xs bytes ≡ true
unfolding begins
begins-begins [] ys bytes a b = refl
begins-begins (x ∷ xs) [] bytes a b = absurd (true≢false (sym a))
begins-begins (x ∷ xs) (y ∷ ys) [] a b = absurd (true≢false (sym b))
begins-begins (x ∷ xs) (y ∷ ys) (z ∷ zs) a b =
    let v = and_split (eqb x y) (begins xs ys) a in
    let w = and_split (eqb y z) (begins ys zs) b in
    and_join (eqb x z) (begins xs zs) (eq-eqb x z (eqb-true x y v.0 ∙ eqb-true y z w.0))
    (begins-begins xs ys zs v.1 w.1)

-- ---- kinds by their heads; kinds are told apart by numbers

module _ (rank : Kind → ℕ) where
  -- no kind of the list is the given one
  abbrev others : Kind → List HeadedKind → Bool
  others k hs = all (λ (h : HeadedKind). not (eqb (rank h.kind) (rank k))) hs

  -- heads and kinds of the list are all different
  unfoldable pub separate : List HeadedKind → Bool
  unfolding all apart
  separate [] = true
  separate (h ∷ hs) = others h.kind hs && all (λ (g : HeadedKind). apart h.head g.head) hs && separate hs

  -- each head is that of a comment
  unfoldable pub well_headed : List HeadedKind → Bool
  unfolding separate all begins
  well_headed hs = separate hs && others clause_line_lem hs && all (λ (h : HeadedKind). begins (ascii "c") h.head) hs

  among_other : (k : Kind) (bytes : List ℕ) (hs : List HeadedKind) → others k hs ≡ true
      → is_of rank (kind_among hs bytes) k ≡ false
  unfolding kind_among all
  among_other k bytes [] h = refl
  among_other k bytes (g ∷ hs) h =
      let v = and_split (not (eqb (rank g.kind) (rank k))) (others k hs) h in
      by (begins g.head bytes) (not-true (eqb (rank g.kind) (rank k)) v.0) (among_other k bytes hs v.1)
    where
      by : (t : Bool) → eqb (rank g.kind) (rank k) ≡ false → is_of rank (kind_among hs bytes) k ≡ false
          → is_of rank (cond t (some g.kind) (kind_among hs bytes)) k ≡ false
      by true a b = a
      by false a b = b

  -- what the test says of a list and its first
  split : (g : HeadedKind) (hs : List HeadedKind) → separate (g ∷ hs) ≡ true
      → (others g.kind hs ≡ true) × (all (λ (k : HeadedKind). apart g.head k.head) hs ≡ true)
      × (separate hs ≡ true)
  unfolding separate
  split g hs e =
      let v = and_split (others g.kind hs && all (λ (k : HeadedKind). apart g.head k.head) hs) (separate hs) e in
      let w = and_split (others g.kind hs) (all (λ (k : HeadedKind). apart g.head k.head) hs) v.0 in
      (w.0, w.1, v.1)

  -- bytes with a head of the list have its kind
  among_headed : (bytes : List ℕ) {h : HeadedKind} {hs : List HeadedKind} → separate hs ≡ true → h ∈ hs
      → begins h.head bytes ≡ true → kind_among hs bytes ≡ some h.kind
  unfolding kind_among
  among_headed bytes {h} s (Memᴰ.head {x = g} {xs = hs} e) b =
      ap (λ t. cond t (some g.kind) (kind_among hs bytes)) (subst (λ (k : HeadedKind). begins k.head bytes ≡ true) e b)
      ∙ ap (λ (k : HeadedKind). some k.kind) (sym e)
  among_headed bytes {h} s (Memᴰ.tail {x = g} {xs = hs} m) b =
      by (begins g.head bytes) refl (among_headed bytes (split g hs s).2 m b)
    where
      by : (t : Bool) → begins g.head bytes ≡ t → kind_among hs bytes ≡ some h.kind
          → cond t (some g.kind) (kind_among hs bytes) ≡ some h.kind
      by true a i = absurd (apart_alone g.head h.head bytes
          (all-at (λ (k : HeadedKind). apart g.head k.head) (split g hs s).1 m) a b)
      by false a i = i

  -- and bytes without it have not
  among_headless : (bytes : List ℕ) {h : HeadedKind} {hs : List HeadedKind} → separate hs ≡ true → h ∈ hs
      → begins h.head bytes ≡ false → is_of rank (kind_among hs bytes) h.kind ≡ false
  unfolding kind_among
  among_headless bytes {h} s (Memᴰ.head {x = g} {xs = hs} e) b =
      ap (λ t. is_of rank (cond t (some g.kind) (kind_among hs bytes)) h.kind)
      (subst (λ (k : HeadedKind). begins k.head bytes ≡ false) e b)
      ∙ among_other h.kind bytes hs (subst (λ (k : HeadedKind). others k.kind hs ≡ true) (sym e) (split g hs s).0)
  among_headless bytes {h} s (Memᴰ.tail {x = g} {xs = hs} m) b =
      by (begins g.head bytes) (among_headless bytes (split g hs s).2 m b)
    where
      differ : eqb (rank h.kind) (rank g.kind) ≡ false
      differ = not-true (eqb (rank h.kind) (rank g.kind))
          (all-at (λ (k : HeadedKind). not (eqb (rank k.kind) (rank g.kind))) (split g hs s).0 m)

      by : (t : Bool) → is_of rank (kind_among hs bytes) h.kind ≡ false
          → is_of rank (cond t (some g.kind) (kind_among hs bytes)) h.kind ≡ false
      by true i = ne_eqb (rank g.kind) (rank h.kind)
          (λ e. eqb-false (rank h.kind) (rank g.kind) differ (sym e))
      by false i = i

  module _ (fine : well_headed headed_kinds ≡ true) where
    parts : (separate headed_kinds ≡ true) × (others clause_line_lem headed_kinds ≡ true)
        × (all (λ (h : HeadedKind). begins (ascii "c") h.head) headed_kinds ≡ true)
    unfolding well_headed
    parts =
        let v = and_split (separate headed_kinds && others clause_line_lem headed_kinds)
        (all (λ (h : HeadedKind). begins (ascii "c") h.head) headed_kinds) fine in
        let w = and_split (separate headed_kinds) (others clause_line_lem headed_kinds) v.0 in
        (w.0, w.1, v.1)

    comment : {h : HeadedKind} → h ∈ headed_kinds → (l : Line) → begins h.head l.bytes ≡ true → is_comment l ≡ true
    unfolding is_comment
    comment {h} m l b = begins-begins (ascii "c") h.head l.bytes
        (all-at (λ (k : HeadedKind). begins (ascii "c") k.head) parts.2 m) b

    -- a line with a head has its kind
    pub kind_headed : {h : HeadedKind} → h ∈ headed_kinds → (l : Line) → begins h.head l.bytes ≡ true
        → kind_of l ≡ some h.kind
    unfolding kind_of
    kind_headed m l b = ap (λ t. cond t (kind_among headed_kinds l.bytes) (some clause_line_lem)) (comment m l b)
        ∙ among_headed l.bytes parts.0 m b

    -- the test for its head is the test for its kind
    pub headed_test : {h : HeadedKind} → h ∈ headed_kinds → (l : Line)
        → begins h.head l.bytes ≡ is_of rank (kind_of l) h.kind
    unfolding kind_of
    headed_test {h} m l = by (begins h.head l.bytes) refl
      where
        differ : eqb (rank clause_line_lem) (rank h.kind) ≡ false
        differ = ne_eqb (rank clause_line_lem) (rank h.kind) (λ e. eqb-false (rank h.kind) (rank clause_line_lem)
            (not-true (eqb (rank h.kind) (rank clause_line_lem))
            (all-at (λ (k : HeadedKind). not (eqb (rank k.kind) (rank clause_line_lem))) parts.1 m)) (sym e))

        none_of : (c : Bool) → begins h.head l.bytes ≡ false
            → is_of rank (cond c (kind_among headed_kinds l.bytes) (some clause_line_lem)) h.kind ≡ false
        none_of true b = among_headless l.bytes parts.0 m b
        none_of false b = differ

        by : (t : Bool) → begins h.head l.bytes ≡ t
            → begins h.head l.bytes ≡ is_of rank (kind_of l) h.kind
        by true b = b ∙ sym (ap (λ o. is_of rank o h.kind) (kind_headed m l b)
            ∙ eq-eqb (rank h.kind) (rank h.kind) refl)
        by false b = b ∙ sym (none_of (is_comment l) b)

    -- a line of words is none of them
    pub clause_test : (l : Line) → not (is_comment l) ≡ is_of rank (kind_of l) clause_line_lem
    unfolding kind_of
    clause_test l = by (is_comment l)
      where
        by : (c : Bool) → not c ≡ is_of rank (cond c (kind_among headed_kinds l.bytes) (some clause_line_lem)) clause_line_lem
        by true = sym (among_other clause_line_lem l.bytes headed_kinds parts.1)
        by false = sym (eq-eqb (rank clause_line_lem) (rank clause_line_lem) refl)
