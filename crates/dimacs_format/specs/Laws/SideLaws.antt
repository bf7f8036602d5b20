-- A walk whose state falls into parts: each item belongs to one part or to none, and its step changes that part alone.
-- Such a walk is one walk a part, over the items that belong to it. Assumes nothing.
use Rattle.std.specs.Prelude.{Bool, true, false, ◌≡◌, ℕ, eqb}
use mathlib.Core.List.{List, [], ◌∷◌}
use Rattle.std.proofs.Math.Option.{Option, some, none}
use Rattle.std.proofs.Math.Path.{refl, sym, ap}
use Rattle.std.proofs.Common.{◌∙◌, subst}
use borrow.Author.Tests.{eqb-true, eq-eqb}
use Rattle.math.specs.Lists.{select}
use Rattle.math.specs.Laws.SplitLaws.{select-cons, select_skip}
use Rattle.dimacs_format.specs.Reader.{Step, and_then, walk, goes}
use Rattle.dimacs_format.specs.Laws.StepLaws.{goes_same, both_go, walk_step}

-- the parts of a state: each is looked at and replaced by itself, and together they are the state
pub record Parted (S I : Type 0) (A : I → Type 0) : Type 0 where
  -- the parts are numbered, so that two of them can be told apart
  pub rank : I → ℕ
  pub at_rank : ℕ → I
  pub ranked : (i : I) → at_rank (rank i) ≡ i
  pub get : (i : I) → S → A i
  pub put : (i : I) → S → A i → S
  pub own : (i : I) (s : S) (a : A i) → get i (put i s a) ≡ a
  pub other : (i j : I) (s : S) (a : A i) → eqb (rank i) (rank j) ≡ false → get j (put i s a) ≡ get j s
  pub whole : (s t : S) → ((i : I) → get i s ≡ get i t) → s ≡ t

module _ {I : Type 0} where
  -- whether an item of a part, or of none, belongs to the part j
  abbrev pub is_of : (I → ℕ) → Option I → I → Bool
  is_of rank none j = false
  is_of rank (some i) j = eqb (rank i) (rank j)

-- the walk by f, where items have a part or none, and each part j has its items, by a test, and its own step g j
module _ {S X I : Type 0} {A : I → Type 0} (p : Parted S I A) (part : X → Option I) (test : I → X → Bool)
    (tests : (j : I) (x : X) → test j x ≡ is_of p.rank (part x) j) (g : (j : I) → A j → X → Step (A j))
    (f : S → X → Step S) (rests : (s : S) (x : X) → part x ≡ none → f s x ≡ goes s)
    (steps : (s : S) (x : X) (i : I) → part x ≡ some i
    → f s x ≡ and_then (g i (p.get i s) x) (λ a. goes (p.put i s a)))
  where
    -- the walk of the part j
    abbrev part_walk : (j : I) → S → List X → Step (A j)
    part_walk j s xs = walk (g j) (p.get j s) (select (test j) xs)

    -- an item that leads on leads each part on
    part_first : (j : I) (s r : S) (x : X) (xs : List X) → f s x ≡ goes r → part_walk j s (x ∷ xs) ≡ part_walk j r xs
    part_first j s r x xs e = by (part x) refl
      where
        tested : {o : Option I} (i : I) → part x ≡ o → test i x ≡ is_of p.rank o i
        tested i k = tests i x ∙ ap (λ o. is_of p.rank o i) k

        skipped : test j x ≡ false → part_walk j s (x ∷ xs) ≡ part_walk j s xs
        skipped t = ap (walk (g j) (p.get j s)) (select_skip (test j) {x = x} xs t)

        taken : (i : I) (a : A i) → part x ≡ some i → g i (p.get i s) x ≡ goes a
            → part_walk i s (x ∷ xs) ≡ part_walk i (p.put i s a) xs
        taken i a k h =
            ap (walk (g i) (p.get i s)) (select-cons (test i) {x = x} xs
            (tested i k ∙ eq-eqb (p.rank i) (p.rank i) refl))
            ∙ walk_step (g i) (p.get i s) a x (select (test i) xs) h
            ∙ ap (λ t. walk (g i) t (select (test i) xs)) (sym (p.own i s a))

        with_part : (i : I) (a : A i) → part x ≡ some i → g i (p.get i s) x ≡ goes a → (b : Bool)
            → eqb (p.rank i) (p.rank j) ≡ b
            → part_walk j s (x ∷ xs) ≡ part_walk j (p.put i s a) xs
        with_part i a k h true same =
            subst (λ m. part_walk m s (x ∷ xs) ≡ part_walk m (p.put i s a) xs)
            (sym (p.ranked i) ∙ ap p.at_rank (eqb-true (p.rank i) (p.rank j) same) ∙ p.ranked j) (taken i a k h)
        with_part i a k h false differs =
            skipped (tested j k ∙ differs)
            ∙ ap (λ t. walk (g j) t (select (test j) xs)) (sym (p.other i j s a differs))

        by : (o : Option I) → part x ≡ o → part_walk j s (x ∷ xs) ≡ part_walk j r xs
        by none k = skipped (tested j k) ∙ ap (λ t. part_walk j t xs) (goes_same (sym (rests s x k) ∙ e))
        by (some i) k =
            let w = both_go (g i (p.get i s) x) (λ a. goes (p.put i s a)) (sym (steps s x i k) ∙ e) in
            with_part i w.0 k w.1 (eqb (p.rank i) (p.rank j)) refl
            ∙ ap (λ t. part_walk j t xs) (goes_same w.2)

    -- where the walks of all parts go to their ends, the first item leads on
    first_goes : (s q : S) (x : X) (xs : List X) → ((j : I) → part_walk j s (x ∷ xs) ≡ goes (p.get j q))
        → (r : S) × (f s x ≡ goes r)
    unfolding and_then walk
    first_goes s q x xs h = by (part x) refl
      where
        by : (o : Option I) → part x ≡ o → (r : S) × (f s x ≡ goes r)
        by none k = (s, rests s x k)
        by (some i) k =
            let w = both_go (g i (p.get i s) x) (λ a. walk (g i) a (select (test i) xs))
            (ap (walk (g i) (p.get i s)) (sym (select-cons (test i) {x = x} xs
            (tests i x ∙ ap (λ o. is_of p.rank o i) k ∙ eq-eqb (p.rank i) (p.rank i) refl))) ∙ h i) in (
              p.put i s w.0,
              steps s x i k ∙ ap (λ m. and_then m (λ a. goes (p.put i s a))) w.1,
            )

    -- a walk to the end is a walk to the end in each part
    pub walk-parts : (xs : List X) (s q : S) → walk f s xs ≡ goes q → (j : I)
        → walk (g j) (p.get j s) (select (test j) xs) ≡ goes (p.get j q)
    unfolding walk select
    walk-parts [] s q e j = ap (λ r. goes (p.get j r)) (goes_same e)
    walk-parts (x ∷ xs) s q e j =
        let v = both_go (f s x) (λ r. walk f r xs) e in
        part_first j s v.0 x xs v.1 ∙ walk-parts xs v.0 q v.2 j

    -- and back
    pub parts-walk : (xs : List X) (s q : S)
        → ((j : I) → walk (g j) (p.get j s) (select (test j) xs) ≡ goes (p.get j q)) → walk f s xs ≡ goes q
    unfolding walk select
    parts-walk [] s q h = ap goes (p.whole s q (λ j. goes_same (h j)))
    parts-walk (x ∷ xs) s q h =
        let v = first_goes s q x xs h in
        walk_step f s v.0 x xs v.1
        ∙ parts-walk xs v.0 q (λ j. sym (part_first j s v.0 x xs v.1) ∙ h j)
