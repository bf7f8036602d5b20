-- Laws of the comments with meaning: the computed readings of target and permutation lines are the declared ones, line
-- by line and over a list of lines. Assumes nothing.
use Rattle.std.specs.Prelude.{Bool, true, false, not, cond, ◌&&◌, List, [], ◌∷◌, ◌++◌, map, ◌⊎◌, ◌≡◌, refl, ℕ, zero, suc, ◌+◌, ◌-◌, ◌*◌, ◌/◌, ◌%◌, ◌≤◌, ◌<◌, ◌^◌, eqb, leb, ltb, length, get_or, take, drop}
use Rattle.std.proofs.Common.{append-nil, inl, inr, ⊎_elim, sym, ap, ◌∙◌, subst, le_of_suc-le-suc, not-suc-le-zero, arith, length-append, take-append-drop, take_at, drop_at, length-take-le, eqb-true, eq-eqb, leb-true, le-leb, ltb-true, lt-ltb}
use Rattle.std.proofs.Math.Option
use Rattle.std.proofs.Math.Option.{Option, some, none}
use Rattle.std.proofs.Math.Nat.{pow-succ'}
use Rattle.std.proofs.Math.Seq.{append_snoc}
use Rattle.math.specs.Laws.BitLaws.{bit-zero, bit-suc, bits_ext_below}
use Rattle.math.specs.Bits.{bit}
use Rattle.math.specs.Laws.ListLaws.{and_split, or_split, or_left, or_right, all-at, all_of}
use Rattle.math.specs.Lists.{all}
use Rattle.permutation_theory.specs.Laws.PermutationLaws.{is_permutation_sound, is_permutation_complete}
use Rattle.permutation_theory.specs.Permutations.{Permutation, is_permutation}
use Rattle.formula.specs.Limits.{max_permutations}
use Rattle.dimacs_format.specs.Text.{is_blank, Line, words, spelled, all_blank, target_head, permutation_head, behind}
use Rattle.dimacs_format.specs.Text.{number_in}
use Rattle.dimacs_format.specs.Reader.{walk, is_binary, binary, target_in, target_kept, target_said, target_step}
use Rattle.dimacs_format.specs.Reader.{begins_word, both_numbers, numbers_in, permuting, permutation_in}
use Rattle.dimacs_format.specs.Reader.{permutation_kept}
use Rattle.dimacs_format.specs.Reader.{permutation_said, permutation_step, goes, refuses}
use Rattle.dimacs_format.specs.Accepted.{TargetLine, Targeted, PermutationLine, Permuted, no_line, one_line}
use Rattle.dimacs_format.specs.Accepted.{none_left, one_more}
use Rattle.dimacs_format.specs.Laws.StepLaws.{same_some, not_some, some-cond, goes_same, never, both_go}
use Rattle.dimacs_format.specs.Laws.StepLaws.{walk_step}

-- ---- binary digits, lowest first

binary-digit : (b : ℕ) → is_binary b ≡ true → (b ≡ 48) ⊎ (b ≡ 49)
unfolding is_binary
binary-digit b e = ⊎_elim (λ p. inl (eqb-true b 48 p)) (λ p. inr (eqb-true b 49 p)) (or_split (eqb b 48) (eqb b 49) e)

digit-binary : (b : ℕ) → (b ≡ 48) ⊎ (b ≡ 49) → is_binary b ≡ true
unfolding is_binary
digit-binary b (inl e) = or_left (eqb b 48) (eqb b 49) (eq-eqb b 48 e)
digit-binary b (inr e) = or_right (eqb b 48) (eqb b 49) (eq-eqb b 49 e)

pub binary-lt : (ds : List ℕ) → all is_binary ds ≡ true → binary ds < 2 ^ length ds
unfolding binary all
binary-lt [] h = omega arith
binary-lt (b ∷ ds) h =
    let w = and_split (is_binary b) (all is_binary ds) h in
    let i : binary ds < 2 ^ length ds = binary-lt ds w.1 in
    let p : 2 ^ suc (length ds) ≡ 2 * 2 ^ length ds = pow-succ' 2 (length ds) in
    ⊎_elim (λ (e : b ≡ 48). let g : (b - 48) + 2 * binary ds < 2 ^ suc (length ds) = omega arith in g)
    (λ (e : b ≡ 49). let g : (b - 48) + 2 * binary ds < 2 ^ suc (length ds) = omega arith in g) (binary-digit b w.0)

pub binary-bit : (ds : List ℕ) → all is_binary ds ≡ true → (i : ℕ) → i < length ds
    → bit (binary ds) i ≡ eqb (get_or ds i 0) 49
unfolding binary all
binary-bit [] h i lt = absurd (not-suc-le-zero lt)
binary-bit (b ∷ ds) h zero lt = bit-zero ((b - 48) + 2 * binary ds)
    ∙ lowest (binary-digit b (and_split (is_binary b) (all is_binary ds) h).0)
  where
    lowest : (b ≡ 48) ⊎ (b ≡ 49) → eqb (((b - 48) + 2 * binary ds) % 2) 1 ≡ eqb b 49
    lowest (inl e) = ap (λ k. eqb k 1) (let g : ((b - 48) + 2 * binary ds) % 2 ≡ 0 = omega arith in g)
        ∙ sym (ap (λ k. eqb k 49) e)
    lowest (inr e) = ap (λ k. eqb k 1) (let g : ((b - 48) + 2 * binary ds) % 2 ≡ 1 = omega arith in g)
        ∙ sym (ap (λ k. eqb k 49) e)
binary-bit (b ∷ ds) h (suc i) lt =
    bit-suc ((b - 48) + 2 * binary ds) i
    ∙ ap (λ k. bit k i) (half (binary-digit b (and_split (is_binary b) (all is_binary ds) h).0))
    ∙ binary-bit ds (and_split (is_binary b) (all is_binary ds) h).1 i (le_of_suc-le-suc lt)
  where
    half : (b ≡ 48) ⊎ (b ≡ 49) → ((b - 48) + 2 * binary ds) / 2 ≡ binary ds
    half (inl e) = omega arith
    half (inr e) = omega arith

-- ---- target lines

pub target_line_of : (n : ℕ) (l : Line) (x : ℕ) → target_in n (behind target_head l) ≡ some x → TargetLine n l x
unfolding target_in
target_line_of n l x e =
    let bytes : List ℕ = behind target_head l in
    let c = some-cond (leb n (length bytes) && all is_binary (take n bytes) && all_blank (drop n bytes)) e in
    let w = and_split (leb n (length bytes) && all is_binary (take n bytes)) (all_blank (drop n bytes)) c.0 in
    let v = and_split (leb n (length bytes)) (all is_binary (take n bytes)) w.0 in
    let size : length (take n bytes) ≡ n = length-take-le n bytes (leb-true n (length bytes) v.0) in
    record {
      digits = take n bytes;
      rest = drop n bytes;
      whole = sym (take-append-drop n bytes);
      size = size;
      binary = λ b m. binary-digit b (all-at is_binary v.1 m);
      blank = λ b m. all-at is_blank w.1 m;
      within = subst (λ k. x < 2 ^ k) size (subst (λ k. k < 2 ^ length (take n bytes)) (same_some c.1)
          (binary-lt (take n bytes) v.1));
      value = λ i lt. ap (λ k. bit k i) (sym (same_some c.1))
          ∙ binary-bit (take n bytes) v.1 i (subst (λ k. i < k) (sym size) lt);
    }

pub target_line_in : (n : ℕ) (l : Line) (x : ℕ) → TargetLine n l x → target_in n (behind target_head l) ≡ some x
unfolding target_in
target_line_in n l x t =
    let ds : List ℕ = t.digits in
    let is : all is_binary ds ≡ true = all_of is_binary ds (λ b m. digit-binary b (t.binary b m)) in
    let bl : all_blank t.rest ≡ true = all_of is_blank t.rest t.blank in
    let le : leb n (length (ds ++ t.rest))
    ≡ true = le-leb n (length (ds ++ t.rest)) (omega (arith, length-append ds t.rest, t.size)) in
    let v : binary ds ≡ x =
    bits_ext_below n (binary ds) x (subst (λ k. binary ds < 2 ^ k) t.size (binary-lt ds is)) t.within
    (λ i lt. binary-bit ds is i (subst (λ k. i < k) (sym t.size) lt) ∙ sym (t.value i lt)) in
    ap (target_in n) t.whole ∙ rw (take_at ds t.rest n t.size, drop_at ds t.rest n t.size, le, is, bl, v)

-- a walk over target lines, from none seen
pub walk_targeted : (n : ℕ) (ls : List Line) {t : Option ℕ} → walk (target_step n) none ls ≡ goes t
    → Targeted n ls (Option.get_or t 0)
unfolding walk target_said
walk_targeted n [] e = subst (λ t. Targeted n [] (Option.get_or t 0)) (goes_same e) no_line
walk_targeted n (l ∷ ls) {t} e =
    let v = both_go (target_kept l.start (target_in n (behind target_head l))) (λ q. walk (target_step n) q ls) e in
    first (target_in n (behind target_head l)) refl v.1 ls v.2
  where
    rest : (x : ℕ) → TargetLine n l x → (ls : List Line) → walk (target_step n) (some x) ls ≡ goes t
        → Targeted n (l ∷ ls) (Option.get_or t 0)
    rest x h [] e = subst (λ q. Targeted n (l ∷ []) (Option.get_or q 0)) (goes_same e) (one_line h)
    rest x h (k ∷ ls) e = absurd (never e)

    first : (o : Option ℕ) → target_in n (behind target_head l) ≡ o → {q : Option ℕ} → target_kept l.start o ≡ goes q
        → (ls : List Line)
        → walk (target_step n) q ls ≡ goes t → Targeted n (l ∷ ls) (Option.get_or t 0)
    first none h f ls e = absurd (never f)
    first (some x) h f ls e = rest x (target_line_of n l x h) ls (ap (λ q. walk (target_step n) q ls) (goes_same f) ∙ e)

pub targeted_walk : (n : ℕ) {ls : List Line} {x : ℕ} → Targeted n ls x
    → (t : Option ℕ) × (walk (target_step n) none ls ≡ goes t) × (Option.get_or t 0 ≡ x)
unfolding walk target_said
targeted_walk n no_line = (none, refl, refl)
targeted_walk n (one_line {l = l} {x = x} h) = (some x, rw (target_line_in n l x h), refl)

-- ---- permutation lines

pub numbers_of : (ws : List (List ℕ)) (vs : List ℕ) → numbers_in ws ≡ some vs → map number_in ws ≡ map some vs
unfolding numbers_in
numbers_of [] vs e = ap (map some) (same_some e)
numbers_of (w ∷ ws) vs e = by (number_in w) (numbers_in ws) e (numbers_of ws)
  where
    by : (o : Option ℕ) (r : Option (List ℕ)) → both_numbers o r ≡ some vs
        → ((us : List ℕ) → r ≡ some us → map number_in ws ≡ map some us)
        → o ∷ map number_in ws ≡ map some vs
    by none r e ih = absurd (not_some e)
    by (some v) none e ih = absurd (not_some e)
    by (some v) (some us) e ih = ap (λ l. some v ∷ l) (ih us refl) ∙ ap (map some) (same_some e)

pub numbers_in_lem : (ws : List (List ℕ)) (vs : List ℕ) → map number_in ws ≡ map some vs → numbers_in ws ≡ some vs
unfolding numbers_in
numbers_in_lem [] [] e = refl
numbers_in_lem [] (v ∷ vs) e = cc
numbers_in_lem (w ∷ ws) [] e = cc
numbers_in_lem (w ∷ ws) (v ∷ vs) e =
    let f : number_in w ≡ some v = cc in
    let i : numbers_in ws ≡ some vs = numbers_in_lem ws vs (cc) in
    rw (f, i)

permuting_of : (n : ℕ) (e : Permutation) (o : Option (List ℕ)) → permuting n o ≡ some e
    → (o ≡ some e.images) × (is_permutation n e ≡ true)
unfolding permuting
permuting_of n e none h = absurd (not_some h)
permuting_of n e (some vs) h =
    let c = some-cond (is_permutation n (record { images = vs })) h in (
      ap (λ (k : Permutation). some k.images) (same_some c.1),
      subst (λ k. is_permutation n k ≡ true)
          (same_some c.1) c.0,
    )

pub permutation_line_of : (n : ℕ) (l : Line) (e : Permutation) → permutation_in n (behind permutation_head l) ≡ some e
    → PermutationLine n l e
unfolding permutation_in
permutation_line_of n l e h = by (behind permutation_head l) refl h
  where
    first : (b : ℕ) (bs : List ℕ) → behind permutation_head l ≡ b ∷ bs → (v : Bool) → is_blank b ≡ v
        → cond (not v) (permuting n (numbers_in (spelled (words 0 (behind permutation_head l))))) none ≡ some e
        → PermutationLine n l e
    first b bs f true g h = absurd (not_some h)
    first b bs f false g h =
        let p = permuting_of n e (numbers_in (spelled (words 0 (behind permutation_head l)))) h in
        record {
          byte = b;
          rest = bs;
          first = f;
          unblank = g;
          numbers = numbers_of (spelled (words 0 (behind permutation_head l))) e.images p.0;
          permutation = is_permutation_sound n e p.1;
        }

    by : (bs : List ℕ) → behind permutation_head l ≡ bs
        → cond (begins_word bs) (permuting n (numbers_in (spelled (words 0 (behind permutation_head l))))) none ≡ some e
        → PermutationLine n l e
    by [] f h = absurd (not_some h)
    by (b ∷ bs) f h = first b bs f (is_blank b) refl h

pub permutation_line_in : (n : ℕ) (l : Line) (e : Permutation) → PermutationLine n l e
    → permutation_in n (behind permutation_head l) ≡ some e
unfolding permutation_in
permutation_line_in n l e p =
    let b : begins_word (behind permutation_head l) ≡ true = ap begins_word p.first ∙ ap not p.unblank in
    let v : numbers_in (spelled (words 0 (behind permutation_head l)))
    ≡ some e.images = numbers_in_lem (spelled (words 0 (behind permutation_head l))) e.images p.numbers in
    ap (λ t. cond t (permuting n (numbers_in (spelled (words 0 (behind permutation_head l))))) none) b
    ∙ ap (permuting n) v
    ∙ ap (λ t. cond t (some e) none) (is_permutation_complete n e p.permutation)

-- one step
permutation_goes : (n : ℕ) (es : List Permutation) (l : Line) {q : List Permutation} → permutation_step n es l ≡ goes q
    → (e : Permutation) × (length es < max_permutations) × PermutationLine n l e × (es ++ e ∷ [] ≡ q)
unfolding permutation_said
permutation_goes n es l {q} h = by (ltb (length es) max_permutations) refl
    (permutation_in n (behind permutation_head l)) refl h
  where
    by : (t : Bool) → ltb (length es) max_permutations ≡ t → (o : Option Permutation)
        → permutation_in n (behind permutation_head l) ≡ o
        → cond t (permutation_kept es l.start o) (refuses 9 l.start) ≡ goes q
        → (e : Permutation) × (length es < max_permutations) × PermutationLine n l e × (es ++ e ∷ [] ≡ q)
    by false f o g h = absurd (never h)
    by true f none g h = absurd (never h)
    by true f (some e) g h = (e, ltb-true (length es) max_permutations f, permutation_line_of n l e g, goes_same h)

pub walk_permuted : (n : ℕ) (ls : List Line) (es : List Permutation) {q : List Permutation}
    → length es ≤ max_permutations → walk (permutation_step n) es ls ≡ goes q
    → (new : List Permutation) × Permuted n ls new × (q ≡ es ++ new) × (length q ≤ max_permutations)
unfolding walk
walk_permuted n [] es le e = (
  [],
  none_left,
  sym (goes_same e)
      ∙ sym (append-nil es),
  subst (λ r. length r ≤ max_permutations) (goes_same e) le,
)
walk_permuted n (l ∷ ls) es {q} le e =
    let v = both_go (permutation_step n es l) (λ r. walk (permutation_step n) r ls) e in
    let s = permutation_goes n es l v.1 in
    let i = walk_permuted n ls v.0 (subst (λ r. length r ≤ max_permutations) s.3
    (omega (arith, length-append es (s.0 ∷ []), s.1))) v.2 in
    (s.0 ∷ i.0, one_more s.2 i.1, i.2 ∙ ap (λ r. r ++ i.0) (sym s.3) ∙ append_snoc es s.0 i.0, i.3)

pub permuted_walk : (n : ℕ) {ls : List Line} {new : List Permutation} → Permuted n ls new → (es : List Permutation)
    → length es + length new ≤ max_permutations
    → walk (permutation_step n) es ls ≡ goes (es ++ new)
unfolding walk permutation_said
permuted_walk n none_left es le = ap goes (sym (append-nil es))
permuted_walk n (one_more {l = l} {ls = ls} {e = e} {es = new} p ps) es le =
    let lt : ltb (length es) max_permutations ≡ true = lt-ltb (length es) max_permutations (omega arith) in
    walk_step (permutation_step n) es (es ++ e ∷ []) l ls (rw (lt, permutation_line_in n l e p))
    ∙ permuted_walk n ps (es ++ e ∷ []) (omega (arith, length-append es (e ∷ []))) ∙ ap goes (append_snoc es e new)
