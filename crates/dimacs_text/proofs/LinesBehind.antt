-- The lines behind the problem line of a written text, taken together: the reader takes each for its kind, and all of
-- them for the permutations and the clauses. Assumes nothing.
use Rattle.std.specs.Prelude.{Bool, true, false, not, ◌≡◌, ℕ, suc, ◌+◌, ◌^◌, ◌≤◌, ◌<◌, length}
use mathlib.Core.List.Memᴰ
use mathlib.Core.List.{List, [], ◌∷◌, ◌++◌, map, flat_map, map-map}
use Rattle.std.proofs.Math.Path.{refl, ap, ap₂, subst}
use Rattle.std.proofs.Common.{sym, ◌∙◌, arith, ne_eqb}
use Rattle.math.specs.Laws.ListLaws.{here}
use Rattle.math.specs.Laws.PartLaws.{each_nil, each_cons}
use Rattle.math.specs.Laws.SplitLaws.{select-cons, select_skip, map-append}
use Rattle.math.specs.Lists.{◌∈◌, select}
use Rattle.points.specs.Points.{Clause}
use Rattle.permutation_theory.specs.Permutations.{Permutation, IsPermutation}
use Rattle.dimacs_format.specs.Accepted.{closed_by0, Permuted, none_left, one_more, words_among}
use Rattle.dimacs_format.specs.Laws.ClauseLaws.{token_of}
use Rattle.dimacs_format.specs.Text.{ascii, piece, Line, Word, lines, words_of, is_comment, is_target_line}
use Rattle.dimacs_format.specs.Text.{is_permutation_line, is_percent_line, token_in}
use Rattle.dimacs_text.specs.SheetText.{lined, target_line, permutation_line, spelling, literals_of, clause_line}
use Rattle.dimacs_text.proofs.LiteralLaws.{clause-words, clause-tokens}
use Rattle.dimacs_text.specs.Laws.WordLaws.{words-spaced, line_next}
use Rattle.dimacs_text.proofs.WrittenLines.{permutation_inside, permutation_says, clause_inside, clause-front}

-- ---- the kind of each line

-- what the reader's tests say of a line
pub record Kinds (l : Line) (comment target permutation : Bool) : Type 0 where
  pub comments : is_comment l ≡ comment
  pub targets : is_target_line l ≡ target
  pub permutations : is_permutation_line l ≡ permutation
  pub unended : is_percent_line l ≡ false

pub target_kinds : (n x at : ℕ) → Kinds (piece at (target_line n x)) true true false
unfolding is_comment is_target_line is_permutation_line is_percent_line target_line
target_kinds n x at = record { comments = refl; targets = refl; permutations = refl; unended = refl }

permutation_kinds : (e : Permutation) (at : ℕ) → Kinds (piece at (permutation_line e)) true false true
unfolding is_comment is_target_line is_permutation_line is_percent_line permutation_line
permutation_kinds e at = record { comments = refl; targets = refl; permutations = refl; unended = refl }

clause_kinds : (n : ℕ) (c : Clause) (at : ℕ) → Kinds (piece at (clause_line n c)) false false false
unfolding is_comment is_target_line is_permutation_line is_percent_line
clause_kinds n c at =
    let f = clause-front n c in
    let no_letter = ne_eqb 99 f.byte (λ e. let z : ⊥ = omega (arith, f.number.1) in z) in
    let no_percent = ne_eqb 37 f.byte (λ e. let z : ⊥ = omega (arith, f.number.0) in z) in
    subst (λ l. Kinds (piece at l) false false false) (sym f.split)
    (record { comments = rw no_letter; targets = rw no_letter; permutations = rw no_letter; unended = rw no_percent })

-- ---- the words that are no comments

pub words_comment : (l : Line) (ls : List Line) → is_comment l ≡ true → words_among (l ∷ ls) ≡ words_among ls
unfolding words_among
words_comment l ls e = ap (flat_map words_of) (select_skip (λ k. not (is_comment k)) {x = l} ls (ap not e))

words-plain : (l : Line) (ls : List Line) → is_comment l ≡ false → words_among (l ∷ ls) ≡ words_of l ++ words_among ls
unfolding words_among
words-plain l ls e = ap (flat_map words_of) (select-cons (λ k. not (is_comment k)) {x = l} ls (ap not e))

-- S14: the words of a clause's line are its literals, closed by 0
clause_says : (n : ℕ) (c : Clause) (at : ℕ) → n < 10 ^ 4
    → map token_of (words_of (piece at (clause_line n c))) ≡ closed_by0 (literals_of n c)
unfolding clause_line
clause_says n c at few =
    sym (map-map token_in (λ (w : Word). w.bytes) (words_of (piece at (clause_line n c))))
    ∙ ap (map token_in) (words-spaced at (map spelling (literals_of n c) ++ ascii "0" ∷ []) (clause-words n c))
    ∙ clause-tokens n c few

-- ---- the lines together

-- lines that hold these permutations and these clauses, and no target
pub record Behind (n : ℕ) (es : List Permutation) (cs : List Clause) (ls : List Line) : Type 0 where
  pub tokens : map token_of (words_among ls) ≡ flat_map closed_by0 (map (literals_of n) cs)
  pub targets : select is_target_line ls ≡ []
  pub permuted : Permuted n (select is_permutation_line ls) es
  pub unended : (l : Line) → l ∈ ls → is_percent_line l ≡ false

module _ (n : ℕ) (few : n < 10 ^ 4) where
  -- behind the last byte 10 stands an empty line
  behind-none : (at : ℕ) → Behind n [] [] (lines at (lined []))
  unfolding lines lined words_among is_target_line is_permutation_line is_percent_line
  behind-none at =
      record {
        tokens = refl;
        targets = refl;
        permuted = none_left;
        unended = each_cons (λ l. is_percent_line l ≡ false) refl (each_nil (λ l. is_percent_line l ≡ false));
      }

  -- a line of a clause in front
  behind-clause : (c : Clause) (cs : List Clause) (at : ℕ) (ls : List Line) → Behind n [] cs ls
      → Behind n [] (c ∷ cs) (piece at (clause_line n c) ∷ ls)
  unfolding flat_map
  behind-clause c cs at ls b =
      let l : Line = piece at (clause_line n c) in
      let k = clause_kinds n c at in
      record {
        tokens =
            ap (map token_of) (words-plain l ls k.comments) ∙ map-append token_of (words_of l) (words_among ls)
            ∙ ap₂ ◌++◌ (clause_says n c at few) b.tokens;
        targets = select_skip is_target_line {x = l} ls k.targets ∙ b.targets;
        permuted = subst (λ p. Permuted n p []) (sym (select_skip is_permutation_line {x = l} ls k.permutations))
            b.permuted;
        unended = each_cons (λ l. is_percent_line l ≡ false) k.unended b.unended;
      }

  -- a permutation line in front
  behind_permutation : 1 ≤ n → (e : Permutation) (es : List Permutation) (cs : List Clause) (at : ℕ) (ls : List Line)
      → IsPermutation n e → Behind n es cs ls → Behind n (e ∷ es) cs (piece at (permutation_line e) ∷ ls)
  behind_permutation low e es cs at ls p b =
      let l : Line = piece at (permutation_line e) in
      let k = permutation_kinds e at in
      record {
        tokens = ap (map token_of) (words_comment l ls k.comments) ∙ b.tokens;
        targets = select_skip is_target_line {x = l} ls k.targets ∙ b.targets;
        permuted =
            subst (λ q. Permuted n q (e ∷ es)) (sym (select-cons is_permutation_line {x = l} ls k.permutations))
            (one_more (permutation_says e n at low few p) b.permuted);
        unended = each_cons (λ l. is_percent_line l ≡ false) k.unended b.unended;
      }

  behind-clauses : (cs : List Clause) (at : ℕ) → Behind n [] cs (lines at (lined (map (clause_line n) cs)))
  behind-clauses [] at = behind-none at
  behind-clauses (c ∷ cs) at =
      let next : ℕ = suc (at + length (clause_line n c)) in
      subst (Behind n [] (c ∷ cs)) (sym (line_next at (clause_line n c) (map (clause_line n) cs) (clause_inside n c)))
      (behind-clause c cs at (lines next (lined (map (clause_line n) cs))) (behind-clauses cs next))

  pub behind_both : 1 ≤ n → (es : List Permutation) (cs : List Clause) (at : ℕ)
      → ((e : Permutation) → e ∈ es → IsPermutation n e)
      → Behind n es cs (lines at (lined (map permutation_line es ++ map (clause_line n) cs)))
  behind_both low [] cs at h = behind-clauses cs at
  behind_both low (e ∷ es) cs at h =
      let next : ℕ = suc (at + length (permutation_line e)) in
      let rest : List (List ℕ) = map permutation_line es ++ map (clause_line n) cs in
      subst (Behind n (e ∷ es) cs) (sym (line_next at (permutation_line e) rest (permutation_inside e)))
      (behind_permutation low e es cs at (lines next (lined rest)) (h e (here e es))
      (behind_both low es cs next (λ k m. h k (Memᴰ.tail m))))
