-- The lines of a written text: each is what the reader asks for a line of its kind, and holds no byte 10. Assumes
-- nothing.
use Rattle.std.specs.Prelude.{Bool, cond, ◌⊎◌, ◌≡◌, ℕ, ◌^◌, ◌≤◌, ◌<◌, eqb, get_or}
use Rattle.std.proofs.Math.Bool.{true, false, not}
use mathlib.Core.List.{List, [], ◌∷◌, ◌++◌, map, map-map, append-nil}
use Rattle.std.proofs.Math.Logic.{inl, inr}
use Rattle.std.proofs.Math.Option.{some}
use Rattle.std.proofs.Math.Path.{refl, sym, ap}
use Rattle.std.proofs.Common.{◌∙◌, subst, zero-add, not-suc-le-zero, arith}
use Rattle.std.proofs.Math.ListN.{length, length-map}
use Rattle.math.specs.Bits.{bit}
use Rattle.math.specs.Laws.ListLaws.{here, all_of, length-range, get_d_range}
use Rattle.math.specs.Laws.PartLaws.{each_nil, each_cons, each_map}
use Rattle.math.specs.Laws.SplitLaws.{map_ext, map_at}
use Rattle.math.specs.Lists.{◌∈◌, all, below}
use Rattle.points.specs.Points.{Clause}
use Rattle.permutation_theory.specs.Laws.PermutationLaws.{permutation_within}
use Rattle.permutation_theory.specs.Permutations.{Permutation, IsPermutation}
use Rattle.dimacs_format.specs.Accepted.{ProblemLine, TargetLine, PermutationLine}
use Rattle.dimacs_format.specs.Text.{ascii, ends_line, is_blank, piece, Clean, problem_word, format_word, number_in, Literal}
use Rattle.text_output.specs.Decimal.{numeral}
use Rattle.dimacs_text.specs.SheetText.{spaced, problem_line, target_line, permutation_line, spelling, literals_of}
use Rattle.dimacs_text.specs.SheetText.{clause_line}
use Rattle.dimacs_text.proofs.LiteralLaws.{clause-words}
use Rattle.dimacs_text.specs.Laws.WordLaws.{NumberByte, NumberWord, numeral-word}
use Rattle.dimacs_text.specs.Laws.WordLaws.{spelling-word, zero_word, numeral_number, IsWord, number_unblank}
use Rattle.dimacs_text.specs.Laws.WordLaws.{number_word, problem_word_lem, format_word_lem, words-spaced, spaced_inside}

numerals_words : (vs : List ℕ) → (w : List ℕ) → w ∈ map numeral vs → IsWord w
numerals_words vs = each_map IsWord numeral vs (λ v m. number_word (numeral v) (numeral-word v))

-- ---- the problem line

module _ (n m : ℕ) where
  abbrev four_words : List (List ℕ)
  four_words = problem_word ∷ format_word ∷ numeral n ∷ numeral m ∷ []

  each_word : (w : List ℕ) → w ∈ four_words → IsWord w
  each_word =
      each_cons IsWord problem_word_lem (each_cons IsWord format_word_lem (numerals_words (n ∷ m ∷ [])))

  pub problem_inside : Clean ends_line (problem_line n m)
  unfolding problem_line
  problem_inside = spaced_inside four_words each_word

  pub problem_says : (at : ℕ) → n < 10 ^ 4 → m < 10 ^ 4 → ProblemLine (piece at (problem_line n m)) n m
  unfolding problem_line spaced
  problem_says at p q =
      record {
        rest = 32 ∷ spaced (format_word ∷ numeral n ∷ numeral m ∷ []);
        first = refl;
        third = numeral n;
        fourth = numeral m;
        four = words-spaced at four_words each_word;
        variables = numeral_number n p;
        total = numeral_number m q;
      }

-- ---- the target line

module _ (n x : ℕ) where
  -- the digit of bit i
  abbrev digit : ℕ → ℕ
  digit i = cond (bit x i) 49 48

  digit_at : (i : ℕ) → i < n → eqb (get_or (map digit (below n)) i 0) 49 ≡ bit x i
  digit_at i lt =
      ap (λ b. eqb b 49) (map_at digit (below n) i 0 0 (subst (λ k. i < k) (sym (length-range 0 n)) lt)
      ∙ ap digit (get_d_range 0 n i 0 lt ∙ zero-add i))
      ∙ told (bit x i)
    where
      told : (t : Bool) → eqb (cond t 49 48) 49 ≡ t
      told true = refl
      told false = refl

  pub target_inside : Clean ends_line (target_line n x)
  unfolding target_line all ends_line
  target_inside =
      all_of (λ b. not (ends_line b)) (map digit (below n))
      (each_map (λ b. not (ends_line b) ≡ true) digit (below n) (λ i m. by (bit x i)))
    where
      by : (t : Bool) → not (ends_line (cond t 49 48)) ≡ true
      by true = refl
      by false = refl

  pub target_says : (at : ℕ) → x < 2 ^ n → TargetLine n (piece at (target_line n x)) x
  unfolding target_line
  target_says at lt =
      record {
        digits = map digit (below n);
        rest = [];
        whole = sym (append-nil (map digit (below n)));
        size = length-map (below n) digit ∙ length-range 0 n;
        binary = each_map (λ b. (b ≡ 48) ⊎ (b ≡ 49)) digit (below n) (λ i m. either (bit x i));
        blank = each_nil (λ b. is_blank b ≡ true);
        within = lt;
        value = λ i lt. sym (digit_at i lt);
      }
    where
      either : (t : Bool) → (◌≡◌ {A = ℕ} (cond t 49 48) 48) ⊎ (◌≡◌ {A = ℕ} (cond t 49 48) 49)
      either true = inr refl
      either false = inl refl

-- ---- a permutation line

-- a line that begins like a number
pub record Fronted (l : List ℕ) : Type 0 where
  pub byte : ℕ
  pub rest : List ℕ
  pub split : l ≡ byte ∷ rest
  pub number : NumberByte byte

spaced-front : (w : List ℕ) (ws : List (List ℕ)) → NumberWord w → Fronted (spaced (w ∷ ws))
unfolding spaced
spaced-front [] ws h = absurd (not-suc-le-zero h.some_byte)
spaced-front (b ∷ bs) [] h = record { byte = b; rest = bs; split = refl; number = h.bytes b (here b bs) }
spaced-front (b ∷ bs) (v ∷ ws) h =
    record { byte = b; rest = bs ++ 32 ∷ spaced (v ∷ ws); split = refl; number = h.bytes b (here b bs) }

module _ (e : Permutation) where
  pub permutation_inside : Clean ends_line (permutation_line e)
  unfolding permutation_line all ends_line
  permutation_inside = spaced_inside (map numeral e.images) (numerals_words e.images)

  pub permutation_says : (n at : ℕ) → 1 ≤ n → n < 10 ^ 4 → IsPermutation n e
      → PermutationLine n (piece at (permutation_line e)) e
  unfolding permutation_line
  permutation_says n at low few p =
      let f = front e.images p.size in
      record {
        byte = f.byte;
        rest = f.rest;
        first = f.split;
        unblank = number_unblank f.byte f.number;
        numbers =
            ap (map number_in) (words-spaced 0 (map numeral e.images) (numerals_words e.images))
            ∙ map-map number_in numeral e.images
            ∙ map_ext (λ v. number_in (numeral v)) some e.images (λ v m. let le = (permutation_within n e p v m).1 in
            numeral_number v (omega (arith, le, few)));
        permutation = p;
      }
    where
      front : (vs : List ℕ) → length vs ≡ n → Fronted (spaced (map numeral vs))
      front [] k = absurd (omega arith)
      front (v ∷ vs) k = spaced-front (numeral v) (map numeral vs) (numeral-word v)

-- ---- the line of a clause

module _ (n : ℕ) (c : Clause) where
  pub clause_inside : Clean ends_line (clause_line n c)
  unfolding clause_line
  clause_inside = spaced_inside (map spelling (literals_of n c) ++ ascii "0" ∷ []) (clause-words n c)

  pub clause-front : Fronted (clause_line n c)
  unfolding clause_line
  clause-front = by (literals_of n c)
    where
      by : (g : List Literal) → Fronted (spaced (map spelling g ++ ascii "0" ∷ []))
      by [] = spaced-front (ascii "0") [] zero_word
      by (l ∷ g) = spaced-front (spelling l) (map spelling g ++ ascii "0" ∷ []) (spelling-word l)
