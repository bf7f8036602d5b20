-- Laws of looking for the problem line and reading it by position. Assumes nothing.
use Rattle.std.specs.Prelude.{Bool, true, false, ◌&&◌, ◌⊎◌, ◌≡◌, refl, ℕ, suc, ◌+◌, ◌-◌, ◌≤◌, ◌<◌, eqb, length, get_or, take, drop}
use Rattle.std.proofs.Math.Bool.{cond}
use mathlib.Core.List.{List, [], ◌∷◌, nil≢cons}
use Rattle.std.proofs.Common.{inl, inr, ⊎_elim, sym, ◌∙◌, le_of_eq, arith, take_all, le-leb, eqb-true}
use Rattle.std.specs.Prelude.{Some, None}
use Rattle.std.proofs.Math.Option.{Option, some, none}
use Rattle.std.proofs.Math.Path.{ap}
use Rattle.std.proofs.lemmas.Bool.{eqb-false}
use Rattle.std.proofs.Math.Decide.{dec_lt}
use Rattle.math.specs.Laws.ListLaws.{not-true-false}
use Rattle.math.specs.Lists.{select}
use Rattle.math.specs.Laws.SplitLaws.{select-cons, map-nil}
use Rattle.dimacs_words.specs.declared.Class.TheVariants.{Blank, Word as WordBytes, Line as LineBytes}
use Rattle.dimacs_words.specs.declared.Cursor.{Cursor}
use Rattle.dimacs_problem.specs.declared.Number.{Number}
use Rattle.dimacs_format.specs.Text.{is_blank, all_blank, Piece, Word, piece, joined, pieces, lines, holds_bytes, words}
use Rattle.dimacs_format.specs.Text.{spelled, same_bytes, begins, is_comment, problem_word, format_word, number_in, token_in}
use Rattle.dimacs_format.specs.Text.{is_number}
use Rattle.dimacs_format.specs.Reader.{Sizes, sizes_in, problem_words, problem_in, is_skipped, from_problem}
use Rattle.dimacs_format.specs.Laws.StepLaws.{not_some}
use Rattle.dimacs_format.specs.Laws.TextLaws.{same_bytes_lem}
use Rattle.dimacs_words.specs.Laws.Scans.{belongs, Stretch, lines_behind}
use Rattle.dimacs_words.specs.Laws.ScanLaws.{here_on, words_skip, words_end, word_at, same_lengths}
use Rattle.dimacs_words.specs.Laws.ScanLaws.{bytes_turned, blanks_from, blanks_stop, behind-none, behind-some, lines_from_lem}
use Rattle.dimacs_problem.specs.Laws.ProblemScans.{spelled_from, WordMatched, NumberMatched}

-- ---- equal runs of bytes

pub bytes_apart : (xs ys : List ℕ) → (length xs ≡ length ys → ⊥) → false ≡ same_bytes xs ys
bytes_apart xs ys ne = sym (not-true-false (same_bytes xs ys) (λ e. ne (same_lengths xs ys e)))

pub bytes_begin : (part word : List ℕ) → length part ≡ length word → begins word part ≡ same_bytes part word
unfolding begins
bytes_begin part word e = ap (same_bytes word) (take_all (length word) part (le_of_eq e)) ∙ bytes_turned word part

first_same : {w v : List ℕ} {ws vs : List (List ℕ)} → w ∷ ws ≡ v ∷ vs → w ≡ v
first_same e = cc

none_empty : number_in [] ≡ none
unfolding number_in is_number
none_empty = refl

-- ---- the next word: the part from the end of the blanks to the end of the word

module _ (line : List ℕ) (at from to : ℕ) (blanks : Stretch (belongs Blank) line at from)
    (bytes : Stretch (belongs WordBytes) line from to) where
  -- a word there, or none
  next_word : (spelled_from line at ≡ take (to - from) (drop from line) ∷ spelled_from line to) ⊎
      ((take (to - from) (drop from line) ≡ []) × (spelled_from line at ≡ []))
  next_word = by (dec_lt from (length line))
    where
      by : Dec (from < length line) → (spelled_from line at ≡ take (to - from) (drop from line) ∷ spelled_from line to) ⊎
          ((take (to - from) (drop from line) ≡ []) × (spelled_from line at ≡ []))
      by (yes lt) =
          let w = word_at line (token_in (take (to - from) (drop from line))) bytes lt (blanks_stop line blanks lt) refl
          in
          inl (ap spelled (words_skip line 0 blanks ∙ w.parts 0))
      by (no ge) =
          let a = blanks.within in
          let b = bytes.within in
          let c = bytes.ordered in
          let end : from ≡ length line = omega arith in
          let empty : to - from ≡ 0 = omega arith in
          inr (
            ap (λ j. take j (drop from line)) empty,
            ap spelled
                (words_skip line 0 blanks ∙ words_end line 0 from end),
          )

  pub word-behind : (word : List ℕ) → 1 ≤ length word → same_bytes (take (to - from) (drop from line)) word ≡ true
      → WordMatched line at word (Some (record { at = to }))
  word-behind word low e =
      ⊎_elim (λ s. (
        bytes.within,
        s ∙ ap (λ w. w ∷ spelled_from line to)
            (same_bytes_lem (take (to - from) (drop from line)) word e),
      ))
      (λ s. absurd (let l = same_lengths (take (to - from) (drop from line)) word e in let k = ap length s.0 in
      let z : ⊥ = omega arith in z)) next_word

  pub word_other : (word : List ℕ) → same_bytes (take (to - from) (drop from line)) word ≡ false
      → WordMatched line at word None
  word_other word e w ws f =
      ⊎_elim (λ s. ap (λ v. same_bytes v word) (first_same (sym f ∙ s)) ∙ e) (λ s. absurd (nil≢cons (sym s.1 ∙ f)))
      next_word

  pub number_behind : (v : ℕ) → number_in (take (to - from) (drop from line)) ≡ some v
      → NumberMatched line at (Some (record { value = v; next = record { at = to } }))
  number_behind v e =
      ⊎_elim (λ s. (bytes.within, (take (to - from) (drop from line), s, e)))
      (λ s. absurd (not_some (empty_number s.0 e))) next_word
    where
      empty_number : {w : List ℕ} → w ≡ [] → number_in w ≡ some v → none ≡ some v
      empty_number {w} p q = sym none_empty ∙ ap number_in (sym p) ∙ q

  pub number_other : number_in (take (to - from) (drop from line)) ≡ none → NumberMatched line at None
  number_other e w ws f =
      ⊎_elim (λ s. ap number_in (first_same (sym f ∙ s)) ∙ e) (λ s. absurd (nil≢cons (sym s.1 ∙ f))) next_word

-- a byte that is no blank begins a word
words-some : (at b : ℕ) (bs : List ℕ) → is_blank b ≡ false → words at (b ∷ bs) ≡ [] → ⊥
unfolding words pieces joined select holds_bytes
words-some at b bs e h = by (pieces is_blank (suc at) bs)
    (ap (λ t. select holds_bytes (joined t at b (pieces is_blank (suc at) bs))) (sym e) ∙ h)
  where
    holds : (xs : List ℕ) → holds_bytes (piece at (b ∷ xs)) ≡ true
    holds xs = le-leb 1 (suc (length xs)) (omega arith)

    by : (ps : List Piece) → select holds_bytes (joined false at b ps) ≡ [] → ⊥
    by [] h = nil≢cons (sym h ∙ select-cons holds_bytes {x = piece at (b ∷ [])} [] (holds []))
    by (p ∷ ps) h = nil≢cons (sym h ∙ select-cons holds_bytes {x = piece at (b ∷ p.bytes)} ps (holds p.bytes))

-- where blanks stop before the end, a word is left
word-left : (line : List ℕ) (at from : ℕ) → Stretch (belongs Blank) line at from → from < length line
    → spelled_from line at ≡ [] → ⊥
word-left line at from s inside e =
    words-some (0 + from) (get_or line from 0) (drop (from + 1) line) (blanks_stop line s inside)
    (ap (words (0 + from)) (sym (here_on line from inside)) ∙ sym (words_skip line 0 s)
    ∙ map-nil (λ (w : Word). w.bytes) (words (0 + at) (drop at line)) e)

-- ---- the words of a problem line

-- what the words must be, one behind the other
others-first : (ws : List (List ℕ)) → ((w : List ℕ) (vs : List (List ℕ)) → ws ≡ w ∷ vs
    → same_bytes w problem_word ≡ false) → problem_words ws ≡ none
unfolding problem_words
others-first [] h = refl
others-first (p ∷ []) h = refl
others-first (p ∷ f ∷ []) h = refl
others-first (p ∷ f ∷ v ∷ []) h = refl
others-first (p ∷ f ∷ v ∷ c ∷ []) h = rw (h p (f ∷ v ∷ c ∷ []) refl)
others-first (p ∷ f ∷ v ∷ c ∷ w ∷ ws) h = refl

and-false : (a : Bool) {b : Bool} → b ≡ false → a && b ≡ false
and-false true e = e
and-false false e = refl

others_second : (p : List ℕ) (ws : List (List ℕ)) → ((w : List ℕ) (vs : List (List ℕ)) → ws ≡ w ∷ vs
    → same_bytes w format_word ≡ false) → problem_words (p ∷ ws) ≡ none
unfolding problem_words
others_second p [] h = refl
others_second p (f ∷ []) h = refl
others_second p (f ∷ v ∷ []) h = refl
others_second p (f ∷ v ∷ c ∷ []) h = rw (and-false (same_bytes p problem_word) (h f (v ∷ c ∷ []) refl))
others_second p (f ∷ v ∷ c ∷ w ∷ ws) h = refl

cond-none : (t : Bool) {o : Option Sizes} → o ≡ none → cond t o none ≡ none
cond-none true e = e
cond-none false e = refl

sizes_none : (o : Option ℕ) → sizes_in o none ≡ none
unfolding sizes_in
sizes_none none = refl
sizes_none (some v) = refl

others_third : (p f : List ℕ) (ws : List (List ℕ)) → ((w : List ℕ) (vs : List (List ℕ)) → ws ≡ w ∷ vs
    → number_in w ≡ none) → problem_words (p ∷ f ∷ ws) ≡ none
unfolding problem_words sizes_in
others_third p f [] h = refl
others_third p f (v ∷ []) h = refl
others_third p f (v ∷ c ∷ []) h = cond-none (same_bytes p problem_word && same_bytes f format_word)
    (ap (λ o. sizes_in o (number_in c)) (h v (c ∷ []) refl))
others_third p f (v ∷ c ∷ w ∷ ws) h = refl

others_fourth : (p f v : List ℕ) (ws : List (List ℕ))
    → ((w : List ℕ) (vs : List (List ℕ)) → ws ≡ w ∷ vs → number_in w ≡ none) → problem_words (p ∷ f ∷ v ∷ ws) ≡ none
unfolding problem_words
others_fourth p f v [] h = refl
others_fourth p f v (c ∷ []) h =
    cond-none (same_bytes p problem_word && same_bytes f format_word)
    (ap (sizes_in (number_in v)) (h c [] refl) ∙ sizes_none (number_in v))
others_fourth p f v (c ∷ w ∷ ws) h = refl

others_fifth : (p f v c : List ℕ) (ws : List (List ℕ)) → (ws ≡ [] → ⊥) → problem_words (p ∷ f ∷ v ∷ c ∷ ws) ≡ none
unfolding problem_words
others_fifth p f v c [] h = absurd (h refl)
others_fifth p f v c (w ∷ ws) h = refl

just_four : (v c : List ℕ) (n m : ℕ) → number_in v ≡ some n → number_in c ≡ some m
    → problem_words (problem_word ∷ format_word ∷ v ∷ c ∷ []) ≡ some (record { variables = n; total = m })
unfolding problem_words same_bytes sizes_in
just_four v c n m e f = rw (e, f)

-- ---- the problem line

module _ (line : List ℕ) where
  pub problem_other : begins problem_word line ≡ false → none ≡ problem_in (piece 0 line)
  unfolding problem_in
  problem_other e = rw e

  module _ (e : begins problem_word line ≡ true) where
    by_words : problem_in (piece 0 line) ≡ problem_words (spelled_from line 0)
    unfolding problem_in
    by_words = rw e

    pub problem-first : WordMatched line 0 problem_word None → none ≡ problem_in (piece 0 line)
    problem-first w = sym (by_words ∙ others-first (spelled_from line 0) w)

    module _ (one : Cursor) (a : WordMatched line 0 problem_word (Some one)) where
      pub problem_second : WordMatched line one.at format_word None → none ≡ problem_in (piece 0 line)
      problem_second w = sym (by_words ∙ ap problem_words a.1
          ∙ others_second problem_word (spelled_from line one.at) w)

      module _ (two : Cursor) (b : WordMatched line one.at format_word (Some two)) where
        two_words : spelled_from line 0 ≡ problem_word ∷ format_word ∷ spelled_from line two.at
        two_words = a.1 ∙ ap (λ l. problem_word ∷ l) b.1

        pub problem_third : NumberMatched line two.at None → none ≡ problem_in (piece 0 line)
        problem_third w = sym (by_words ∙ ap problem_words two_words
            ∙ others_third problem_word format_word (spelled_from line two.at) w)

        module _ (v : Number) (c : NumberMatched line two.at (Some v)) where
          three_words : spelled_from line 0 ≡ problem_word ∷ format_word ∷ c.1.0 ∷ spelled_from line v.next.at
          three_words = two_words ∙ ap (λ l. problem_word ∷ format_word ∷ l) c.1.1

          pub problem_fourth : NumberMatched line v.next.at None → none ≡ problem_in (piece 0 line)
          problem_fourth w =
              sym (by_words ∙ ap problem_words three_words
              ∙ others_fourth problem_word format_word c.1.0 (spelled_from line v.next.at) w)

          module _ (m : Number) (d : NumberMatched line v.next.at (Some m)) where
            four_words : spelled_from line 0 ≡ problem_word ∷ format_word ∷ c.1.0 ∷ d.1.0 ∷ spelled_from line m.next.at
            four_words = three_words ∙ ap (λ l. problem_word ∷ format_word ∷ c.1.0 ∷ l) d.1.1

            module _ (end : ℕ) (s : Stretch (belongs Blank) line m.next.at end) where
              pub problem_fifth : end < length line → none ≡ problem_in (piece 0 line)
              problem_fifth inside =
                  sym (by_words ∙ ap problem_words four_words
                  ∙ others_fifth problem_word format_word c.1.0 d.1.0 (spelled_from line m.next.at)
                  (word-left line m.next.at end s inside))

              pub problem_read : length line ≤ end
                  → some (record { variables = v.value; total = m.value }) ≡ problem_in (piece 0 line)
              problem_read past =
                  let last : spelled_from line m.next.at
                  ≡ [] = ap spelled (words_skip line 0 s ∙ words_end line 0 end (let w = s.within in omega arith)) in
                  sym (by_words ∙ ap problem_words (four_words
                  ∙ ap (λ l. problem_word ∷ format_word ∷ c.1.0 ∷ d.1.0 ∷ l) last)
                  ∙ just_four c.1.0 d.1.0 v.value m.value c.1.2 d.1.2)

            -- where the blanks behind the fourth word end
            blanks : (e : ℕ) × Stretch (belongs Blank) line m.next.at e × (eqb e (length line) ≡ all_blank (drop m.next.at line))
            blanks = blanks_from line d.0

            -- the same, by whether all bytes behind that word are blanks
            pub problem_trailed : all_blank (drop m.next.at line) ≡ false → none ≡ problem_in (piece 0 line)
            problem_trailed e =
                let ne : blanks.0 ≡ length line → ⊥ = eqb-false blanks.0 (length line) (blanks.2 ∙ e) in
                let w = blanks.1.within in
                problem_fifth blanks.0 blanks.1 (omega arith)

            pub problem_whole : all_blank (drop m.next.at line) ≡ true
                → some (record { variables = v.value; total = m.value }) ≡ problem_in (piece 0 line)
            problem_whole e =
                let end : blanks.0 ≡ length line = eqb-true blanks.0 (length line) (blanks.2 ∙ e) in
                problem_read blanks.0 blanks.1 (le_of_eq (sym end))

-- ---- lines that are skipped

pub skipped_comment : (line : List ℕ) → is_comment (piece 0 line) ≡ true → true ≡ is_skipped (piece 0 line)
unfolding is_skipped
skipped_comment line e = rw e

pub skipped_blank : (line : List ℕ) {blank : Bool} → is_comment (piece 0 line) ≡ false → blank ≡ all_blank line
    → blank ≡ is_skipped (piece 0 line)
unfolding is_skipped
skipped_blank line e h = rw e h

-- ---- the lines of the text

module _ (text : List ℕ) where
  -- a line that is skipped, and one that is not
  pub preamble_skips : (at e : ℕ) → Stretch (belongs LineBytes) text at e
      → is_skipped (piece 0 (take (e - at) (drop at text))) ≡ true
      → from_problem (lines at (drop at text)) ≡ from_problem (lines_behind text e)
  unfolding from_problem is_skipped is_comment
  preamble_skips at e s h = ap from_problem (lines_from_lem text at e s)
      ∙ ap (λ t. cond t (from_problem (lines_behind text e))
      (piece at (take (e - at) (drop at text)) ∷ lines_behind text e)) h

  pub preamble_stops : (at e : ℕ) → Stretch (belongs LineBytes) text at e
      → is_skipped (piece 0 (take (e - at) (drop at text))) ≡ false
      → from_problem (lines at (drop at text)) ≡ piece at (take (e - at) (drop at text)) ∷ lines_behind text e
  unfolding from_problem is_skipped is_comment
  preamble_stops at e s h = ap from_problem (lines_from_lem text at e s)
      ∙ ap (λ t. cond t (from_problem (lines_behind text e))
      (piece at (take (e - at) (drop at text)) ∷ lines_behind text e)) h

  pub preamble_ends : (e : ℕ) → length text ≤ e → from_problem (lines_behind text e) ≡ []
  unfolding from_problem
  preamble_ends e h = ap from_problem (behind-none text e h)

  pub preamble_goes_on : (e : ℕ) → e < length text
      → from_problem (lines_behind text e) ≡ from_problem (lines (e + 1) (drop (e + 1) text))
  preamble_goes_on e h = ap from_problem (behind-some text e h)
