-- Request 2026-01, as theorems: a percent line ends the sheet, whatever stands behind it, and in another line a percent
-- sign begins a word or is in one. Assumes nothing.
use Rattle.std.specs.Prelude.{Bool, true, false, ◌||◌, ◌≡◌, ℕ, suc, ◌+◌, ◌≤◌, ◌<◌, leb, ltb, length, drop}
use Rattle.std.proofs.Math.Bool.{cond}
use mathlib.Core.List.{List, [], ◌∷◌, ◌++◌}
use Rattle.std.proofs.Math.Option.{Option, some, none}
use Rattle.std.proofs.Math.Path.{refl, ap}
use Rattle.std.proofs.Common.{sym, ◌∙◌, zero-add, arith, length-append, ne_eqb}
use Rattle.math.specs.Laws.ListLaws.{here, and_split, not-all}
use Rattle.math.specs.Lists.{◌∈◌, all}
use Rattle.dimacs_format.specs.Text.{max_text, is_blank, is_digit, ends_line, Line, Word, piece, lines, words_of}
use Rattle.dimacs_format.specs.Text.{spelled, begins, is_comment, all_blank, percent_sign, is_percent_line}
use Rattle.dimacs_format.specs.Text.{problem_word, malformed}
use Rattle.dimacs_format.specs.Input.{Input}
use Rattle.dimacs_format.specs.Reader.{and_then, walk, goes, refuses, Sizes, problem_words, problem_in, within_limits}
use Rattle.dimacs_format.specs.Reader.{Clauses, word_step, token_step, Progress, begin, with_part, handled, line_step}
use Rattle.dimacs_format.specs.Reader.{clause_line_lem, is_skipped, from_problem, at_end, lines_say, with_problem}
use Rattle.dimacs_format.specs.Reader.{with_lines, reading}
use Rattle.dimacs_format.specs.Accepted.{Accepts}
use Rattle.dimacs_format.specs.Laws.TextLaws.{begins_split, lines-some, lines-append, lines_last, blank_clean}
use Rattle.dimacs_format.specs.Laws.StepLaws.{both_go}
use Rattle.dimacs_format.specs.Laws.LineLaws.{kind_clauses, line_of_kind}
use Rattle.dimacs_format.specs.Laws.ReaderLaws.{word_malformed, says_percent, says_line, says_walk}
use Rattle.dimacs_format.specs.Laws.ReaderLaws.{text_lines, text_passes, reading_accepts, accepts_reading}

-- ---- with fewer clauses closed

-- Q01.3: "With fewer rules closed it gives 7 at the percent sign.", whether a clause is begun or not: of the lines
-- behind the problem line
pub few_closed : (size : ℕ) (z : Sizes) (sheet : List Line) (s q : Progress) (l : Line) (ls : List Line)
    → ((k : Line) → k ∈ sheet → is_percent_line k ≡ false) → is_percent_line l ≡ true
    → walk (line_step z) s sheet ≡ goes q → length q.clauses.closed < z.total
    → lines_say size z s (sheet ++ l ∷ ls) ≡ refuses 7 l.start
unfolding at_end
few_closed size z sheet s q l ls unended e w few =
    says_walk size z sheet (l ∷ ls) s q unended w
    ∙ says_percent size z q l ls e
    ∙ rw (ne_eqb (length q.clauses.closed) z.total (λ f. let x : ⊥ = omega arith in x))

-- and of a text
pub few_read : (text : List ℕ) (room : ℕ) (z : Sizes) (problem : Line) (sheet : List Line) (q : Progress) (l : Line)
    (ls : List Line) → length text ≤ max_text → from_problem (lines 0 text) ≡ problem ∷ (sheet ++ l ∷ ls)
    → problem_in problem ≡ some z → within_limits z ≡ true → z.total ≤ room
    → ((k : Line) → k ∈ sheet → is_percent_line k ≡ false) → is_percent_line l ≡ true
    → walk (line_step z) begin sheet ≡ goes q → length q.clauses.closed < z.total
    → reading text room ≡ refuses 7 l.start
few_read text room z problem sheet q l ls short from is limits enough unended e w few =
    text_passes text room short from is limits enough
    ∙ few_closed (length text) z sheet begin q l ls unended e w few

-- ---- the sheet ends there

-- a line without bytes says nothing
empty_line : (z : Sizes) (s : Progress) (at : ℕ) → line_step z s (piece at []) ≡ goes s
unfolding line_step handled
empty_line z s at = refl

-- the lines before a percent line, in a text that ends where it stands
abbrev up_to : Line → List Line → List Line
up_to l front = front ++ piece l.start [] ∷ []

-- they say the same
lines_cut : (size : ℕ) (z : Sizes) (front : List Line) (s : Progress) (l : Line) (ls : List Line)
    → is_percent_line l ≡ true → lines_say size z s (front ++ l ∷ ls) ≡ lines_say l.start z s (up_to l front)
unfolding lines_say
lines_cut size z [] s l ls e =
    says_percent size z s l ls e
    ∙ sym (ap (λ m. and_then m (λ t. at_end l.start z t)) (empty_line z s l.start))
lines_cut size z (k ∷ front) s l ls e =
    ap (λ f. cond (is_percent_line k) (at_end k.start z s) (and_then (line_step z s k) f))
    (λ i t. lines_cut size z front t l ls e i)

-- the bytes of a percent line
percent_split : (l : Line) → is_percent_line l ≡ true → l.bytes ≡ 37 ∷ drop 1 l.bytes
unfolding is_percent_line
percent_split l e = begins_split percent_sign l.bytes
    (and_split (begins percent_sign l.bytes) (all_blank (drop 1 l.bytes)) e).0

-- before the problem line it is a malformed one
percent_shown : (l : Line) → is_percent_line l ≡ true → is_skipped l ≡ false
unfolding is_skipped
percent_shown l e = ap (λ bs. begins (99 ∷ []) bs || all_blank bs) (percent_split l e)

percent_malformed : (l : Line) → is_percent_line l ≡ true → problem_in l ≡ none
unfolding problem_in
percent_malformed l e = ap (λ t. cond t (problem_words (spelled (words_of l))) none)
    (ap (begins problem_word) (percent_split l e))

-- R2: so it gives 2 there
pub percent_first_lem : (text : List ℕ) (room : ℕ) (l : Line) (ls : List Line) → length text ≤ max_text
    → from_problem (lines 0 text) ≡ l ∷ ls → is_percent_line l ≡ true → reading text room ≡ refuses 2 l.start
unfolding with_lines
percent_first_lem text room l ls short from e =
    text_lines text room short
    ∙ ap (with_lines (length text) room) from
    ∙ ap (with_problem (length text) room l ls) (percent_malformed l e)

module _ (size room : ℕ) (l : Line) (ls : List Line) (e : is_percent_line l ≡ true) where
  -- from the problem line on
  text_cut : (ks : List Line) → with_lines size room (from_problem (ks ++ l ∷ ls))
      ≡ with_lines l.start room (from_problem (up_to l ks))
  unfolding from_problem with_lines
  text_cut [] =
      ap (λ t. with_lines size room (cond t (from_problem ls) (l ∷ ls))) (percent_shown l e)
      ∙ ap (with_problem size room l ls) (percent_malformed l e)
  text_cut (k ∷ ks) = by (is_skipped k) (text_cut ks)
    where
      headed : (o : Option Sizes)
          → with_problem size room k (ks ++ l ∷ ls) o ≡ with_problem l.start room k (up_to l ks) o
      headed none = refl
      headed (some z) =
          ap (λ m. cond (within_limits z) (cond (leb z.total room) m (refuses 4 k.start)) (refuses 3 k.start))
          (lines_cut size z ks begin l ls e)

      by : (t : Bool) → with_lines size room (from_problem (ks ++ l ∷ ls))
          ≡ with_lines l.start room (from_problem (up_to l ks))
          → with_lines size room (cond t (from_problem (ks ++ l ∷ ls)) (k ∷ (ks ++ l ∷ ls)))
          ≡ with_lines l.start room (cond t (from_problem (up_to l ks)) (k ∷ up_to l ks))
      by true ih = ih
      by false ih = headed (problem_in k)

-- Q01.2, Q01.3: where a percent line stands behind a byte 10, a text is read as its part before that line, which ends
-- where the percent sign stands: what stands behind is not looked at, a sheet that is accepted without the line is
-- accepted with it, and what is missing is missing at the percent sign
pub percent_cuts : (front tail : List ℕ) (room : ℕ) {l : Line} {ls : List Line} → length (front ++ 10 ∷ tail) ≤ max_text
    → lines (suc (length front)) tail ≡ l ∷ ls → is_percent_line l ≡ true
    → reading (front ++ 10 ∷ tail) room ≡ reading (front ++ 10 ∷ []) room
unfolding reading
percent_cuts front tail room {l} {ls} few first percent =
    within tail few
    ∙ ap (λ ks. with_lines (length (front ++ 10 ∷ tail)) room (from_problem (lines 0 front ++ ks))) first
    ∙ text_cut (length (front ++ 10 ∷ tail)) room l ls percent (lines 0 front)
    ∙ sym (within [] (omega (arith, size, length-append front (10 ∷ tail)))
    ∙ ap (λ j. with_lines j room (from_problem (lines 0 front ++ lines (suc (length front)) []))) size
    ∙ ap (λ j. with_lines j room (from_problem (lines 0 front ++ piece j [] ∷ []))) (sym start))
  where
    -- the reading of a text that is not too long, by the lines before a byte 10 and those behind it
    within : (bytes : List ℕ) → length (front ++ 10 ∷ bytes) ≤ max_text → reading (front ++ 10 ∷ bytes) room
        ≡ with_lines (length (front ++ 10 ∷ bytes)) room
        (from_problem (lines 0 front ++ lines (suc (length front)) bytes))
    within bytes le =
        text_lines (front ++ 10 ∷ bytes) room le
        ∙ ap (λ ks. with_lines (length (front ++ 10 ∷ bytes)) room (from_problem ks)) (lines-append 0 front bytes
        ∙ ap (λ k. lines 0 front ++ lines (suc k) bytes) (zero-add (length front)))

    size : length (front ++ 10 ∷ []) ≡ suc (length front)
    size = omega (arith, length-append front (10 ∷ []))

    start : l.start ≡ suc (length front)
    start = let i = lines-some (suc (length front)) tail in cc

-- a percent line in bytes
percent_bytes : (at : ℕ) (blanks rest : List ℕ) → all_blank blanks ≡ true
    → lines at (percent_sign ++ blanks ++ 10 ∷ rest)
    ≡ piece at (percent_sign ++ blanks) ∷ lines (suc (at + length (percent_sign ++ blanks))) rest
unfolding all ends_line
percent_bytes at blanks rest e =
    lines-append at (percent_sign ++ blanks) rest
    ∙ ap (λ ks. ks ++ lines (suc (at + length (percent_sign ++ blanks))) rest)
    (lines_last at (percent_sign ++ blanks) (blank_clean blanks e))

is_percent : (at : ℕ) (blanks : List ℕ) → all_blank blanks ≡ true
    → is_percent_line (piece at (percent_sign ++ blanks)) ≡ true
unfolding is_percent_line
is_percent at blanks e = e

-- a text, a percent line, and bytes behind it
abbrev pub ended_by_percent : List ℕ → List ℕ → List ℕ → List ℕ
ended_by_percent front blanks rest = front ++ 10 ∷ (percent_sign ++ blanks ++ 10 ∷ rest)

module _ (front blanks : List ℕ) (room : ℕ) (blank : all_blank blanks ≡ true) where
  cut : (rest : List ℕ) → length (ended_by_percent front blanks rest) ≤ max_text
      → reading (ended_by_percent front blanks rest) room ≡ reading (front ++ 10 ∷ []) room
  cut rest few = percent_cuts front (percent_sign ++ blanks ++ 10 ∷ rest) room few
      (percent_bytes (suc (length front)) blanks rest blank) (is_percent (suc (length front)) blanks blank)

  -- Q01.1: "whose files close with a line holding only `%`, then a 0": a sheet that is accepted says the same with such
  -- an ending
  pub ending_accepted : (rest : List ℕ) (d : Input) → length (ended_by_percent front blanks rest) ≤ max_text
      → Accepts (front ++ 10 ∷ []) room d → Accepts (ended_by_percent front blanks rest) room d
  ending_accepted rest d few a = reading_accepts (ended_by_percent front blanks rest) room d
      (cut rest few ∙ accepts_reading (front ++ 10 ∷ []) room d a)

  -- Q01.2: "the bytes behind it are ignored": whatever they are, malformed lines too, the reader answers the same
  pub behind_ignored : (rest more : List ℕ) → length (ended_by_percent front blanks rest) ≤ max_text
      → length (ended_by_percent front blanks more) ≤ max_text
      → reading (ended_by_percent front blanks rest) room ≡ reading (ended_by_percent front blanks more) room
  behind_ignored rest more few few₁ = cut rest few ∙ sym (cut more few₁)

-- ---- what is no percent line

-- `%x`: a byte behind the percent sign that is no blank
pub byte_behind : (at : ℕ) (bytes : List ℕ) {b : ℕ} → b ∈ bytes → is_blank b ≡ false
    → is_percent_line (piece at (percent_sign ++ bytes)) ≡ false
unfolding is_percent_line
byte_behind at bytes m e = not-all is_blank m e

-- ` %`: another first byte
pub byte_before : (at b : ℕ) (bytes : List ℕ) → (b ≡ 37 → ⊥) → is_percent_line (piece at (b ∷ bytes)) ≡ false
unfolding is_percent_line
byte_before at b bytes ne = rw (ne_eqb 37 b (λ e. ne (sym e)))

-- a word that begins with a percent sign: 5, or 7 once C clauses are closed
word_refused : (z : Sizes) (c : Clauses) (at : ℕ) (v : List ℕ) (ws : List Word)
    → walk (word_step z) c (piece at (percent_sign ++ v) ∷ ws)
    ≡ refuses (cond (ltb (length c.closed) z.total) 5 7) at
unfolding walk word_step
word_refused z c at v ws =
    ap (λ t. and_then (cond (ltb (length c.closed) z.total) (token_step z.variables c at t) (refuses 7 at))
    (λ d. walk (word_step z) d ws)) (word_malformed 37 v refl refl)
    ∙ by (ltb (length c.closed) z.total)
  where
    by : (t : Bool) → and_then (cond t (token_step z.variables c at malformed) (refuses 7 at))
        (λ d. walk (word_step z) d ws) ≡ refuses (cond t 5 7) at
    by true = refl
    by false = refl

-- a line that is neither a comment nor a percent line, and whose first word is such a one, is refused there
pub percent_word : (size : ℕ) (z : Sizes) (s : Progress) (l : Line) (ls : List Line) (at : ℕ) (v : List ℕ)
    (ws : List Word)
    → is_percent_line l ≡ false → is_comment l ≡ false → words_of l ≡ piece at (percent_sign ++ v) ∷ ws
    → lines_say size z s (l ∷ ls) ≡ refuses (cond (ltb (length s.clauses.closed) z.total) 5 7) at
unfolding and_then
percent_word size z s l ls at v ws p c e =
    says_line size z s l ls p
    ∙ ap (λ m. and_then m (λ t. lines_say size z t ls)) (line_of_kind z s l clause_line_lem (kind_clauses l c)
    ∙ ap (λ ks. and_then (walk (word_step z) s.clauses ks) (λ a. goes (with_part clause_line_lem s a))) e
    ∙ ap (λ m. and_then m (λ a. goes (with_part clause_line_lem s a))) (word_refused z s.clauses at v ws))
