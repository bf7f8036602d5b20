-- Laws of reading clause words into numbers and slices: what one number does, and what a word does to the walk. Assumes
-- nothing.
use Rattle.std.specs.Prelude.{Bool, Option, Some, None, Result, Ok, Err, ◌||◌, List, [], ◌∷◌, ◌++◌, length, get_or, take, drop, set}
use Rattle.std.proofs.Math.Bool.{true, false, not}
use Rattle.std.proofs.Common.{true≢false, ap₂, ◌∙◌, zero-add, not-suc-le-zero, le_of_suc-le-suc, le_trans, add-one, length-set, get_or-take, take-suc-set}
use Rattle.std.proofs.Math.Path.{◌≡◌, refl, sym, ap, subst}
use Prim.Native.Nat.{ℕ, zero, suc, ◌+◌, ◌-◌, ◌^◌, ◌≤◌, ◌<◌, min}
use Rattle.std.proofs.Math.Decide.{dec_lt}
use native.Mathlib.Omega.{arith}
use Rattle.std.specs.Int.Bits.{bit_or}
use Rattle.std.proofs.Math.Seq.{length-take-le}
use borrow.Author.Tests.{le-leb, lt-leb, lt-ltb, le-ltb}
use Rattle.point_slices.specs.Laws.SliceLaws.{length-clauses}
use Rattle.point_slices.specs.Slices.{ClauseSlices, beside, clauses_of, clause_room}
use Rattle.formula.specs.declared.reasons.Refusal.{Refusal}
use Rattle.formula.specs.declared.reasons.Reason.TheVariants.{Literal, ClauseCount, Word as BadWord}
use Rattle.dimacs_clauses.specs.declared.Begun.{Begun}
use Rattle.dimacs_clauses.specs.declared.Stepped.{Stepped}
use Rattle.dimacs_words.specs.declared.Class.TheVariants.{Line}
use Rattle.dimacs_words.specs.declared.Word.{Word}
use Rattle.dimacs_format.specs.Text.{is_blank, ends_line, piece, words, Token, malformed}
use Rattle.dimacs_format.specs.Reader.{goes, refuses, and_then, walk, Sizes, Clauses, token_step, word_step}
use Rattle.dimacs_format.specs.Laws.AnswerLaws.{step_then, refusal_step, then_next}
use Rattle.dimacs_words.specs.Laws.Scans.{belongs, ends_word, Stretch, signed, Spelt, WordAt, WordRead}
use Rattle.dimacs_words.specs.Laws.ScanLaws.{run-begins, run_exists, run_later, run-rest, cut, word_in_line, word_skip}
use Rattle.dimacs_words.specs.Laws.ScanLaws.{words_end}
use Rattle.dimacs_clauses.specs.Laws.ClauseScans.{clauses_from, none_begun, Taking, Ready}
use Rattle.dimacs_clauses.specs.Laws.ClauseScans.{words_from}
use Rattle.dimacs_clauses.specs.Laws.ClauseScans.{Stepping}
use Rattle.dimacs_clauses.specs.Laws.ClauseScans.{Scanning, Along}

-- ---- one number

-- slices that are ready behind some clauses are ready behind none
none_ready : {z : Sizes} {k : ℕ} {clauses : ClauseSlices} → Ready z k clauses → Ready z 0 clauses
none_ready ready =
    record { variables = ready.variables; few = ready.few; room = ready.room; closed = omega arith }

-- a store in each slice is a store in the clauses
beside-set : (ps ns : List ℕ) (k x y : ℕ) → k < length ps → k < length ns
    → beside (set ps k x) (set ns k y) ≡ set (beside ps ns) k (record { positive = x; negative = y })
unfolding beside
beside-set [] ns k x y hp hn = absurd (not-suc-le-zero hp)
beside-set (p ∷ ps) [] k x y hp hn = absurd (not-suc-le-zero hn)
beside-set (p ∷ ps) (n ∷ ns) zero x y hp hn = refl
beside-set (p ∷ ps) (n ∷ ns) (suc k) x y hp hn =
    ap (λ l. record { positive = p; negative = n } ∷ l)
    (beside-set ps ns k x y (le_of_suc-le-suc hp) (le_of_suc-le-suc hn))

-- the clauses of one more place
clauses-more : (clauses clauses₁ : ClauseSlices) (k x y : ℕ) → k < clause_room clauses
    → clauses₁.positive ≡ set clauses.positive k x → clauses₁.negative ≡ set clauses.negative k y
    → take (k + 1) (clauses_of clauses₁) ≡ take k (clauses_of clauses) ++ record { positive = x; negative = y } ∷ []
clauses-more clauses clauses₁ k x y lt ep en =
    ap₂ (λ j l. take j l) (add-one k) (ap₂ beside ep en
    ∙ beside-set clauses.positive clauses.negative k x y (omega arith) (omega arith))
    ∙ take-suc-set (clauses_of clauses) k (record { positive = x; negative = y })
    (subst (λ j. k < j) (sym (length-clauses clauses.positive clauses.negative)) lt)

-- the room stays
room_kept : (clauses clauses₁ : ClauseSlices) (k x y : ℕ) → clauses₁.positive ≡ set clauses.positive k x
    → clauses₁.negative ≡ set clauses.negative k y
    → clause_room clauses₁ ≡ clause_room clauses
room_kept clauses clauses₁ k x y ep en =
    ap₂ min (ap length ep ∙ length-set clauses.positive k x) (ap length en ∙ length-set clauses.negative k y)

module _ {n place : ℕ} {clauses : ClauseSlices} {b : Begun} {negated : Bool} {value : ℕ} where
  -- a zero closes the clause: it goes to its place, and none is begun
  pub number_closes : {more : Begun} {clauses₁ : ClauseSlices} → value ≡ 0 → b.closed < clause_room clauses
      → more ≡ none_begun (b.closed + 1)
      → clauses₁.positive ≡ set clauses.positive b.closed b.positive
      → clauses₁.negative ≡ set clauses.negative b.closed b.negative
      → Taking n place clauses b negated value (Ok more) clauses₁
  unfolding token_step
  number_closes {clauses₁ = clauses₁} e lt f ep en =
      record {
        step =
            ap (λ (m : Begun). goes (clauses_from clauses₁ m)) f
            ∙ ap (λ l. goes (record { closed = l; begun = record { positive = 0; negative = 0 } }))
            (clauses-more clauses clauses₁ b.closed b.positive b.negative lt ep en)
            ∙ ap (λ v. token_step n (clauses_from clauses b) place (signed negated v)) (sym e);
        kept =
            λ z ready under.
            subst (λ (m : Begun). Ready z m.closed clauses₁) (sym f)
            (record {
              variables = ready.variables;
              few = ready.few;
              room = subst (λ j. z.total ≤ j)
                  (sym (room_kept clauses clauses₁ b.closed b.positive b.negative ep en)) ready.room;
              closed = omega arith;
            });
      }

  -- R6: "name above n | 6 | word's first byte"
  pub number_above : (value ≡ 0 → ⊥) → n < value
      → Taking n place clauses b negated value (Err (record { reason = Literal; place = place })) clauses
  unfolding token_step
  number_above ne lt = record { step = by negated value ne lt; kept = λ z ready under. none_ready ready }
    where
      by : (negated : Bool) (value : ℕ) → (value ≡ 0 → ⊥) → n < value
          → refuses 6 place ≡ token_step n (clauses_from clauses b) place (signed negated value)
      by negated zero ne lt = absurd (ne refl)
      by false (suc v) ne lt = rw (lt-leb (suc v) n lt)
      by true (suc v) ne lt = rw (lt-leb (suc v) n lt)

  pub number_positive : {s : ℕ} → negated ≡ false → (value ≡ 0 → ⊥) → value ≤ n
      → s ≡ bit_or b.positive (2 ^ (value - 1))
      → Taking n place clauses b negated value
      (Ok (record { closed = b.closed; positive = s; negative = b.negative })) clauses
  unfolding token_step
  number_positive {s = s} sign ne le e = record { step = by value ne le e; kept = λ z ready under. ready }
    where
      by : (value : ℕ) → (value ≡ 0 → ⊥) → value ≤ n → s ≡ bit_or b.positive (2 ^ (value - 1))
          → goes (clauses_from clauses (record { closed = b.closed; positive = s; negative = b.negative }))
          ≡ token_step n (clauses_from clauses b) place (signed negated value)
      by zero ne le e = absurd (ne refl)
      by (suc v) ne le e = rw (sign, le-leb (suc v) n le, e)

  pub number_negative : {s : ℕ} → negated ≡ true → (value ≡ 0 → ⊥) → value ≤ n
      → s ≡ bit_or b.negative (2 ^ (value - 1))
      → Taking n place clauses b negated value
      (Ok (record { closed = b.closed; positive = b.positive; negative = s })) clauses
  unfolding token_step
  number_negative {s = s} sign ne le e = record { step = by value ne le e; kept = λ z ready under. ready }
    where
      by : (value : ℕ) → (value ≡ 0 → ⊥) → value ≤ n → s ≡ bit_or b.negative (2 ^ (value - 1))
          → goes (clauses_from clauses (record { closed = b.closed; positive = b.positive; negative = s }))
          ≡ token_step n (clauses_from clauses b) place (signed negated value)
      by zero ne le e = absurd (ne refl)
      by (suc v) ne le e = rw (sign, le-leb (suc v) n le, e)

-- ---- one word

-- as many clauses are closed as the number says
pub closed_length : (clauses : ClauseSlices) (b : Begun) → b.closed ≤ clause_room clauses
    → length (clauses_from clauses b).closed ≡ b.closed
closed_length clauses b le = length-take-le b.closed (clauses_of clauses)
    (subst (λ j. b.closed ≤ j) (sym (length-clauses clauses.positive clauses.negative)) le)

module _ (z : Sizes) (s : Clauses) (line : List ℕ) (at next : ℕ) (t : Token) (w : WordAt line at next t) where
  -- the walk takes the word's step first
  word_first : words_from z line at s
      ≡ and_then (word_step z s (piece (0 + at) (take (next - at) (drop at line)))) (words_from z line next)
  unfolding walk
  word_first = ap (walk (word_step z) s) (w.parts 0)

  -- R7: behind C closed clauses any word is refused
  word_over : z.total ≤ length s.closed → words_from z line at s ≡ refuses 7 at
  unfolding word_step and_then
  word_over h = word_first ∙ rw (le-ltb (length s.closed) z.total h) (ap (refuses 7) (zero-add at))

  -- before that the word's token takes its step
  word_token : length s.closed < z.total
      → words_from z line at s ≡ and_then (token_step z.variables s at t) (words_from z line next)
  unfolding word_step
  word_token h =
      word_first ∙ rw (lt-ltb (length s.closed) z.total h, w.token)
      (ap (λ j. and_then (token_step z.variables s j t) (words_from z line next)) (zero-add at))

-- ---- at a place of the text where the line does not end

-- the line goes on behind a byte that does not end it
on_behind : (text : List ℕ) {at stop : ℕ} → at < length text → ends_line (get_or text at 0) ≡ false
    → Stretch (belongs Line) text at stop → at < stop
unfolding belongs
on_behind text h n line = run_later line (ap not n) h

-- as many clauses are closed as the number says, where the slices are ready
closed_size : (z : Sizes) (clauses : ClauseSlices) (b : Begun) → Ready z b.closed clauses
    → length (clauses_from clauses b).closed ≡ b.closed
closed_size z clauses b ready = closed_length clauses b (le_trans ready.closed ready.room)

module _ {z : Sizes} {text : List ℕ} {at : ℕ} {clauses : ClauseSlices} {b : Begun} (ready : Ready z b.closed clauses)
    (h : at < length text) where
  -- a blank is skipped
  pub step_blank : ends_line (get_or text at 0) ≡ false → ends_word (get_or text at 0) ≡ true
      → Stepping z text at clauses b
      (Ok (record { begun = b; next = record { at = at + 1 } })) clauses
  unfolding and_then ends_word
  step_blank n e =
      record {
        later = omega arith;
        left =
            λ stop line.
            let lt = on_behind text h n line in
            let size = length-take-le stop text line.within in (
              omega arith,
              ap (walk (word_step z) (clauses_from clauses b))
                  (word_skip (take stop text) 0 at (omega arith)
                  (ap is_blank (get_or-take stop text at 0 lt)
                  ∙ first_of (is_blank (get_or text at 0)) (ends_line (get_or text at 0)) e n)),
            );
        ready = ready;
      }
    where
      first_of : (p q : Bool) → (p || q) ≡ true → q ≡ false → p ≡ true
      first_of true q e f = refl
      first_of false q e f = absurd (true≢false (sym e ∙ f))

  module _ (n : ends_line (get_or text at 0) ≡ false) (m : ends_word (get_or text at 0) ≡ false) where
    -- a refusal ends the walk
    stops : (r : Refusal)
        → ((stop : ℕ) → Stretch (belongs Line) text at stop
        → words_from z (take stop text) at (clauses_from clauses b) ≡ refusal_step r)
        → Stepping z text at clauses b (Err r) clauses
    stops r e = record { later = tt; left = λ stop line. (tt, e stop line); ready = none_ready ready }

    pub step_over : (w : Option Word) → WordRead text at w → z.total ≤ b.closed
        → Stepping z text at clauses b (Err (record { reason = ClauseCount; place = at })) clauses
    step_over w k over = stops (record { reason = ClauseCount; place = at }) (λ stop line. by w k stop line)
      where
        refusal : {next : ℕ} {t : Token} → Spelt text at next t → (stop : ℕ) → Stretch (belongs Line) text at stop
            → words_from z (take stop text) at (clauses_from clauses b) ≡ refuses 7 at
        refusal {next} {t} k stop line = word_over z (clauses_from clauses b) (take stop text) at next t
            (word_in_line line k h m) (omega (arith, closed_size z clauses b ready))

        by : (w : Option Word) → WordRead text at w → (stop : ℕ) → Stretch (belongs Line) text at stop
            → words_from z (take stop text) at (clauses_from clauses b) ≡ refuses 7 at
        by (Some w) k stop line = refusal k stop line
        by None (next, k) stop line = refusal k stop line

    pub step_malformed : WordRead text at None → b.closed < z.total
        → Stepping z text at clauses b (Err (record { reason = BadWord; place = at })) clauses
    unfolding token_step and_then
    step_malformed (next, k) under = stops (record { reason = BadWord; place = at })
        (λ stop line. word_token z (clauses_from clauses b) (take stop text) at next malformed (word_in_line line k h m)
        (omega (arith, closed_size z clauses b ready)))

    -- what the number leads to: on behind its word, or a refusal
    module _ (w : Word) {clauses₁ : ClauseSlices} (k : WordRead text at (Some w)) (under : b.closed < z.total) where
      -- the walk takes the number's step first
      taken : {r : Result Begun Refusal} → Taking z.variables at clauses b w.negated w.value r clauses₁ → (stop : ℕ)
          → Stretch (belongs Line) text at stop
          → words_from z (take stop text) at (clauses_from clauses b)
          ≡ step_then r (λ b₁. words_from z (take stop text) w.next.at (clauses_from clauses₁ b₁))
      unfolding and_then
      taken {r} taking stop line =
          word_token z (clauses_from clauses b) (take stop text) at w.next.at (signed w.negated w.value)
          (word_in_line line k h m) (omega (arith, closed_size z clauses b ready))
          ∙ ap (λ s. and_then s (words_from z (take stop text) w.next.at)) (sym taking.step)
          ∙ then_next r (λ b₁. goes (clauses_from clauses₁ b₁)) (words_from z (take stop text) w.next.at)

      pub step_taken : {b₁ : Begun} → Taking z.variables at clauses b w.negated w.value (Ok b₁) clauses₁
          → Stepping z text at clauses b (Ok (record { begun = b₁; next = w.next })) clauses₁
      step_taken {b₁} taking =
          record {
            later = run_later k.run (ap not m) h;
            left =
                λ stop line.
                let w = (word_in_line line k h m).within in
                (omega (arith, length-take-le stop text line.within), taken taking stop line);
            ready = taking.kept z ready under;
          }

      pub step_refused : {e : Refusal} → Taking z.variables at clauses b w.negated w.value (Err e) clauses₁
          → Stepping z text at clauses b (Err e) clauses₁
      step_refused taking =
          record { later = tt; left = λ stop line. (tt, taken taking stop line); ready = taking.kept z ready under }

-- ---- the loop over the words of a line

module _ {z : Sizes} {text : List ℕ} {start : ℕ} {clauses₀ : ClauseSlices} {b₀ : Begun} where
  pub along_begins : Ready z b₀.closed clauses₀ → start ≤ length text
      → Along z text start clauses₀ b₀ clauses₀ b₀ start
  along_begins ready h =
      let run = run_exists (belongs Line) text start start (omega arith) h (run-begins (belongs Line) text start) in
      record {
        ready = ready;
        stop = run.0;
        line = run.2;
        lower = omega arith;
        upper = run.1;
        left = ap₂ (λ j l. walk (word_step z) (clauses_from clauses₀ b₀) (words j l)) (sym (zero-add start))
            (sym (cut text start run.0 run.1));
      }

  module _ {clauses : ClauseSlices} {b : Begun} {at : ℕ} (a : Along z text start clauses₀ b₀ clauses b at) where
    done : at ≡ a.stop → Scanning z text start clauses₀ b₀
        (Ok (record { begun = b; next = record { at = at } })) clauses
    unfolding walk
    done e =
        record {
          stop = a.stop;
          line = a.line;
          ended = e;
          step = sym (a.left ∙ ap (walk (word_step z) (clauses_from clauses b))
              (words_end (take a.stop text) 0 at (e ∙ sym (length-take-le a.stop text a.line.within))));
          ready = a.ready;
        }

    -- the text ends there, or the line
    pub along_ends : length text ≤ at → Scanning z text start clauses₀ b₀
        (Ok (record { begun = b; next = record { at = at } })) clauses
    along_ends h = done (let u = a.upper in let w = a.line.within in omega arith)

    pub along_over : ends_line (get_or text at 0) ≡ true → Scanning z text start clauses₀ b₀
        (Ok (record { begun = b; next = record { at = at } })) clauses
    unfolding belongs
    along_over e = done (by (dec_lt at a.stop))
      where
        by : Dec (at < a.stop) → at ≡ a.stop
        by (yes lt) = absurd (true≢false (sym (a.line.passes at a.lower lt) ∙ ap not e))
        by (no ge) = let u = a.upper in omega arith

    -- the line from there on
    rest : Stretch (belongs Line) text at a.stop
    rest = run-rest a.lower a.upper a.line

    pub along_stops : {e : Refusal} {clauses₁ : ClauseSlices} → Stepping z text at clauses b (Err e) clauses₁
        → Scanning z text start clauses₀ b₀ (Err e) clauses₁
    along_stops k =
        record {
          stop = a.stop;
          line = a.line;
          ended = tt;
          step = sym (a.left ∙ (k.left a.stop rest).1);
          ready = k.ready;
        }

    pub along_goes_on : {s : Stepped} {clauses₁ : ClauseSlices} → Stepping z text at clauses b (Ok s) clauses₁
        → Along z text start clauses₀ b₀ clauses₁ s.begun s.next.at
    along_goes_on k =
        record {
          ready = k.ready;
          stop = a.stop;
          line = a.line;
          lower = let l = k.later in let o = a.lower in omega arith;
          upper = (k.left a.stop rest).0;
          left = a.left ∙ (k.left a.stop rest).1;
        }
