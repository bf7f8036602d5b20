-- The reader accepts just the accepted texts, and yields what they say; what it yields after a refusal; what an
-- accepted text is sure to hold. Assumes nothing.
use Rattle.std.specs.Prelude.{Bool, ◌&&◌, ◌||◌, ℕ, ◌≤◌, ◌<◌, drop}
use Rattle.std.proofs.Math.Bool.{true, false, cond}
use mathlib.Core.List.Memᴰ
use mathlib.Core.List.{List, [], ◌∷◌, ◌++◌, nil≢cons}
use Rattle.std.proofs.Common.{inl, inr, sym, ap₂, ◌∙◌}
use Rattle.std.proofs.Math.Logic.{⊎_elim}
use Rattle.std.proofs.Math.Option.{Option, some, none}
use Rattle.std.proofs.Math.Path.{◌≡◌, refl, ap, subst}
use native.Mathlib.Omega.{arith}
use Rattle.std.proofs.Math.Dec.{eqb, leb}
use Rattle.std.proofs.Math.ListN.{length}
use borrow.Author.Tests.{eqb-true, eq-eqb, leb-true, le-leb, lt-leb}
use Rattle.math.specs.Laws.ListLaws.{here, and_split, and_join, or_split, or_left, or_right, all-at, all_of}
use Rattle.math.specs.Lists.{◌∈◌, select}
use Rattle.points.specs.Points.{empty_clause}
use Rattle.point_slices.specs.Slices.{ClauseSlices, clause_room}
use Rattle.formula.specs.Limits.{max_variables, max_clauses}
use Rattle.formula.specs.Problem.{empty_formula}
use Rattle.formula.specs.Reply.{parsed, refused}
use Rattle.dimacs_format.specs.Text.{max_text, is_blank, is_digit, Line, lines, words_of, spelled, same_bytes, begins}
use Rattle.dimacs_format.specs.Text.{is_comment, all_blank, problem_word, format_word, is_target_line}
use Rattle.dimacs_format.specs.Text.{is_permutation_line, is_percent_line, number_in, decimal, unsigned, token_in}
use Rattle.dimacs_format.specs.Text.{malformed}
use Rattle.dimacs_format.specs.Input.{Input, formula_of}
use Rattle.dimacs_format.specs.Reader.{Step, and_then, walk, Sizes, sizes_in, problem_words, problem_in, within_limits}
use Rattle.dimacs_format.specs.Reader.{Kind, Progress, begin, part_of, part_step, line_step, lines_say, is_skipped}
use Rattle.dimacs_format.specs.Reader.{from_problem, input_of, at_end, text_says, with_room, with_problem, with_lines}
use Rattle.dimacs_format.specs.Reader.{reading, reply_to, formula_from, stored_in, slices_from, read_reply, read_formula}
use Rattle.dimacs_format.specs.Reader.{read_clauses, goes, refuses, clause_line_lem, target_line_lem, permutation_line_lem}
use Rattle.dimacs_format.specs.Accepted.{ProblemLine, Permuted, words_among, Skipped, Ignored, Accepts}
use Rattle.dimacs_format.specs.Accepted.{at_text_end, at_percent_line}
use Rattle.dimacs_format.specs.Laws.TextLaws.{begins_split, same_bytes_lem}
use Rattle.dimacs_format.specs.Laws.StepLaws.{same_some, not_some, some-cond, goes_same, never, both_go}
use Rattle.dimacs_format.specs.Laws.StepLaws.{walk_step}
use Rattle.dimacs_format.specs.Laws.ClauseLaws.{walk_grouped, grouped_walk}
use Rattle.dimacs_format.specs.Laws.LineLaws.{is_kind, walk-parts, parts-walk, clause-words}
use Rattle.dimacs_format.specs.Laws.CommentLaws.{walk_targeted, targeted_walk, walk_permuted, permuted_walk}

-- ---- the problem line

sizes_of_lem : (v c : Option ℕ) (z : Sizes) → sizes_in v c ≡ some z → (v ≡ some z.variables) × (c ≡ some z.total)
unfolding sizes_in
sizes_of_lem none c z e = absurd (not_some e)
sizes_of_lem (some v) none z e = absurd (not_some e)
sizes_of_lem (some v) (some c) z e = (
  ap (λ (k : Sizes). some k.variables) (same_some e),
  ap
      (λ (k : Sizes). some k.total) (same_some e),
)

pub problem_of_lem : (l : Line) (z : Sizes) → problem_in l ≡ some z → ProblemLine l z.variables z.total
unfolding problem_in
problem_of_lem l z e =
    let c = some-cond (begins problem_word l.bytes) e in
    by (spelled (words_of l)) refl c.1 (begins_split problem_word l.bytes c.0)
  where
    by : (ws : List (List ℕ)) → spelled (words_of l) ≡ ws → problem_words ws ≡ some z
        → l.bytes ≡ problem_word ++ drop 1 l.bytes
        → ProblemLine l z.variables z.total
    by [] f e b = absurd (not_some e)
    by (p ∷ []) f e b = absurd (not_some e)
    by (p ∷ q ∷ []) f e b = absurd (not_some e)
    by (p ∷ q ∷ v ∷ []) f e b = absurd (not_some e)
    by (p ∷ q ∷ v ∷ c ∷ []) f e b =
        let w = some-cond (same_bytes p problem_word && same_bytes q format_word) e in
        let s = and_split (same_bytes p problem_word) (same_bytes q format_word) w.0 in
        let k = sizes_of_lem (number_in v) (number_in c) z w.1 in
        record {
          rest = drop 1 l.bytes;
          first = b;
          third = v;
          fourth = c;
          four = f ∙ ap₂ (λ x y. x ∷ y ∷ v ∷ c ∷ []) (same_bytes_lem p problem_word s.0) (same_bytes_lem q format_word s.1);
          variables = k.0;
          total = k.1;
        }
    by (p ∷ q ∷ v ∷ c ∷ w ∷ ws) f e b = absurd (not_some e)

pub problem_in_lem : (l : Line) (n c : ℕ) → ProblemLine l n c → problem_in l ≡ some (record { variables = n; total = c })
unfolding problem_in
problem_in_lem l n c p =
    ap (λ t. cond t (problem_words (spelled (words_of l))) none) (ap (begins problem_word) p.first)
    ∙ ap problem_words p.four
    ∙ ap₂ sizes_in p.variables p.total

-- a problem line is no comment and not all blanks
problem_shown : (l : Line) (n c : ℕ) → ProblemLine l n c → is_skipped l ≡ false
unfolding is_skipped
problem_shown l n c p = ap (λ bs. begins (99 ∷ []) bs || all_blank bs) p.first

-- ---- the lines before it

skipped_of : (l : Line) → is_skipped l ≡ true → Skipped l
unfolding is_skipped
skipped_of l e = ⊎_elim inl (λ h. inr (λ b m. all-at is_blank h m)) (or_split (is_comment l) (all_blank l.bytes) e)

skipped_is : (l : Line) → Skipped l → is_skipped l ≡ true
unfolding is_skipped
skipped_is l (inl e) = or_left (is_comment l) (all_blank l.bytes) e
skipped_is l (inr h) = or_right (is_comment l) (all_blank l.bytes) (all_of is_blank l.bytes h)

from_split : (ls : List Line) (l : Line) (after : List Line) → from_problem ls ≡ l ∷ after
    → (before : List Line) × (ls ≡ before ++ l ∷ after) × ((k : Line) → k ∈ before → Skipped k)
unfolding from_problem
from_split [] l after e = absurd (nil≢cons e)
from_split (k ∷ ls) l after e = by (is_skipped k) refl e (from_split ls l after)
  where
    by : (t : Bool) → is_skipped k ≡ t → cond t (from_problem ls) (k ∷ ls) ≡ l ∷ after
        → (from_problem ls ≡ l ∷ after
        → (before : List Line) × (ls ≡ before ++ l ∷ after) × ((k : Line) → k ∈ before → Skipped k))
        → (before : List Line) × (k ∷ ls ≡ before ++ l ∷ after) × ((k : Line) → k ∈ before → Skipped k)
    by true s e ih =
        let i = ih e in (
          k ∷ i.0,
          ap (λ r. k ∷ r) i.1,
          λ j m. ⊎_elim (λ p. subst Skipped (sym p) (skipped_of k s)) (λ m. i.2 j m)
              (Memᴰ.cases_cons m),
        )
    by false s e ih = ([], e, λ j m. absurd (Memᴰ.not-nil m))

from_of : (before : List Line) (l : Line) (after : List Line) → ((k : Line) → k ∈ before → Skipped k)
    → is_skipped l ≡ false
    → from_problem (before ++ l ∷ after) ≡ l ∷ after
unfolding from_problem
from_of [] l after h e = ap (λ t. cond t (from_problem after) (l ∷ after)) e
from_of (k ∷ before) l after h e =
    ap (λ t. cond t (from_problem (before ++ l ∷ after)) (k ∷ before ++ l ∷ after)) (skipped_is k (h k (here k before)))
    ∙ from_of before l after (λ j m. h j (Memᴰ.tail m)) e

-- a word whose first byte is neither a minus nor a digit is malformed
pub word_malformed : (b : ℕ) (w : List ℕ) → eqb b 45 ≡ false → is_digit b ≡ false → token_in (b ∷ w) ≡ malformed
unfolding token_in
word_malformed b w e f = rw (e, f) (by (leb 1 (length (b ∷ w)) && leb (length (b ∷ w)) 4))
  where
    by : (t : Bool) → unsigned (cond (t && false) (some (decimal 0 (b ∷ w))) none) ≡ malformed
    by true = refl
    by false = refl

-- S16: "A second `p` line is a malformed word.": as every word is that begins so
pub second_problem : (w : List ℕ) → token_in (problem_word ++ w) ≡ malformed
unfolding is_digit
second_problem w = word_malformed 112 w refl refl

-- ---- the lines behind the problem line, up to the end of the sheet

module _ (size : ℕ) (z : Sizes) where
  -- Q01.2: a percent line ends the sheet
  pub says_percent : (s : Progress) (l : Line) (ls : List Line) → is_percent_line l ≡ true
      → lines_say size z s (l ∷ ls) ≡ at_end l.start z s
  unfolding lines_say
  says_percent s l ls e =
      ap (λ p. cond p (at_end l.start z s) (and_then (line_step z s l) (λ t. lines_say size z t ls))) e

  -- of another line the step comes first
  pub says_line : (s : Progress) (l : Line) (ls : List Line) → is_percent_line l ≡ false
      → lines_say size z s (l ∷ ls) ≡ and_then (line_step z s l) (λ t. lines_say size z t ls)
  unfolding lines_say
  says_line s l ls e =
      ap (λ p. cond p (at_end l.start z s) (and_then (line_step z s l) (λ t. lines_say size z t ls))) e

  -- behind lines that are walked along, none of them a percent line
  pub says_walk : (sheet rest : List Line) (s q : Progress) → ((l : Line) → l ∈ sheet → is_percent_line l ≡ false)
      → walk (line_step z) s sheet ≡ goes q → lines_say size z s (sheet ++ rest) ≡ lines_say size z q rest
  unfolding walk and_then
  says_walk [] rest s q unended w = ap (λ t. lines_say size z t rest) (goes_same w)
  says_walk (l ∷ sheet) rest s q unended w =
      let v = both_go (line_step z s l) (λ t. walk (line_step z) t sheet) w in
      says_line s l (sheet ++ rest) (unended l (here l sheet))
      ∙ ap (λ m. and_then m (λ t. lines_say size z t (sheet ++ rest))) v.1
      ∙ says_walk sheet rest v.0 q (λ k m. unended k (Memᴰ.tail m)) v.2

-- lines lead to an input: the walk over those before the first percent line, or over all, came to its end, and C clauses
-- are closed
record Led (z : Sizes) (s : Progress) (ls : List Line) (d : Input) : Type 0 where
  sheet : List Line
  ignored : List Line
  split : ls ≡ sheet ++ ignored
  unended : (l : Line) → l ∈ sheet → is_percent_line l ≡ false
  ended : Ignored ignored
  last : Progress
  walked : walk (line_step z) s sheet ≡ goes last
  full : length last.clauses.closed ≡ z.total
  input : input_of z.variables last ≡ d

module _ (size : ℕ) (z : Sizes) where
  -- the end of the sheet leads to an input: C clauses are closed
  end_full : (place : ℕ) (s : Progress) (d : Input) → at_end place z s ≡ goes d
      → (length s.clauses.closed ≡ z.total) × (input_of z.variables s ≡ d)
  unfolding at_end
  end_full place s d e = by (eqb (length s.clauses.closed) z.total) refl e
    where
      by : (t : Bool) → eqb (length s.clauses.closed) z.total ≡ t
          → cond t (goes (input_of z.variables s)) (refuses 7 place) ≡ goes d
          → (length s.clauses.closed ≡ z.total) × (input_of z.variables s ≡ d)
      by true f e = (eqb-true (length s.clauses.closed) z.total f, goes_same e)
      by false f e = absurd (never e)

  full_end : (place : ℕ) (s : Progress) → length s.clauses.closed ≡ z.total
      → at_end place z s ≡ goes (input_of z.variables s)
  unfolding at_end
  full_end place s e = rw (eq-eqb (length s.clauses.closed) z.total e)

  says_led : (ls : List Line) (s : Progress) (d : Input) → lines_say size z s ls ≡ goes d → Led z s ls d
  unfolding lines_say walk
  says_led [] s d e =
      let f = end_full size s d e in
      record {
        sheet = [];
        ignored = [];
        split = refl;
        unended = λ l m. absurd (Memᴰ.not-nil m);
        ended = at_text_end;
        last = s;
        walked = refl;
        full = f.0;
        input = f.1;
      }
  says_led (l ∷ ls) s d e = by (is_percent_line l) refl e (λ t. says_led ls t d)
    where
      by : (p : Bool) → is_percent_line l ≡ p
          → cond p (at_end l.start z s) (and_then (line_step z s l) (λ t. lines_say size z t ls)) ≡ goes d
          → ((t : Progress) → lines_say size z t ls ≡ goes d → Led z t ls d) → Led z s (l ∷ ls) d
      by true f e ih =
          let g = end_full l.start s d e in
          record {
            sheet = [];
            ignored = l ∷ ls;
            split = refl;
            unended = λ l m. absurd (Memᴰ.not-nil m);
            ended = at_percent_line f;
            last = s;
            walked = refl;
            full = g.0;
            input = g.1;
          }
      by false f e ih =
          let v = both_go (line_step z s l) (λ t. lines_say size z t ls) e in
          let i = ih v.0 v.2 in
          record {
            sheet = l ∷ i.sheet;
            ignored = i.ignored;
            split = ap (λ r. l ∷ r) i.split;
            unended = λ k m. ⊎_elim (λ p. subst (λ j. is_percent_line j ≡ false) (sym p) f) (λ m. i.unended k m)
                (Memᴰ.cases_cons m);
            ended = i.ended;
            last = i.last;
            walked = walk_step (line_step z) s v.0 l i.sheet v.1 ∙ i.walked;
            full = i.full;
            input = i.input;
          }

  led_says : (sheet ignored : List Line) (s q : Progress) → ((l : Line) → l ∈ sheet → is_percent_line l ≡ false)
      → Ignored ignored → walk (line_step z) s sheet ≡ goes q → length q.clauses.closed ≡ z.total
      → lines_say size z s (sheet ++ ignored) ≡ goes (input_of z.variables q)
  unfolding lines_say
  led_says sheet ignored s q unended ended w full = says_walk size z sheet ignored s q unended w ∙ ends ignored ended
    where
      ends : (ls : List Line) → Ignored ls → lines_say size z q ls ≡ goes (input_of z.variables q)
      ends [] at_text_end = full_end size q full
      ends (l ∷ ls) (at_percent_line e) = says_percent size z q l ls e ∙ full_end l.start q full

-- ---- a text that passes refusals 1 to 4

module _ (text : List ℕ) (room : ℕ) where
  pub text_lines : length text ≤ max_text
      → reading text room ≡ with_lines (length text) room (from_problem (lines 0 text))
  unfolding reading
  text_lines short = ap (λ b. cond b (with_lines (length text) room (from_problem (lines 0 text))) (refuses 1 max_text))
      (le-leb (length text) max_text short)

  pub text_passes : length text ≤ max_text → {l : Line} {after : List Line} → from_problem (lines 0 text) ≡ l ∷ after
      → {z : Sizes} → problem_in l ≡ some z → within_limits z ≡ true → z.total ≤ room
      → reading text room ≡ text_says (length text) z after
  unfolding with_lines
  text_passes short {l} {after} from {z} is limits enough =
      text_lines short
      ∙ ap (with_lines (length text) room) from
      ∙ ap (with_problem (length text) room l after) is
      ∙ ap (λ b. cond b (with_room (length text) room l after z) (refuses 3 l.start)) limits
      ∙ ap (λ b. cond b (text_says (length text) z after) (refuses 4 l.start)) (le-leb z.total room enough)

-- ---- what the reader takes is accepted

module _ (text : List ℕ) (room : ℕ) where
  -- behind a problem line with sizes z lines lead to an input
  accepts_with : (l : Line) (after : List Line) (z : Sizes) (d : Input) → length text ≤ max_text
      → from_problem (lines 0 text) ≡ l ∷ after
      → problem_in l ≡ some z → within_limits z ≡ true → leb z.total room ≡ true → Led z begin after d
      → Accepts text room d
  unfolding within_limits
  accepts_with l after z d size from is limits enough led =
      let f = from_split (lines 0 text) l after from in
      let s = led.last in
      let a = walk-parts z led.sheet begin s led.walked in
      let t = and_split (leb 1 z.variables && leb z.variables max_variables) (leb z.total max_clauses) limits in
      let v = and_split (leb 1 z.variables) (leb z.variables max_variables) t.0 in
      let e = walk_permuted z.variables (select is_permutation_line led.sheet) [] (omega arith)
      (a permutation_line_lem) in
      subst (Accepts text room) led.input (record {
        size = size;
        before = f.0;
        problem = l;
        after = led.sheet;
        ignored = led.ignored;
        place = f.1 ∙ ap (λ ls. f.0 ++ l ∷ ls) led.split;
        skipped = f.2;
        sizes = subst (ProblemLine l z.variables) (sym led.full) (problem_of_lem l z is);
        unended = led.unended;
        ended = led.ended;
        some-variable = leb-true 1 z.variables v.0;
        few_variables = leb-true z.variables max_variables v.1;
        few_clauses_lem = subst (λ k. k ≤ max_clauses) (sym led.full) (leb-true z.total max_clauses t.1);
        enough_room = subst (λ k. k ≤ room) (sym led.full) (leb-true z.total room enough);
        grouped = walk_grouped z (words_among led.sheet) s.clauses
            (sym (clause-words z begin.clauses led.sheet) ∙ a clause_line_lem) led.full;
        targeted = walk_targeted z.variables (select is_target_line led.sheet) (a target_line_lem);
        permuted = subst (Permuted z.variables (select is_permutation_line led.sheet)) (sym e.2) e.1;
        few_permutations_lem = e.3;
      })

  -- D2.1: a text that the reader takes is an accepted one, and says what the reader found
  pub reading_accepts : (d : Input) → reading text room ≡ goes d → Accepts text room d
  unfolding reading
  reading_accepts d e = whole (leb (length text) max_text) refl (from_problem (lines 0 text)) refl e
    where
      sized : (l : Line) (after : List Line) (z : Sizes) → length text ≤ max_text
          → from_problem (lines 0 text) ≡ l ∷ after → problem_in l ≡ some z
          → (t : Bool) → within_limits z ≡ t → (u : Bool) → leb z.total room ≡ u
          → cond t (cond u (text_says (length text) z after) (refuses 4 l.start)) (refuses 3 l.start) ≡ goes d
          → Accepts text room d
      sized l after z size from is false f u g e = absurd (never e)
      sized l after z size from is true f false g e = absurd (never e)
      sized l after z size from is true f true g e =
          accepts_with l after z d size from is f g (says_led (length text) z after begin d e)

      headed : (l : Line) (after : List Line) → length text ≤ max_text → from_problem (lines 0 text) ≡ l ∷ after
          → (o : Option Sizes) → problem_in l ≡ o
          → with_problem (length text) room l after o ≡ goes d → Accepts text room d
      headed l after size from none is e = absurd (never e)
      headed l after size from (some z) is e = sized l after z size from is (within_limits z) refl (leb z.total room)
          refl e

      whole : (t : Bool) → leb (length text) max_text ≡ t → (ls : List Line) → from_problem (lines 0 text) ≡ ls
          → cond t (with_lines (length text) room ls) (refuses 1 max_text) ≡ goes d → Accepts text room d
      whole false f ls from e = absurd (never e)
      whole true f [] from e = absurd (never e)
      whole true f (l ∷ after) from e = headed l after (leb-true (length text) max_text f) from (problem_in l) refl e

  -- ---- what is accepted the reader takes

  -- D2.1: and an accepted text is taken, with what it says
  pub accepts_reading : (d : Input) → Accepts text room d → reading text room ≡ goes d
  unfolding reading
  accepts_reading d a =
      let z : Sizes = record { variables = d.variables; total = length d.clauses } in
      let t = targeted_walk d.variables a.targeted in
      let s : Progress = record {
        clauses = record { closed = d.clauses; begun = empty_clause };
        target = t.0;
        permutations = d.permutations;
      } in
      let from : from_problem (lines 0 text) ≡ a.problem ∷ (a.after ++ a.ignored) =
      ap from_problem a.place ∙ from_of a.before a.problem (a.after ++ a.ignored) a.skipped
      (problem_shown a.problem d.variables (length d.clauses) a.sizes) in
      let limits : within_limits z ≡ true =
      and_join (leb 1 d.variables && leb d.variables max_variables) (leb (length d.clauses) max_clauses)
      (and_join (leb 1 d.variables) (leb d.variables max_variables) (le-leb 1 d.variables a.some-variable)
      (le-leb d.variables max_variables a.few_variables))
      (le-leb (length d.clauses) max_clauses a.few_clauses_lem) in
      let parts : (k : Kind) → walk (part_step z k) (part_of k begin) (select (is_kind k) a.after) ≡ goes (part_of k s) =
      each z s (clause-words z begin.clauses a.after
      ∙ grouped_walk z (words_among a.after) d.clauses a.grouped refl) t.1
      (permuted_walk d.variables a.permuted [] (omega (arith, a.few_permutations_lem))) in
      text_passes text room a.size from (problem_in_lem a.problem d.variables (length d.clauses) a.sizes)
      limits a.enough_room
      ∙ led_says (length text) z a.after a.ignored begin s a.unended a.ended
      (parts-walk z a.after begin s parts) refl
      ∙ ap (λ x. goes (record {
        variables = d.variables;
        clauses = d.clauses;
        target = x;
        permutations = d.permutations;
      })) t.2
    where
      each : (z : Sizes) (s : Progress)
          → walk (part_step z clause_line_lem) begin.clauses (select (is_kind clause_line_lem) a.after) ≡ goes s.clauses
          → walk (part_step z target_line_lem) none (select is_target_line a.after) ≡ goes s.target
          → walk (part_step z permutation_line_lem) [] (select is_permutation_line a.after) ≡ goes s.permutations
          → (k : Kind) → walk (part_step z k) (part_of k begin) (select (is_kind k) a.after) ≡ goes (part_of k s)
      each z s c t p clause_line_lem = c
      each z s c t p target_line_lem = t
      each z s c t p permutation_line_lem = p

-- R1: "text too long | 1 | 1,048,576"
pub too_long : (text : List ℕ) (room : ℕ) → max_text < length text → reading text room ≡ refuses 1 max_text
unfolding reading
too_long text room lt = ap (λ b. cond b (with_lines (length text) room (from_problem (lines 0 text))) (refuses 1 max_text))
    (lt-leb (length text) max_text lt)

-- a text says one thing
pub accepts_once : (text : List ℕ) (room : ℕ) (d e : Input) → Accepts text room d → Accepts text room e → d ≡ e
accepts_once text room d e a b = goes_same (sym (accepts_reading text room d a) ∙ accepts_reading text room e b)

-- ---- what the reader yields

-- the reader's answer and the slices at exit are those of d
pub record Yields (text : List ℕ) (clauses₀ : ClauseSlices) (d : Input) : Type 0 where
  pub reply : read_reply text clauses₀ ≡ parsed
  pub formula : read_formula text clauses₀ ≡ formula_of d
  -- S23: "Rules go to two lent slices, places past C unchanged."
  pub clauses : read_clauses text clauses₀ ≡ stored_in clauses₀ d.clauses

module _ (text : List ℕ) (clauses₀ : ClauseSlices) where
  goes_yields : (d : Input) → reading text (clause_room clauses₀) ≡ goes d → Yields text clauses₀ d
  unfolding read_reply read_formula read_clauses
  goes_yields d e =
      record { reply = ap reply_to e; formula = ap formula_from e; clauses = ap (λ r. slices_from r clauses₀) e }

  -- D2.1: an accepted text is read, and yields what it says
  pub accepts_yields : (d : Input) → Accepts text (clause_room clauses₀) d → Yields text clauses₀ d
  accepts_yields d a = goes_yields d (accepts_reading text (clause_room clauses₀) d a)

  -- D2.1: a text that is read is an accepted one
  pub parsed_accepts : read_reply text clauses₀ ≡ parsed
      → (d : Input) × Accepts text (clause_room clauses₀) d × Yields text clauses₀ d
  unfolding read_reply
  parsed_accepts e = by (reading text (clause_room clauses₀)) refl e
    where
      by : (r : Step Input) → reading text (clause_room clauses₀) ≡ r → reply_to r ≡ parsed
          → (d : Input) × Accepts text (clause_room clauses₀) d × Yields text clauses₀ d
      by (goes d) f e = (d, reading_accepts text (clause_room clauses₀) d f, goes_yields d f)
      by (refuses code place) f e = absurd (let z : ◌≡◌ {A = ℕ} 0 1 = cc in let n : ⊥ = omega arith in n)

  -- N1: "Every row leaves all lent slices unchanged"; N2: "a refusal carries one that is 0 throughout"
  pub refused_leaves : (code place : ℕ) → read_reply text clauses₀ ≡ refused code place
      → (read_formula text clauses₀ ≡ empty_formula) × (read_clauses text clauses₀ ≡ clauses₀)
  unfolding read_reply read_formula read_clauses
  refused_leaves code place e = by (reading text (clause_room clauses₀)) e
    where
      by : (r : Step Input) → reply_to r ≡ refused code place
          → (formula_from r ≡ empty_formula) × (slices_from r clauses₀ ≡ clauses₀)
      by (goes d) e = absurd (let z : ◌≡◌ {A = ℕ} 0 1 = cc in let n : ⊥ = omega arith in n)
      by (refuses c p) e = (refl, refl)
