-- How the reader's answer depends on the room in the slices: with less room it refuses by 4 or answers as with more,
-- and with room for the most clauses it never refuses by 4. Assumes nothing.
use Rattle.std.specs.Prelude.{Bool, true, false, cond, ◌&&◌, ◌⊎◌, ◌≡◌, refl, ℕ, ◌≤◌, eqb, leb, ltb, length, drop}
use Rattle.std.proofs.Common.{true≢false, inl, inr, sym, ap, ◌∙◌, subst, le_trans, arith, length-append, leb-true, le-leb}
use mathlib.Core.List.{List, [], ◌∷◌}
use Rattle.std.proofs.Math.Option.{Option, some, none}
use Rattle.std.proofs.lemmas.List.{length-map}
use Rattle.math.specs.Laws.ListLaws.{and_split}
use Rattle.math.specs.Lists.{over}
use Rattle.points.specs.Points.{Clause}
use Rattle.point_slices.specs.Slices.{ClauseSlices, clause_room, first_clauses}
use Rattle.permutation_theory.specs.Permutations.{Permutation}
use Rattle.formula.specs.Limits.{max_variables, max_clauses, max_permutations}
use Rattle.formula.specs.Problem.{empty_formula}
use Rattle.formula.specs.Reply.{refused}
use Rattle.dimacs_format.specs.Text.{max_text, Line, Word, lines, words_of, variable, Token, token_in, literal}
use Rattle.dimacs_format.specs.Text.{close, malformed, target_head, permutation_head, behind, is_percent_line}
use Rattle.dimacs_format.specs.Input.{Input, formula_of, positives, negatives}
use Rattle.dimacs_format.specs.Reader.{Step, and_then, walk, Sizes, problem_in, within_limits, Clauses, token_step}
use Rattle.dimacs_format.specs.Reader.{word_step, target_in, target_kept, target_said, permutation_in, permutation_kept}
use Rattle.dimacs_format.specs.Reader.{permutation_said, Kind, kind_of, Progress, Part, part_of, with_part, part_step}
use Rattle.dimacs_format.specs.Reader.{handled, line_step, lines_say, begin, from_problem, at_end, text_says, with_room}
use Rattle.dimacs_format.specs.Reader.{with_problem, with_lines, reading, reply_to, formula_from, slices_from}
use Rattle.dimacs_format.specs.Reader.{read_reply, read_formula, read_clauses, goes, refuses, clause_line_lem}
use Rattle.dimacs_format.specs.Reader.{target_line_lem, permutation_line_lem, stored_in}
use Rattle.dimacs_format.specs.Laws.StepLaws.{never}
use Rattle.dimacs_format.specs.Laws.InputLaws.{front-positive, front-negative}

-- where clauses are stored there is room for them
pub stored_room : (clauses : ClauseSlices) (cs : List Clause) → length cs ≤ clause_room (stored_in clauses cs)
unfolding over
stored_room clauses cs = omega (
  arith,
  length-append (positives cs) (drop (length (positives cs)) clauses.positive),
  length-map cs (λ (c : Clause). c.positive),
  length-append (negatives cs) (drop (length (negatives cs)) clauses.negative),
  length-map cs (λ (c : Clause). c.negative),
)

-- ---- with less room

-- the reader refuses by 4, or answers as with more
pub less_room : (text : List ℕ) (room more : ℕ) → room ≤ more
    → (reading text room ≡ reading text more) ⊎ ((place : ℕ) × (reading text room ≡ refuses 4 place))
unfolding reading
less_room text room more le = whole (leb (length text) max_text) (from_problem (lines 0 text))
  where
    roomy : (size : ℕ) (l : Line) (after : List Line) (z : Sizes) (t u : Bool) → leb z.total room ≡ t
        → leb z.total more ≡ u
        → (cond t (text_says size z after) (refuses 4 l.start)
        ≡ cond u (text_says size z after) (refuses 4 l.start))
        ⊎ ((place : ℕ) × (cond t (text_says size z after) (refuses 4 l.start) ≡ refuses 4 place))
    roomy size l after z true true f g = inl refl
    roomy size l after z true false f g =
        absurd (true≢false (sym (le-leb z.total more (le_trans (leb-true z.total room f) le)) ∙ g))
    roomy size l after z false u f g = inr (l.start, refl)

    sized : (size : ℕ) (l : Line) (after : List Line) (z : Sizes) (t : Bool)
        → (cond t (with_room size room l after z) (refuses 3 l.start)
        ≡ cond t (with_room size more l after z) (refuses 3 l.start))
        ⊎ ((place : ℕ) × (cond t (with_room size room l after z) (refuses 3 l.start) ≡ refuses 4 place))
    sized size l after z true = roomy size l after z (leb z.total room) (leb z.total more) refl refl
    sized size l after z false = inl refl

    headed : (size : ℕ) (l : Line) (after : List Line) (o : Option Sizes)
        → (with_problem size room l after o ≡ with_problem size more l after o)
        ⊎ ((place : ℕ) × (with_problem size room l after o ≡ refuses 4 place))
    headed size l after none = inl refl
    headed size l after (some z) = sized size l after z (within_limits z)

    whole : (t : Bool) (ls : List Line)
        → (cond t (with_lines (length text) room ls) (refuses 1 max_text)
        ≡ cond t (with_lines (length text) more ls) (refuses 1 max_text))
        ⊎ ((place : ℕ) × (cond t (with_lines (length text) room ls) (refuses 1 max_text) ≡ refuses 4 place))
    whole false ls = inl refl
    whole true [] = inl refl
    whole true (l ∷ after) = headed (length text) l after (problem_in l)

-- what is read into two pairs of slices is the same: the answer, the formula, and the first C clauses
pub record ReadAlike (text : List ℕ) (clauses more : ClauseSlices) : Type 0 where
  pub reply : read_reply text clauses ≡ read_reply text more
  pub formula : read_formula text clauses ≡ read_formula text more
  pub first_clauses_lem : first_clauses (read_formula text clauses).clauses (read_clauses text clauses)
      ≡ first_clauses (read_formula text more).clauses (read_clauses text more)

-- where smaller slices are not refused by 4, larger ones read the same
pub reads_alike : (text : List ℕ) (clauses more : ClauseSlices) → clause_room clauses ≤ clause_room more
    → ((place : ℕ) → read_reply text clauses ≡ refused 4 place → ⊥) → ReadAlike text clauses more
unfolding read_reply read_formula read_clauses formula_of empty_formula
reads_alike text clauses more le not-4 = by (less_room text (clause_room clauses) (clause_room more) le)
  where
    front : (r : Step Input) → first_clauses (formula_from r).clauses (slices_from r clauses)
        ≡ first_clauses (formula_from r).clauses (slices_from r more)
    front (goes d) = λ i. record {
      positive = (front-positive clauses d.clauses ∙ sym (front-positive more d.clauses)) i;
      negative = (front-negative clauses d.clauses ∙ sym (front-negative more d.clauses)) i;
      positive_rest = [];
      negative_rest = [];
    }
    front (refuses code place) = refl

    by : (reading text (clause_room clauses) ≡ reading text (clause_room more))
        ⊎ ((place : ℕ) × (reading text (clause_room clauses) ≡ refuses 4 place)) → ReadAlike text clauses more
    by (inl e) =
        record {
          reply = ap reply_to e;
          formula = ap formula_from e;
          first_clauses_lem = front (reading text (clause_room clauses))
              ∙ ap (λ r. first_clauses (formula_from r).clauses (slices_from r more)) e;
        }
    by (inr (place, e)) = absurd (not-4 place (ap reply_to e))

-- ---- with room for the most clauses

-- a refusal behind the problem line has a number from 5 on
module _ {S : Type 0} where
  abbrev Late : Step S → Type 0
  Late m = (code place : ℕ) → m ≡ refuses code place → 5 ≤ code

  code_same : {c d p q : ℕ} → ◌≡◌ {A = Step S} (refuses c p) (refuses d q) → c ≡ d
  code_same e = cc

  late_goes : (s : S) → Late (goes s)
  late_goes s code place e = absurd (never (sym e))

  late_code : (c p : ℕ) → 5 ≤ c → Late (refuses c p)
  late_code c p le code place e = subst (λ k. 5 ≤ k) (code_same e) le

  late_cond : (t : Bool) {m k : Step S} → Late m → Late k → Late (cond t m k)
  late_cond true h i = h
  late_cond false h i = i

module _ {S T : Type 0} where
  late_then : (m : Step S) {k : S → Step T} → Late m → ((s : S) → Late (k s)) → Late (and_then m k)
  unfolding and_then
  late_then (goes s) h i = i s
  late_then (refuses c p) h i = late_code c p (h c p refl)

module _ {S X : Type 0} {f : S → X → Step S} (each : (s : S) (x : X) → Late (f s x)) where
  late_walk : (xs : List X) (s : S) → Late (walk f s xs)
  unfolding walk
  late_walk [] s = late_goes s
  late_walk (x ∷ xs) s = late_then (f s x) (each s x) (λ q. late_walk xs q)

late_token : (n : ℕ) (s : Clauses) (place : ℕ) (t : Token) → Late (token_step n s place t)
unfolding token_step
late_token n s place malformed = late_code 5 place (omega arith)
late_token n s place close = late_goes _
late_token n s place (literal l) = late_cond (leb (variable l) n) (late_goes _) (late_code 6 place (omega arith))

late_word : (z : Sizes) (s : Clauses) (w : Word) → Late (word_step z s w)
unfolding word_step
late_word z s w = late_cond (ltb (length s.closed) z.total)
    (late_token z.variables s w.start (token_in w.bytes)) (late_code 7 w.start (omega arith))

late_target : (n : ℕ) (t : Option ℕ) (place : ℕ) (bytes : List ℕ) → Late (target_said n t place bytes)
unfolding target_said
late_target n none place bytes = kept (target_in n bytes)
  where
    kept : (o : Option ℕ) → Late (target_kept place o)
    kept none = late_code 8 place (omega arith)
    kept (some x) = late_goes (some x)
late_target n (some x) place bytes = late_code 8 place (omega arith)

late_permutation : (n : ℕ) (es : List Permutation) (place : ℕ) (bytes : List ℕ)
    → Late (permutation_said n es place bytes)
unfolding permutation_said
late_permutation n es place bytes = late_cond (ltb (length es) max_permutations) (kept (permutation_in n bytes))
    (late_code 9 place (omega arith))
  where
    kept : (o : Option Permutation) → Late (permutation_kept es place o)
    kept none = late_code 9 place (omega arith)
    kept (some e) = late_goes _

late_part : (z : Sizes) (k : Kind) (a : Part k) (l : Line) → Late (part_step z k a l)
late_part z clause_line_lem c l = late_walk (late_word z) (words_of l) c
late_part z target_line_lem t l = late_target z.variables t l.start (behind target_head l)
late_part z permutation_line_lem es l = late_permutation z.variables es l.start (behind permutation_head l)

late_line : (z : Sizes) (s : Progress) (l : Line) → Late (line_step z s l)
unfolding line_step handled
late_line z s l = by (kind_of l)
  where
    by : (o : Option Kind) → Late (handled z s l o)
    by none = late_goes s
    by (some k) = late_then (part_step z k (part_of k s) l) (late_part z k (part_of k s) l)
        (λ a. late_goes (with_part k s a))

late_end : (place : ℕ) (z : Sizes) (s : Progress) → Late (at_end place z s)
unfolding at_end
late_end place z s = late_cond (eqb (length s.clauses.closed) z.total) (late_goes _)
    (late_code 7 place (omega arith))

late_lines : (size : ℕ) (z : Sizes) (ls : List Line) (s : Progress) → Late (lines_say size z s ls)
unfolding lines_say
late_lines size z [] s = late_end size z s
late_lines size z (l ∷ ls) s = late_cond (is_percent_line l) (late_end l.start z s)
    (late_then (line_step z s l) (late_line z s l) (λ t. late_lines size z ls t))

-- R4 does not occur where there is room for 4,096 clauses
pub room_enough : (text : List ℕ) (room : ℕ) → max_clauses ≤ room → (place : ℕ) → reading text room ≡ refuses 4 place → ⊥
unfolding reading
room_enough text room le place e = whole (leb (length text) max_text) (from_problem (lines 0 text)) e
  where
    other : {S : Type 0} {c p : ℕ} → (c ≡ 4 → ⊥) → ◌≡◌ {A = Step S} (refuses c p) (refuses 4 place) → ⊥
    other ne e = ne (code_same e)

    roomy : (size : ℕ) (l : Line) (after : List Line) (z : Sizes) → z.total ≤ max_clauses → (t : Bool)
        → leb z.total room ≡ t
        → cond t (text_says size z after) (refuses 4 l.start) ≡ refuses 4 place → ⊥
    roomy size l after z few true f e = let h = late_lines size z after begin 4 place e in let x : ⊥ = omega arith in x
    roomy size l after z few false f e = true≢false (sym (le-leb z.total room (le_trans few le)) ∙ f)

    sized : (size : ℕ) (l : Line) (after : List Line) (z : Sizes) (t : Bool) → within_limits z ≡ t
        → cond t (with_room size room l after z) (refuses 3 l.start) ≡ refuses 4 place → ⊥
    sized size l after z true f e = roomy size l after z
        (leb-true z.total max_clauses (and_split (leb 1 z.variables && leb z.variables max_variables)
        (leb z.total max_clauses) f).1) (leb z.total room) refl e
    sized size l after z false f e = other (λ g. let x : ⊥ = omega arith in x) e

    headed : (size : ℕ) (l : Line) (after : List Line) (o : Option Sizes)
        → with_problem size room l after o ≡ refuses 4 place → ⊥
    headed size l after none e = other (λ g. let x : ⊥ = omega arith in x) e
    headed size l after (some z) e = sized size l after z (within_limits z) refl e

    whole : (t : Bool) (ls : List Line) → cond t (with_lines (length text) room ls) (refuses 1 max_text) ≡ refuses 4 place
        → ⊥
    whole false ls e = other (λ g. let x : ⊥ = omega arith in x) e
    whole true [] e = other (λ g. let x : ⊥ = omega arith in x) e
    whole true (l ∷ after) e = headed (length text) l after (problem_in l) e
