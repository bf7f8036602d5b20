-- Laws of the lines behind the problem line: each is of one kind or a remark, and the walk over all of them is one walk
-- a kind (SideLaws). Assumes nothing.
use Rattle.std.specs.Prelude.{Bool, true, false, List, ◌≡◌, refl, ℕ, zero, suc, eqb}
use Rattle.std.proofs.Math.Bool.{not}
use Rattle.std.proofs.Common.{true≢false}
use mathlib.Core.List.Memᴰ
use Rattle.std.proofs.Math.Option.{some, none}
use Rattle.std.proofs.Math.Path.{ap}
use Rattle.math.specs.Laws.ListLaws.{here}
use Rattle.math.specs.Lists.{select}
use Rattle.dimacs_format.specs.Text.{Line, words_of, is_comment}
use Rattle.dimacs_format.specs.Text.{is_target_line, is_permutation_line}
use Rattle.dimacs_format.specs.Reader.{and_then, walk, Sizes, Clauses, word_step, Kind, kind_of, Progress, Part}
use Rattle.dimacs_format.specs.Reader.{part_of, with_part, part_step, handled, line_step, goes, clause_line_lem}
use Rattle.dimacs_format.specs.Reader.{target_line_lem, permutation_line_lem, headed_kinds}
use Rattle.dimacs_format.specs.Accepted.{words_among}
use Rattle.dimacs_format.specs.Laws.StepLaws.{walk_flat}
use Rattle.dimacs_format.specs.Laws.HeadLaws.{well_headed, kind_headed, clause_test, headed_test}
use Rattle.dimacs_format.specs.Laws.SideLaws.{Parted, is_of}
use Rattle.dimacs_format.specs.Laws.SideLaws.{walk-parts as walk-sides, parts-walk as sides-walk}

-- ---- the parts of what was said

-- the parts are told apart by numbers
rank : Kind → ℕ
rank clause_line_lem = 0
rank target_line_lem = 1
rank permutation_line_lem = 2

at_rank : ℕ → Kind
at_rank zero = clause_line_lem
at_rank (suc zero) = target_line_lem
at_rank (suc (suc k)) = permutation_line_lem

pub progress_parted : Parted Progress Kind Part
unfolding rank at_rank
progress_parted =
    record {
      rank = rank;
      at_rank = at_rank;
      ranked = ranked;
      get = part_of;
      put = with_part;
      own = own;
      other = other;
      whole = λ s t h i. record {
        clauses = h clause_line_lem i;
        target = h target_line_lem i;
        permutations = h permutation_line_lem i;
      };
    }
  where
    ranked : (k : Kind) → at_rank (rank k) ≡ k
    ranked clause_line_lem = refl
    ranked target_line_lem = refl
    ranked permutation_line_lem = refl

    own : (k : Kind) (s : Progress) (a : Part k) → part_of k (with_part k s a) ≡ a
    own clause_line_lem s a = refl
    own target_line_lem s a = refl
    own permutation_line_lem s a = refl

    other : (j k : Kind) (s : Progress) (a : Part j) → eqb (rank j) (rank k) ≡ false
        → part_of k (with_part j s a) ≡ part_of k s
    other clause_line_lem clause_line_lem s a e = absurd (true≢false e)
    other clause_line_lem target_line_lem s a e = refl
    other clause_line_lem permutation_line_lem s a e = refl
    other target_line_lem clause_line_lem s a e = refl
    other target_line_lem target_line_lem s a e = absurd (true≢false e)
    other target_line_lem permutation_line_lem s a e = refl
    other permutation_line_lem clause_line_lem s a e = refl
    other permutation_line_lem target_line_lem s a e = refl
    other permutation_line_lem permutation_line_lem s a e = absurd (true≢false e)

-- ---- the lines of each kind

-- the test that a line of each kind passes
abbrev pub is_kind : Kind → Line → Bool
is_kind clause_line_lem l = not (is_comment l)
is_kind target_line_lem l = is_target_line l
is_kind permutation_line_lem l = is_permutation_line l

-- each head is that of a comment, and no line has two heads
heads_fine : well_headed rank headed_kinds ≡ true
unfolding rank well_headed
heads_fine = refl

-- the kind of a line from its tests
pub kind_clauses : (l : Line) → is_comment l ≡ false → kind_of l ≡ some clause_line_lem
unfolding kind_of
kind_clauses l c = rw c

pub kind_target : (l : Line) → is_target_line l ≡ true → kind_of l ≡ some target_line_lem
unfolding is_target_line
kind_target l t = kind_headed rank heads_fine (here _ _) l t

pub kind_permutation : (l : Line) → is_permutation_line l ≡ true → kind_of l ≡ some permutation_line_lem
unfolding is_permutation_line
kind_permutation l p = kind_headed rank heads_fine (Memᴰ.tail (here _ _)) l p

pub kind_remark : (l : Line) → is_comment l ≡ true → is_target_line l ≡ false → is_permutation_line l ≡ false
    → kind_of l ≡ none
unfolding kind_of is_target_line is_permutation_line
kind_remark l c t p = rw (c, t, p)

-- the tests are those of the kinds
kind_tests : (k : Kind) (l : Line) → is_kind k l ≡ is_of rank (kind_of l) k
unfolding is_target_line is_permutation_line
kind_tests clause_line_lem l = clause_test rank heads_fine l
kind_tests target_line_lem l = headed_test rank heads_fine (here _ _) l
kind_tests permutation_line_lem l = headed_test rank heads_fine (Memᴰ.tail (here _ _)) l

-- ---- the walk over the lines, kind by kind

module _ (z : Sizes) where
  -- the step of a line from its kind
  pub line_remark : (s : Progress) (l : Line) → kind_of l ≡ none → line_step z s l ≡ goes s
  unfolding line_step handled
  line_remark s l e = ap (handled z s l) e

  pub line_of_kind : (s : Progress) (l : Line) (k : Kind) → kind_of l ≡ some k
      → line_step z s l ≡ and_then (part_step z k (part_of k s) l) (λ a. goes (with_part k s a))
  unfolding line_step handled
  line_of_kind s l k e = ap (handled z s l) e

  pub walk-parts : (ls : List Line) (s q : Progress) → walk (line_step z) s ls ≡ goes q → (k : Kind)
      → walk (part_step z k) (part_of k s) (select (is_kind k) ls) ≡ goes (part_of k q)
  unfolding progress_parted
  walk-parts = walk-sides progress_parted kind_of is_kind kind_tests (part_step z) (line_step z) line_remark line_of_kind

  pub parts-walk : (ls : List Line) (s q : Progress)
      → ((k : Kind) → walk (part_step z k) (part_of k s) (select (is_kind k) ls) ≡ goes (part_of k q))
      → walk (line_step z) s ls ≡ goes q
  unfolding progress_parted
  parts-walk = sides-walk progress_parted kind_of is_kind kind_tests (part_step z) (line_step z) line_remark line_of_kind

  -- the lines of words, word by word
  pub clause-words : (c : Clauses) (ls : List Line)
      → walk (part_step z clause_line_lem) c (select (is_kind clause_line_lem) ls) ≡ walk (word_step z) c (words_among ls)
  unfolding words_among
  clause-words c ls = walk_flat (word_step z) words_of c (select (λ l. not (is_comment l)) ls)
