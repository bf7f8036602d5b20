-- Laws of lines and words: the computed runs are the declared ones and no others, how they go on from a place of the
-- text, and what the tests on bytes say. Assumes nothing.
use Rattle.std.specs.Prelude.{Bool, cond, ◌≡◌, ℕ, suc, ◌+◌, ◌≤◌, ◌<◌, eqb, leb, get_or, take, drop}
use Rattle.std.proofs.Math.Bool.{true, false, not}
use Rattle.std.proofs.lemmas.Bool.{false≢true, not-true}
use mathlib.Core.List.{List, [], ◌∷◌, ◌++◌, map, nil≢cons}
use Rattle.std.proofs.Math.Path.{refl, sym, ap}
use Rattle.std.proofs.Common.{ap₂, ◌∙◌, subst, suc-add, add-zero, arith, take-append-drop, length-take-le, eqb-true, eq-eqb, le-leb}
use Rattle.std.proofs.Math.Nat.{add-suc}
use Rattle.std.proofs.Math.ListN.{length}
use Rattle.std.proofs.Math.Seq.{take-append_seam, split_at}
use Rattle.math.specs.Laws.ListLaws.{and_split, and_join}
use Rattle.math.specs.Lists.{all, select}
use Rattle.math.specs.Laws.SplitLaws.{select-cons}
use Rattle.dimacs_format.specs.Text.{ends_line, is_blank, Piece, piece, Clean, Split, joined, pieces, Line, Word}
use Rattle.dimacs_format.specs.Text.{lines, holds_bytes, words, same_bytes, begins, all_blank, split_last, split_more}

-- ---- the runs

module _ (t : ℕ → Bool) where
  -- a run up to the end
  pub pieces_end : (at : ℕ) (run : List ℕ) → Clean t run → pieces t at run ≡ piece at run ∷ []
  unfolding pieces all
  pieces_end at [] clean = refl
  pieces_end at (b ∷ run) clean =
      let w = and_split (not (t b)) (all (λ x. not (t x)) run) clean in
      rw (not-true (t b) w.0, pieces_end (suc at) run w.1)

  -- a run up to a byte that separates
  pub pieces_next : (at : ℕ) (run : List ℕ) (b : ℕ) (rest : List ℕ) → Clean t run → t b ≡ true
      → pieces t at (run ++ b ∷ rest) ≡ piece at run ∷ pieces t (suc (at + length run)) rest
  unfolding pieces all
  pieces_next at [] b rest clean e = rw (e, add-zero)
  pieces_next at (x ∷ run) b rest clean e =
      let w = and_split (not (t x)) (all (λ y. not (t y)) run) clean in
      rw (not-true (t x) w.0, pieces_next (suc at) run b rest w.1 e, add-suc, suc-add)

  -- the same from a place: a run of k bytes, and then one that separates
  pub pieces-at : (at k : ℕ) (bytes : List ℕ) → k < length bytes → Clean t (take k bytes) → t (get_or bytes k 0) ≡ true
      → pieces t at bytes ≡ piece at (take k bytes) ∷ pieces t (suc (at + k)) (drop (suc k) bytes)
  pieces-at at k bytes lt clean e =
      ap (pieces t at) (split_at bytes k 0 lt)
      ∙ pieces_next at (take k bytes) (get_or bytes k 0) (drop (suc k) bytes) clean e
      ∙ ap (λ j. piece at (take k bytes) ∷ pieces t (suc (at + j)) (drop (suc k) bytes))
      (length-take-le k bytes (omega arith))

  -- a byte that does not separate joins the first run
  split_joined : {at b : ℕ} {bs : List ℕ} {ps : List Piece} → t b ≡ false → Split t (suc at) bs ps
      → Split t at (b ∷ bs) (joined false at b ps)
  unfolding joined all
  split_joined {at} {b} e (split_last {run = run} clean) = split_last {run = b ∷ run} (rw e clean)
  split_joined {at} {b} e (split_more {b = c} {run = run} {rest = rest} {ps = ps} clean f s) =
      split_more {run = b ∷ run} (rw e clean) f (subst (λ k. Split t (suc k) rest ps)
      (suc-add at (length run) ∙ sym (add-suc at (length run))) s)

  -- the computed runs are the declared ones
  pub pieces_split : (at : ℕ) (xs : List ℕ) → Split t at xs (pieces t at xs)
  unfolding pieces all
  pieces_split at [] = split_last refl
  pieces_split at (b ∷ bs) = by (t b) refl (pieces_split (suc at) bs)
    where
      by : (v : Bool) → t b ≡ v → Split t (suc at) bs (pieces t (suc at) bs)
          → Split t at (b ∷ bs) (joined v at b (pieces t (suc at) bs))
      by true e s = split_more {run = []} refl e (subst (λ k. Split t (suc k) bs (pieces t (suc at) bs))
          (sym (add-zero at)) s)
      by false e s = split_joined e s

  -- and there are no others
  pub split_pieces : {at : ℕ} {xs : List ℕ} {ps : List Piece} → Split t at xs ps → ps ≡ pieces t at xs
  split_pieces (split_last {at = at} {run = run} clean) = sym (pieces_end at run clean)
  split_pieces (split_more {at = at} {b = b} {run = run} {rest = rest} {ps = ps} clean e s) =
      ap (λ l. piece at run ∷ l) (split_pieces s) ∙ sym (pieces_next at run b rest clean e)

  -- there is at least one run, and the first begins where the bytes do
  pub pieces-some : (at : ℕ) (xs : List ℕ) → (run : List ℕ) × (ps : List Piece) × (pieces t at xs ≡ piece at run ∷ ps)
  unfolding pieces joined
  pieces-some at [] = ([], [], refl)
  pieces-some at (b ∷ bs) = let i = pieces-some (suc at) bs in by (t b) i.0 i.1 i.2
    where
      by : (v : Bool) (run : List ℕ) (ps : List Piece) → pieces t (suc at) bs ≡ piece (suc at) run ∷ ps
          → (run : List ℕ) × (ps : List Piece) × (joined v at b (pieces t (suc at) bs) ≡ piece at run ∷ ps)
      by true run ps e = ([], pieces t (suc at) bs, refl)
      by false run ps e = (b ∷ run, ps, ap (joined false at b) e)

  -- the runs before a byte that separates, and those behind it
  pub pieces-append : (at : ℕ) (xs : List ℕ) (b : ℕ) (ys : List ℕ) → t b ≡ true
      → pieces t at (xs ++ b ∷ ys) ≡ pieces t at xs ++ pieces t (suc (at + length xs)) ys
  unfolding pieces joined
  pieces-append at [] b ys e = rw (e, add-zero)
  pieces-append at (x ∷ xs) b ys e =
      ap (joined (t x) at x) (pieces-append (suc at) xs b ys e)
      ∙ by (t x) (pieces t (suc at) xs) (pieces t (suc (suc at + length xs)) ys) (pieces-some (suc at) xs).2
      ∙ ap (λ k. joined (t x) at x (pieces t (suc at) xs) ++ pieces t (suc k) ys)
      (suc-add at (length xs) ∙ sym (add-suc at (length xs)))
    where
      by : (v : Bool) (ps rest : List Piece) {p : Piece} {qs : List Piece} → ps ≡ p ∷ qs
          → joined v at x (ps ++ rest) ≡ joined v at x ps ++ rest
      by true ps rest e = refl
      by false [] rest e = absurd (nil≢cons e)
      by false (p ∷ ps) rest e = refl

  -- what the runs hold does not depend on where the text begins
  pub pieces_bytes : (a b : ℕ) (xs : List ℕ)
      → map (λ (p : Piece). p.bytes) (pieces t a xs) ≡ map (λ (p : Piece). p.bytes) (pieces t b xs)
  unfolding pieces
  pieces_bytes a b [] = refl
  pieces_bytes a b (x ∷ xs) = by (t x) (pieces t (suc a) xs) (pieces t (suc b) xs) (pieces_bytes (suc a) (suc b) xs)
    where
      by : (v : Bool) (ps qs : List Piece) → map (λ (p : Piece). p.bytes) ps ≡ map (λ (p : Piece). p.bytes) qs
          → map (λ (p : Piece). p.bytes) (joined v a x ps) ≡ map (λ (p : Piece). p.bytes) (joined v b x qs)
      by true ps qs e = ap (λ l. [] ∷ l) e
      by false [] [] e = refl
      by false [] (q ∷ qs) e = cc
      by false (p ∷ ps) [] e = cc
      by false (p ∷ ps) (q ∷ qs) e = cc

-- ---- the lines

-- a last line, which lacks its byte 10
pub lines_last : (at : ℕ) (run : List ℕ) → Clean ends_line run → lines at run ≡ piece at run ∷ []
unfolding lines
lines_last at run clean = pieces_end ends_line at run clean

-- a line of k bytes, and then byte 10
pub lines_next : (at k : ℕ) (bytes : List ℕ) → k < length bytes → Clean ends_line (take k bytes)
    → ends_line (get_or bytes k 0) ≡ true
    → lines at bytes ≡ piece at (take k bytes) ∷ lines (suc (at + k)) (drop (suc k) bytes)
unfolding lines
lines_next at k bytes lt clean e = pieces-at ends_line at k bytes lt clean e

-- the first line begins where the bytes do
pub lines-some : (at : ℕ) (bytes : List ℕ) → (run : List ℕ) × (ls : List Line) × (lines at bytes ≡ piece at run ∷ ls)
unfolding lines
lines-some at bytes = pieces-some ends_line at bytes

-- the lines before a byte 10, and those behind it
pub lines-append : (at : ℕ) (xs ys : List ℕ)
    → lines at (xs ++ 10 ∷ ys) ≡ lines at xs ++ lines (suc (at + length xs)) ys
unfolding lines
lines-append at xs ys = pieces-append ends_line at xs 10 ys refl

-- blanks end no line
pub blank_clean : (bytes : List ℕ) → all_blank bytes ≡ true → Clean ends_line bytes
unfolding all_blank ends_line all
blank_clean [] e = refl
blank_clean (b ∷ bs) e =
    let w = and_split (is_blank b) (all is_blank bs) e in
    and_join (not (eqb b 10)) (all (λ x. not (eqb x 10)) bs) (by (eqb b 10) refl w.0) (blank_clean bs w.1)
  where
    by : (t : Bool) → eqb b 10 ≡ t → is_blank b ≡ true → not t ≡ true
    by true f h = absurd (false≢true (ap is_blank (sym (eqb-true b 10 f)) ∙ h))
    by false f h = refl

-- ---- the words

pub words-none : (at : ℕ) → words at [] ≡ []
unfolding words
words-none at = refl

-- a blank in front
pub words-blank : (at b : ℕ) (bs : List ℕ) → is_blank b ≡ true → words at (b ∷ bs) ≡ words (suc at) bs
unfolding words
words-blank at b bs e = rw e

holds : (at b : ℕ) (bs : List ℕ) → holds_bytes (piece at (b ∷ bs)) ≡ true
unfolding holds_bytes
holds at b bs = le-leb 1 (suc (length bs)) (omega arith)

-- a word up to the end
pub words_last : (at b : ℕ) (run : List ℕ) → Clean is_blank (b ∷ run) → words at (b ∷ run) ≡ piece at (b ∷ run) ∷ []
unfolding words select
words_last at b run clean = ap (select holds_bytes) (pieces_end is_blank at (b ∷ run) clean)
    ∙ select-cons holds_bytes [] (holds at b run)

-- a word of k bytes, and then a blank
pub words_next : (at k : ℕ) (bytes : List ℕ) → 1 ≤ k → k < length bytes → Clean is_blank (take k bytes)
    → is_blank (get_or bytes k 0) ≡ true
    → words at bytes ≡ piece at (take k bytes) ∷ words (suc (at + k)) (drop (suc k) bytes)
unfolding words
words_next at k bytes some_byte lt clean e =
    let size : length (take k bytes) ≡ k = length-take-le k bytes (omega arith) in
    ap (select holds_bytes) (pieces-at is_blank at k bytes lt clean e)
    ∙ select-cons holds_bytes (pieces is_blank (suc (at + k)) (drop (suc k) bytes))
    (le-leb 1 (length (take k bytes)) (omega arith))

-- what the words hold does not depend on where the text begins
pub words_bytes : (a b : ℕ) (xs : List ℕ)
    → map (λ (w : Word). w.bytes) (words a xs) ≡ map (λ (w : Word). w.bytes) (words b xs)
unfolding words
words_bytes a b xs = held (pieces is_blank a xs) (pieces is_blank b xs) (pieces_bytes is_blank a b xs)
  where
    kept : (t : Bool) (p q : Piece) (ps qs : List Piece) → p.bytes ≡ q.bytes
        → map (λ (w : Word). w.bytes) ps ≡ map (λ (w : Word). w.bytes) qs
        → map (λ (w : Word). w.bytes) (cond t (p ∷ ps) ps) ≡ map (λ (w : Word). w.bytes) (cond t (q ∷ qs) qs)
    kept true p q ps qs f e = ap₂ ◌∷◌ f e
    kept false p q ps qs f e = e

    held : (ps qs : List Piece) → map (λ (p : Piece). p.bytes) ps ≡ map (λ (p : Piece). p.bytes) qs
        → map (λ (p : Piece). p.bytes) (select holds_bytes ps) ≡ map (λ (p : Piece). p.bytes) (select holds_bytes qs)
    held [] [] e = refl
    held [] (q ∷ qs) e = cc
    held (p ∷ ps) [] e = cc
    held (p ∷ ps) (q ∷ qs) e =
        let f : p.bytes ≡ q.bytes = cc in
        rw (ap (λ v. leb 1 (length v)) f) (kept (leb 1 (length q.bytes)) p q (select holds_bytes ps)
        (select holds_bytes qs) f (held ps qs cc))

-- ---- tests on bytes

pub same_bytes_lem : (xs ys : List ℕ) → same_bytes xs ys ≡ true → xs ≡ ys
unfolding same_bytes
same_bytes_lem [] [] e = refl
same_bytes_lem [] (y ∷ ys) e = absurd (false≢true e)
same_bytes_lem (x ∷ xs) [] e = absurd (false≢true e)
same_bytes_lem (x ∷ xs) (y ∷ ys) e = let w = and_split (eqb x y) (same_bytes xs ys) e in ap₂ ◌∷◌ (eqb-true x y w.0)
    (same_bytes_lem xs ys w.1)

pub bytes_same : (xs : List ℕ) → same_bytes xs xs ≡ true
unfolding same_bytes
bytes_same [] = refl
bytes_same (x ∷ xs) = and_join (eqb x x) (same_bytes xs xs) (eq-eqb x x refl) (bytes_same xs)

-- a run that passes the test for a head is that head and what stands behind it
pub begins_split : (head bytes : List ℕ) → begins head bytes ≡ true → bytes ≡ head ++ drop (length head) bytes
unfolding begins
begins_split head bytes e =
    sym (take-append-drop (length head) bytes)
    ∙ ap (λ l. l ++ drop (length head) bytes) (sym (same_bytes_lem head (take (length head) bytes) e))

pub begins_of : (head rest : List ℕ) → begins head (head ++ rest) ≡ true
unfolding begins
begins_of head rest = ap (same_bytes head) (take-append_seam head rest) ∙ bytes_same head
