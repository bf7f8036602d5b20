-- Laws of the clauses in a text: a walk over words closes the clauses that the words say in groups, and no others; what
-- the two sets of a clause hold. Assumes nothing.
use Rattle.std.specs.Prelude.{Bool, true, false, cond, ◌||◌, ◌⊎◌, ◌≡◌, refl, ℕ, zero, suc, ◌+◌, ◌-◌, ◌≤◌, ◌<◌, ◌^◌, eqb, leb, ltb, length}
use Rattle.std.proofs.Math.Bool.{or_assoc, or_self}
use Rattle.std.proofs.Common.{true≢false, inl, inr, ⊎_elim, sym, ap, ap₂, ◌∙◌, subst, arith, length-append, pow_pos, eqb-true, eq-eqb, leb-true, le-leb, ltb-true, lt-ltb}
use mathlib.Core.List.Memᴰ
use mathlib.Core.List.{List, [], ◌∷◌, ◌++◌, map, flat_map, append-nil, append_assoc}
use Rattle.std.proofs.Math.Option.{Option, some, none}
use Rattle.std.specs.Int.Bits.{bit_or}
use Rattle.std.proofs.lemmas.Nat.{or_lt}
use Rattle.std.proofs.lemmas.List.{length-map}
use Rattle.std.proofs.Math.Pow.{pow-lt}
use Rattle.std.proofs.Math.Seq.{append_snoc}
use Rattle.math.specs.Laws.BitLaws.{bit-or, bit-pow, bit_of_zero, bits_ext}
use Rattle.math.specs.Bits.{bit}
use Rattle.math.specs.Laws.ListLaws.{here, or_split, or_left, or_right, same_tests}
use Rattle.math.specs.Lists.{◌∈◌}
use Rattle.math.specs.Laws.SplitLaws.{map-nil, map-cons, map-append}
use Rattle.points.specs.Points.{Clause, empty_clause}
use Rattle.dimacs_format.specs.Text.{joined, Word, number_in, Literal, variable, Token, unsigned, negated, token_in}
use Rattle.dimacs_format.specs.Text.{pos, neg, literal, close, malformed}
use Rattle.dimacs_format.specs.Input.{with_literal, with_literals, clause_of, IsClause}
use Rattle.dimacs_format.specs.Reader.{walk, Sizes, Clauses, token_step, word_step, goes, refuses}
use Rattle.dimacs_format.specs.Accepted.{closed_by0, Within, Grouped}
use Rattle.dimacs_format.specs.Laws.StepLaws.{goes_same, never, both_go, walk_step}

-- ---- a word

-- what a word says
abbrev pub token_of : Word → Token
token_of w = token_in w.bytes

not-literal : {l : Literal} (t : Token) → (t ≡ close) ⊎ (t ≡ malformed) → t ≡ literal l → ⊥
not-literal {l} t (inl p) e = let z : ◌≡◌ {A = ℕ} 0 1 = cc in omega arith
not-literal {l} t (inr p) e = let z : ◌≡◌ {A = ℕ} 0 1 = cc in omega arith

same_literal : {l m : Literal} → literal l ≡ literal m → l ≡ m
same_literal e = cc

-- a literal's variable is at least 1
pub literal_low : (w : List ℕ) (l : Literal) → token_in w ≡ literal l → 1 ≤ variable l
unfolding token_in variable
literal_low [] l e = absurd (not-literal malformed (inr refl) e)
literal_low (b ∷ bs) l e = by (eqb b 45) (number_in bs) (number_in (b ∷ bs)) e
  where
    by : (v : Bool) (m k : Option ℕ) → cond v (negated m) (unsigned k) ≡ literal l → 1 ≤ variable l
    by true none k e = absurd (not-literal malformed (inr refl) e)
    by true (some zero) k e = absurd (not-literal malformed (inr refl) e)
    by true (some (suc v)) k e = subst (λ x. 1 ≤ variable x) (same_literal e) (omega arith)
    by false m none e = absurd (not-literal malformed (inr refl) e)
    by false m (some zero) e = absurd (not-literal close (inl refl) e)
    by false m (some (suc v)) e = subst (λ x. 1 ≤ variable x) (same_literal e) (omega arith)

-- ---- one step

-- how a word leads on: it closes the clause begun, or adds a literal to it
pub data Advance (z : Sizes) (s : Clauses) (w : Word) : Clauses → Type 0 where
  closes : length s.closed < z.total → token_of w ≡ close
      → Advance z s w (record { closed = s.closed ++ s.begun ∷ []; begun = empty_clause })
  adds : length s.closed < z.total → (l : Literal) → token_of w ≡ literal l → Within z.variables l
      → Advance z s w (record { closed = s.closed; begun = with_literal s.begun l })

pub advance : (z : Sizes) (s : Clauses) (w : Word) {q : Clauses} → word_step z s w ≡ goes q → Advance z s w q
unfolding word_step
advance z s w {q} e = by (ltb (length s.closed) z.total) refl (token_of w) refl e
  where
    added : length s.closed < z.total → (l : Literal) → token_of w ≡ literal l → (v : Bool)
        → leb (variable l) z.variables ≡ v
        → cond v (goes (record { closed = s.closed; begun = with_literal s.begun l })) (refuses 6 w.start)
        ≡ goes q → Advance z s w q
    added lt l f true h e =
        subst (Advance z s w) (goes_same e) (adds lt l f
        (record { low = literal_low w.bytes l f; high = leb-true (variable l) z.variables h }))
    added lt l f false h e = absurd (never e)

    by : (v : Bool) → ltb (length s.closed) z.total ≡ v → (t : Token) → token_of w ≡ t
        → cond v (token_step z.variables s w.start t) (refuses 7 w.start) ≡ goes q → Advance z s w q
    by false h t f e = absurd (never e)
    by true h malformed f e = absurd (never e)
    by true h close f e = subst (Advance z s w) (goes_same e) (closes (ltb-true (length s.closed) z.total h) f)
    by true h (literal l) f e = added (ltb-true (length s.closed) z.total h) l f (leb (variable l) z.variables)
        refl e

pub advance_goes : (z : Sizes) (s : Clauses) (w : Word) {q : Clauses} → Advance z s w q → word_step z s w ≡ goes q
unfolding word_step
advance_goes z s w (closes lt f) = rw (lt-ltb (length s.closed) z.total lt, f)
advance_goes z s w (adds lt l f i) = rw (
  lt-ltb (length s.closed) z.total lt,
  f,
  le-leb (variable l)
      z.variables i.high,
)

-- ---- the literals of a clause, one by one

with_literals_snoc : (c : Clause) (g : List Literal) (l : Literal)
    → with_literals c (g ++ l ∷ []) ≡ with_literal (with_literals c g) l
unfolding with_literals
with_literals_snoc c [] l = refl
with_literals_snoc c (k ∷ g) l = with_literals_snoc (with_literal c k) g l

clause_of_snoc : (g : List Literal) (l : Literal) → clause_of (g ++ l ∷ []) ≡ with_literal (clause_of g) l
unfolding clause_of
clause_of_snoc g l = with_literals_snoc empty_clause g l

-- ---- words that lead on are groups

-- every literal of the group is one of the variables 1 to n
abbrev pub AllWithin : ℕ → List Literal → Type 0
AllWithin n g = (l : Literal) → l ∈ g → Within n l

-- a walk over words from s, whose clause begun lists `pre`, to q: groups, and what was begun behind them
record Ended (z : Sizes) (pre : List Literal) (s : Clauses) (ws : List Word) (q : Clauses) : Type 0 where
  groups : List (List Literal)
  left : List Literal
  tokens : map literal pre ++ map token_of ws ≡ flat_map closed_by0 groups ++ map literal left
  within : (g : List Literal) → g ∈ groups → AllWithin z.variables g
  closed : q.closed ≡ s.closed ++ map clause_of groups
  done : (left ≡ []) ⊎ (length q.closed < z.total)

-- one group in front
closed_first : (g : List Literal) (ts : List Token) → closed_by0 g ++ ts ≡ map literal g ++ close ∷ ts
closed_first g ts = append_snoc (map literal g) close ts

ended : (z : Sizes) (ws : List Word) (s q : Clauses) (pre : List Literal) → s.begun ≡ clause_of pre
    → AllWithin z.variables pre
    → (pre ≡ []) ⊎ (length s.closed < z.total) → walk (word_step z) s ws ≡ goes q → Ended z pre s ws q
unfolding walk flat_map clause_of
ended z [] s q pre b inside some-room e =
    subst (Ended z pre s []) (goes_same e)
    (record {
      groups = [];
      left = pre;
      tokens = append-nil (map literal pre);
      within = λ g m. absurd (Memᴰ.not-nil m);
      closed = sym (append-nil s.closed);
      done = some-room;
    })
ended z (w ∷ ws) s q pre b inside some-room e =
    let v = both_go (word_step z s w) (λ r. walk (word_step z) r ws) e in
    by v.0 (advance z s w v.1) (λ pre' b' inside' room'. ended z ws v.0 q pre' b' inside' room' v.2)
  where
    by : (r : Clauses) → Advance z s w r
        → ((pre' : List Literal) → r.begun ≡ clause_of pre' → AllWithin z.variables pre'
        → (pre' ≡ []) ⊎ (length r.closed < z.total) → Ended z pre' r ws q)
        → Ended z pre s (w ∷ ws) q
    by r (closes lt f) ih =
        let i = ih [] refl (λ l m. absurd (Memᴰ.not-nil m)) (inl refl) in
        record {
          groups = pre ∷ i.groups;
          left = i.left;
          tokens =
              ap (λ t. map literal pre ++ t ∷ map token_of ws) f ∙ ap (λ ts. map literal pre ++ close ∷ ts) i.tokens
              ∙ sym (closed_first pre (flat_map closed_by0 i.groups ++ map literal i.left))
              ∙ sym (append_assoc (closed_by0 pre) (flat_map closed_by0 i.groups) (map literal i.left));
          within = λ g m. ⊎_elim (λ p. subst (AllWithin z.variables) (sym p) inside) (λ k. i.within g k)
              (Memᴰ.cases_cons m);
          closed = i.closed ∙ append_snoc s.closed s.begun (map clause_of i.groups)
              ∙ ap (λ c. s.closed ++ c ∷ map clause_of i.groups) b;
          done = i.done;
        }
    by r (adds lt l f w') ih =
        let i = ih (pre ++ l ∷ []) (ap (λ c. with_literal c l) b ∙ sym (clause_of_snoc pre l))
        (λ k m. ⊎_elim (λ p. inside k p) (λ p. subst (Within z.variables) (sym (Memᴰ.eq_of_singleton p)) w')
        (Memᴰ.append_cases pre m)) (inr lt) in
        record {
          groups = i.groups;
          left = i.left;
          tokens =
              ap (λ t. map literal pre ++ t ∷ map token_of ws) f
              ∙ sym (append_snoc (map literal pre) (literal l) (map token_of ws))
              ∙ ap (λ ts. ts ++ map token_of ws) (sym (map-append literal pre (l ∷ []))) ∙ i.tokens;
          within = i.within;
          closed = i.closed;
          done = i.done;
        }

-- from the start to C clauses closed
pub walk_grouped : (z : Sizes) (ws : List Word) (q : Clauses)
    → walk (word_step z) (record { closed = []; begun = empty_clause }) ws ≡ goes q
    → length q.closed ≡ z.total → Grouped z.variables ws q.closed
unfolding clause_of
walk_grouped z ws q e full =
    let i = ended z ws (record { closed = []; begun = empty_clause }) q [] refl (λ l m. absurd (Memᴰ.not-nil m))
    (inl refl) e in
    record {
      groups = i.groups;
      tokens = i.tokens ∙ ap (λ l. flat_map closed_by0 i.groups ++ map literal l) (empty i)
          ∙ append-nil (flat_map closed_by0 i.groups);
      within = i.within;
      clauses = i.closed;
    }
  where
    empty : (i : Ended z [] (record { closed = []; begun = empty_clause }) ws q) → i.left ≡ []
    empty i = ⊎_elim (λ p. p) (λ lt. absurd (let n : ⊥ = omega arith in n)) i.done

-- ---- groups lead on

-- one group closes one clause
group_closes : (z : Sizes) (cl : List Clause) → length cl < z.total
    → (g : List Literal) (ts : List Token) (c : Clause) (ws : List Word)
    → AllWithin z.variables g → map token_of ws ≡ map literal g ++ close ∷ ts
    → (rest : List Word) × (map token_of rest ≡ ts)
    × (walk (word_step z) (record { closed = cl; begun = c }) ws
    ≡ walk (word_step z) (record { closed = cl ++ with_literals c g ∷ []; begun = empty_clause }) rest)
unfolding with_literals
group_closes z cl lt [] ts c ws inside e =
    let m = map-cons token_of ws e in (
      m.1,
      m.4,
      ap (walk (word_step z) (record { closed = cl; begun = c })) m.2
          ∙ walk_step (word_step z) (record { closed = cl; begun = c })
          (record { closed = cl ++ c ∷ []; begun = empty_clause }) m.0 m.1
          (advance_goes z (record { closed = cl; begun = c }) m.0 (closes lt m.3)),
    )
group_closes z cl lt (l ∷ g) ts c ws inside e =
    let m = map-cons token_of ws e in
    let i = group_closes z cl lt g ts (with_literal c l) m.1 (λ k n. inside k (Memᴰ.tail n)) m.4 in (
      i.0,
      i.1,
      ap (walk (word_step z) (record { closed = cl; begun = c })) m.2
          ∙ walk_step (word_step z) (record { closed = cl; begun = c }) (record { closed = cl; begun = with_literal c l })
          m.0 m.1
          (advance_goes z (record { closed = cl; begun = c }) m.0 (adds lt l m.3 (inside l (here l g))))
          ∙ i.2,
    )

groups_walk : (z : Sizes) (gs : List (List Literal)) (cl : List Clause) (ws : List Word)
    → map token_of ws ≡ flat_map closed_by0 gs
    → ((g : List Literal) → g ∈ gs → AllWithin z.variables g) → length cl + length gs ≤ z.total
    → walk (word_step z) (record { closed = cl; begun = empty_clause }) ws
    ≡ goes (record { closed = cl ++ map clause_of gs; begun = empty_clause })
unfolding walk flat_map clause_of
groups_walk z [] cl ws e inside le =
    ap (walk (word_step z) (record { closed = cl; begun = empty_clause })) (map-nil token_of ws e)
    ∙ ap (λ l. goes (record { closed = l; begun = empty_clause })) (sym (append-nil cl))
groups_walk z (g ∷ gs) cl ws e inside le =
    let i = group_closes z cl (omega arith) g (flat_map closed_by0 gs) empty_clause ws (inside g (here g gs))
    (e ∙ closed_first g (flat_map closed_by0 gs)) in
    i.2
    ∙ groups_walk z gs (cl ++ clause_of g ∷ []) i.0 i.1 (λ k m. inside k (Memᴰ.tail m))
    (omega (arith, length-append cl (clause_of g ∷ [])))
    ∙ ap (λ l. goes (record { closed = l; begun = empty_clause })) (append_snoc cl (clause_of g) (map clause_of gs))

pub grouped_walk : (z : Sizes) (ws : List Word) (cs : List Clause) → Grouped z.variables ws cs → length cs ≡ z.total
    → walk (word_step z) (record { closed = []; begun = empty_clause }) ws
    ≡ goes (record { closed = cs; begun = empty_clause })
grouped_walk z ws cs g full =
    groups_walk z g.groups [] ws g.tokens g.within
    (omega (arith, ap length g.clauses, length-map g.groups clause_of))
    ∙ ap (λ l. goes (record { closed = l; begun = empty_clause })) (sym g.clauses)

-- ---- what the two sets of a clause hold; one proof for both signs

-- the set of a sign, and the literal of a sign
part : Bool → Clause → ℕ
part true c = c.positive
part false c = c.negative

signed : Bool → ℕ → Literal
signed true v = pos v
signed false v = neg v

-- a variable joins a set
joins_out : (x v i : ℕ) → 1 ≤ v → bit (bit_or x (2 ^ (v - 1))) i ≡ true → (bit x i ≡ true) ⊎ (v ≡ suc i)
joins_out x v i low e =
    ⊎_elim inl (λ p. inr (let q : v - 1 ≡ i = eqb-true (v - 1) i (sym (bit-pow (v - 1) i) ∙ p) in omega arith))
    (or_split (bit x i) (bit (2 ^ (v - 1)) i) (sym (bit-or x (2 ^ (v - 1)) i) ∙ e))

joins_kept : (x v i : ℕ) → bit x i ≡ true → bit (bit_or x (2 ^ (v - 1))) i ≡ true
joins_kept x v i e = bit-or x (2 ^ (v - 1)) i ∙ or_left (bit x i) (bit (2 ^ (v - 1)) i) e

joins_new : (x i : ℕ) → bit (bit_or x (2 ^ (suc i - 1))) i ≡ true
joins_new x i =
    bit-or x (2 ^ (suc i - 1)) i
    ∙ or_right (bit x i) (bit (2 ^ (suc i - 1)) i) (bit-pow (suc i - 1) i ∙ eq-eqb (suc i - 1) i (omega arith))

part_out : (b : Bool) (c : Clause) (l : Literal) (i : ℕ) → 1 ≤ variable l → bit (part b (with_literal c l)) i ≡ true
    → (bit (part b c) i ≡ true) ⊎ (signed b (suc i) ≡ l)
unfolding part signed with_literal variable
part_out true c (pos v) i low e = ⊎_elim inl (λ p. inr (ap pos (sym p))) (joins_out c.positive v i low e)
part_out true c (neg v) i low e = inl e
part_out false c (pos v) i low e = inl e
part_out false c (neg v) i low e = ⊎_elim inl (λ p. inr (ap neg (sym p))) (joins_out c.negative v i low e)

part_kept : (b : Bool) (c : Clause) (l : Literal) (i : ℕ) → bit (part b c) i ≡ true
    → bit (part b (with_literal c l)) i ≡ true
unfolding part with_literal
part_kept true c (pos v) i e = joins_kept c.positive v i e
part_kept true c (neg v) i e = e
part_kept false c (pos v) i e = e
part_kept false c (neg v) i e = joins_kept c.negative v i e

part_new : (b : Bool) (c : Clause) (i : ℕ) → bit (part b (with_literal c (signed b (suc i)))) i ≡ true
unfolding part signed with_literal
part_new true c i = joins_new c.positive i
part_new false c i = joins_new c.negative i

parts_out : (b : Bool) (g : List Literal) (c : Clause) (i : ℕ) → ((l : Literal) → l ∈ g → 1 ≤ variable l)
    → bit (part b (with_literals c g)) i ≡ true
    → (bit (part b c) i ≡ true) ⊎ (signed b (suc i) ∈ g)
unfolding with_literals
parts_out b [] c i low e = inl e
parts_out b (l ∷ g) c i low e =
    ⊎_elim (λ p. ⊎_elim inl (λ q. inr (Memᴰ.head q)) (part_out b c l i (low l (here l g)) p))
    (λ m. inr (Memᴰ.tail m))
    (parts_out b g (with_literal c l) i (λ k m. low k (Memᴰ.tail m)) e)

parts_kept : (b : Bool) (g : List Literal) (c : Clause) (i : ℕ) → bit (part b c) i ≡ true
    → bit (part b (with_literals c g)) i ≡ true
unfolding with_literals
parts_kept b [] c i e = e
parts_kept b (l ∷ g) c i e = parts_kept b g (with_literal c l) i (part_kept b c l i e)

parts_in : (b : Bool) (g : List Literal) (c : Clause) (i : ℕ) → signed b (suc i) ∈ g
    → bit (part b (with_literals c g)) i ≡ true
unfolding with_literals
parts_in b [] c i m = absurd (Memᴰ.not-nil m)
parts_in b (l ∷ g) c i m =
    ⊎_elim (λ p. parts_kept b g (with_literal c l) i (subst (λ k. bit (part b (with_literal c k)) i ≡ true) p
    (part_new b c i)))
    (λ k. parts_in b g (with_literal c l) i k) (Memᴰ.cases_cons m)

-- the clause of a group is the one that its literals list
pub clause_of_is : (g : List Literal) → ((l : Literal) → l ∈ g → 1 ≤ variable l) → IsClause g (clause_of g)
unfolding clause_of part signed
clause_of_is g low =
    record {
      wanted = λ i. (λ e. found true i (parts_out true g empty_clause i low e), parts_in true g empty_clause i);
      unwanted = λ i. (λ e. found false i (parts_out false g empty_clause i low e), parts_in false g empty_clause i);
    }
  where
    nothing : (b : Bool) (i : ℕ) → bit (part b empty_clause) i ≡ true → ⊥
    nothing true i e = true≢false (sym e ∙ bit_of_zero i)
    nothing false i e = true≢false (sym e ∙ bit_of_zero i)

    found : (b : Bool) (i : ℕ) → (bit (part b empty_clause) i ≡ true) ⊎ (signed b (suc i) ∈ g) → signed b (suc i) ∈ g
    found b i = ⊎_elim (λ e. absurd (nothing b i e)) (λ m. m)

-- and there is no other
pub is_clause_same : (g : List Literal) (c d : Clause) → IsClause g c → IsClause g d → c ≡ d
is_clause_same g c d p q =
    ap₂ (λ x y. record { positive = x; negative = y })
    (bits_ext c.positive d.positive
    (λ i. same_tests (bit c.positive i) (bit d.positive i) (λ e. (q.wanted i).1 ((p.wanted i).0 e))
    (λ e. (p.wanted i).1 ((q.wanted i).0 e))))
    (bits_ext c.negative d.negative
    (λ i. same_tests (bit c.negative i) (bit d.negative i) (λ e. (q.unwanted i).1 ((p.unwanted i).0 e))
    (λ e. (p.unwanted i).1 ((q.unwanted i).0 e))))

-- a clause of the variables 1 to n has no bit above
parts_below : (n : ℕ) (b : Bool) (g : List Literal) (c : Clause) → AllWithin n g → part b c < 2 ^ n
    → part b (with_literals c g) < 2 ^ n
unfolding with_literals part variable
parts_below n b [] c inside h = h
parts_below n b (l ∷ g) c inside h = parts_below n b g (with_literal c l) (λ k m. inside k (Memᴰ.tail m))
    (one b l (inside l (here l g)) h)
  where
    joined : (x v : ℕ) → 1 ≤ v → v ≤ n → x < 2 ^ n → bit_or x (2 ^ (v - 1)) < 2 ^ n
    joined x v low high h = or_lt n x (2 ^ (v - 1)) h (pow-lt (omega arith))

    one : (b : Bool) (l : Literal) → Within n l → part b c < 2 ^ n → part b (with_literal c l) < 2 ^ n
    one true (pos v) i h = joined c.positive v i.low i.high h
    one true (neg v) i h = h
    one false (pos v) i h = h
    one false (neg v) i h = joined c.negative v i.low i.high h

pub clause_of-below : (n : ℕ) (g : List Literal) → AllWithin n g
    → ((clause_of g).positive < 2 ^ n) × ((clause_of g).negative < 2 ^ n)
unfolding clause_of part
clause_of-below n g inside = (
  parts_below n true g empty_clause inside (pow_pos n),
  parts_below n false g empty_clause
      inside (pow_pos n),
)

-- ---- S5: "a repeated entry counts once"

or_twice : (a b : ℕ) → bit_or (bit_or a b) b ≡ bit_or a b
or_twice a b =
    bits_ext (bit_or (bit_or a b) b) (bit_or a b)
    (λ i. bit-or (bit_or a b) b i ∙ ap (λ t. t || bit b i) (bit-or a b i) ∙ or_assoc (bit a i) (bit b i) (bit b i)
    ∙ ap (λ t. bit a i || t) (or_self (bit b i)) ∙ sym (bit-or a b i))

pub literal_twice : (c : Clause) (l : Literal) → with_literal (with_literal c l) l ≡ with_literal c l
unfolding with_literal
literal_twice c (pos v) = ap (λ p. let d : Clause = record { positive = p; negative = c.negative } in d)
    (or_twice c.positive (2 ^ (v - 1)))
literal_twice c (neg v) = ap (λ n. let d : Clause = record { positive = c.positive; negative = n } in d)
    (or_twice c.negative (2 ^ (v - 1)))
