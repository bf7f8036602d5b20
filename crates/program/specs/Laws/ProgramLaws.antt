-- Laws of what the program prints: one for each way out of the functions that make it. Assumes nothing.
use Rattle.std.specs.Prelude.{Result, Ok, Err, Bool, true, false, cond, List, ◌≡◌, refl, ℕ, ◌≤◌, ◌<◌, length, replicate}
use Rattle.std.proofs.Common.{sym, ap, ◌∙◌, lt-ltb, le-ltb, le_of_eq, le_trans, true≢false}
use borrow.Author.Tests.{eqb-false}
use Rattle.std.proofs.Math.Path.{subst}
use Rattle.point_slices.specs.Laws.SliceLaws.{clauses-blank}
use Rattle.point_slices.specs.Slices.{ClauseSlices, clause_slices, first_clauses}
use Rattle.formula.specs.declared.Formula.{Formula}
use Rattle.formula.specs.Limits.{max_variables, max_clauses}
use Rattle.formula.specs.Reasons.{code_of}
use Rattle.formula.specs.declared.reasons.Refusal.{Refusal}
use Rattle.formula.specs.Reply.{Reply, refused, parsed}
use Rattle.dimacs_format.specs.Laws.Handed.{accepted_handed}
use Rattle.dimacs_format.specs.Laws.RoomLaws.{ReadAlike, reads_alike}
use Rattle.dimacs_format.specs.Reader.{read_reply, read_formula, read_clauses}
use Rattle.dimacs_lines.specs.declared.Parsed.{Parsed}
use Rattle.dimacs.specs.Contract.{Read}
use Rattle.search.specs.Search.{search_reply}
use Rattle.claims.specs.Claim.{formula_in, slices_in}
use Rattle.solver.specs.Solver.{blank, after_reading, sheet_reply}
use Rattle.solver.specs.Laws.Steps.{zeros, wants_room}
use Rattle.solver.specs.Laws.SolverLaws.{few_room, blank_room, other_not_4, most_not_4}
use Rattle.program_text.specs.Report.{refused_text, report_of}
use Rattle.program_text.specs.Laws.Putting.{Printed}
use Rattle.program_search.specs.Slots.{slots}
use Rattle.program.specs.Program.{max_input, sheet_in, reply_to, printed}
use Rattle.program.specs.Laws.Contracts.{report_for, PrintedIn, Told}

-- ---- the clauses

-- the reader is lent arrays of zeros
pub read_blank : (text : List ℕ) {r : Parsed} {clauses : ClauseSlices}
    → Read text (clause_slices (replicate max_clauses 0) (replicate max_clauses 0)) r clauses → Read text blank r clauses
unfolding blank
read_blank text {r} {clauses} v = subst (λ lent. Read text lent r clauses) (clauses-blank max_clauses) v

-- slices read a text as they do
pub alike_self : (text : List ℕ) (lent : ClauseSlices) → ReadAlike text lent lent
alike_self text lent = record { reply = refl; formula = refl; first_clauses_lem = refl }

-- ---- a text that is refused

-- the reader's refusal is the reply
pub reply_refused : (text : List ℕ) (code place : ℕ) → refused code place ≡ read_reply text blank
    → sheet_reply (sheet_in text) slots ≡ refused code place
unfolding sheet_reply
reply_refused text code place e =
    let s = sheet_in text in
    ap (λ (a : Reply). after_reading a a (search_reply (formula_in s) (slices_in s) slots)) (sym e)

-- ---- a text that is accepted, with slices that it reads the same with as with those for the most clauses

module _ (text : List ℕ) (lent : ClauseSlices) (alike : ReadAlike text lent blank) (e : parsed ≡ read_reply text lent)
    (f : Formula) (same : f ≡ read_formula text lent) where
  -- n is within its limit
  pub few_variables : f.variables ≤ max_variables
  few_variables = subst (λ (g : Formula). g.variables ≤ max_variables) (sym same)
      (accepted_handed text lent (sym e)).fits.few_variables

  -- the builder's answer is the reply
  pub prints_read : (clauses : ClauseSlices) → clauses ≡ read_clauses text lent → (out₀ : List ℕ) (r : ℕ)
      (out₁ : List ℕ)
      → Printed (report_of f.variables (search_reply f (first_clauses f.clauses clauses) slots)) out₀ r out₁
      → Printed (report_of (formula_in (sheet_in text)).variables (sheet_reply (sheet_in text) slots)) out₀ r out₁
  unfolding sheet_reply
  prints_read clauses c out₀ r out₁ q =
      let reply = e ∙ alike.reply in
      let formula = same ∙ alike.formula in
      let first = (λ i. first_clauses (same i).clauses (c i)) ∙ alike.first_clauses_lem in
      subst (λ l. Printed l out₀ r out₁)
      (λ i. report_of (formula i).variables (after_reading (reply i) (reply i)
      (search_reply (formula i) (first i) slots))) q

-- ---- what is printed

pub prints_refused : (text : List ℕ) (code place : ℕ) → refused code place ≡ read_reply text blank
    → (out₀ : List ℕ) (r : ℕ) (out₁ : List ℕ)
    → Printed (refused_text code place) out₀ r out₁
    → Printed (report_of (formula_in (sheet_in text)).variables (sheet_reply (sheet_in text) slots)) out₀ r out₁
unfolding report_of
prints_refused text code place e out₀ r out₁ q =
    subst (λ (a : Reply). Printed (report_of (formula_in (sheet_in text)).variables a) out₀ r out₁)
    (sym (reply_refused text code place e)) q

pub prints_long : (text : List ℕ) → max_input < length text → (out₀ : List ℕ) (r : ℕ) (out₁ : List ℕ)
    → Printed (refused_text 1 max_input) out₀ r out₁ → Printed (printed text) out₀ r out₁
unfolding printed reply_to report_of
prints_long text long out₀ r out₁ q =
    subst (λ (b : Bool). Printed (report_of (formula_in (sheet_in text)).variables
    (cond b (refused 1 max_input) (sheet_reply (sheet_in text) slots))) out₀ r out₁)
    (sym (lt-ltb max_input (length text) long)) q

pub prints_sheet : (text : List ℕ) → length text ≤ max_input → (out₀ : List ℕ) (r : ℕ) (out₁ : List ℕ)
    → Printed (report_of (formula_in (sheet_in text)).variables (sheet_reply (sheet_in text) slots)) out₀ r out₁
    → Printed (printed text) out₀ r out₁
unfolding printed reply_to
prints_sheet text short out₀ r out₁ q =
    subst (λ (b : Bool). Printed (report_of (formula_in (sheet_in text)).variables
    (cond b (refused 1 max_input) (sheet_reply (sheet_in text) slots))) out₀ r out₁)
    (sym (le-ltb max_input (length text) short)) q

-- ---- arrays of two sizes

module _ (text : List ℕ) (k : ℕ) (le : k ≤ max_clauses) {out₀ : List ℕ} (out₁ : List ℕ) where
  -- a refusal that is no want of room is told
  told_refusal : (q : Refusal) → PrintedIn k text out₀ (Err q) out₁ → (code_of q.reason ≡ 4 → ⊥) → (r : ℕ) (out₂ : List ℕ)
      → Told (Err q) out₁ r out₂ → Printed (report_for text) out₀ r out₂
  told_refusal q p ne r out₂ t =
      let alike = reads_alike text (zeros k) blank (few_room k le) (other_not_4 (code_of q.reason) q.place p.0 ne) in
      prints_refused text (code_of q.reason) q.place (p.0 ∙ alike.reply) out₀ r out₂
      (subst (λ l. Told (Err q) l r out₂) p.1 t)

  -- what was put stays
  told_text : (size : ℕ) → PrintedIn k text out₀ (Ok size) out₁ → (r : ℕ) (out₂ : List ℕ) → Told (Ok size) out₁ r out₂
      → Printed (report_for text) out₀ r out₂
  told_text size p r out₂ t =
      subst (λ l. Printed (report_for text) out₀ r l) (sym t.1)
      (subst (λ i. Printed (report_for text) out₀ i out₁) (sym t.0) p)

  -- an answer that wants no larger arrays is told
  pub told_sheet : (a : Result ℕ Refusal) → PrintedIn k text out₀ a out₁ → wants_room a ≡ false → (r : ℕ) (out₂ : List ℕ)
      → Told a out₁ r out₂ → Printed (report_for text) out₀ r out₂
  told_sheet (Ok size) p e r out₂ t = told_text size p r out₂ t
  told_sheet (Err q) p e r out₂ t = told_refusal q p (eqb-false (code_of q.reason) 4 e) r out₂ t

  -- with the largest each is
  pub told_largest : max_clauses ≤ k → (a : Result ℕ Refusal) → PrintedIn k text out₀ a out₁ → (r : ℕ) (out₂ : List ℕ)
      → Told a out₁ r out₂ → Printed (report_for text) out₀ r out₂
  told_largest most (Ok size) p r out₂ t = told_text size p r out₂ t
  told_largest most (Err q) p r out₂ t =
      told_refusal q p (λ four. most_not_4 text (zeros k) (le_trans most (le_of_eq (sym (blank_room k)))) q.place
      (sym p.0 ∙ ap (λ (c : ℕ). refused c q.place) four)) r out₂ t

  -- one that does want larger arrays leaves the output
  pub room_kept : (a : Result ℕ Refusal) → PrintedIn k text out₀ a out₁ → wants_room a ≡ true → out₁ ≡ out₀
  room_kept (Ok size) p e = absurd (true≢false (sym e))
  room_kept (Err q) p e = p.1
