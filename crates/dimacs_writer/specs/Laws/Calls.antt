-- Two calls: what the writer left in the output is handed to the reader, and what that gave is written again. Assumes
-- nothing.
use mathlib.Core.List.{List, [], ◌∷◌}
use Rattle.std.specs.Prelude.{Result, Ok, ◌≡◌, refl, drop}
use Rattle.std.proofs.Math.Path.{sym, ap, ap₂, subst}
use Rattle.std.proofs.Common.{◌∙◌, le_trans, le_of_eq, arith}
use Prim.Native.Nat.{ℕ, ◌≤◌}
use Rattle.std.proofs.Math.ListN.{length, take}
use Rattle.std.proofs.Math.Seq.{take-append_seam}
use Rattle.math.specs.Lists.{over}
use Rattle.point_slices.specs.Slices.{ClauseSlices, clause_room, first_clauses}
use Rattle.formula.specs.declared.Formula.{Formula}
use Rattle.formula.specs.Laws.RefusalLaws.{long_enough}
use Rattle.formula.specs.Laws.ReplyLaws.{first_split, answers-rest}
use Rattle.formula.specs.declared.reasons.Refusal.{Refusal}
use Rattle.formula.specs.Refusals.{formula_fault, room_fault}
use Rattle.formula.specs.Reply.{refused, written, Fault, no_fault, fault, first, unless, unless_kept}
use Rattle.dimacs_format.specs.Laws.Handed.{Handed, accepted_handed}
use Rattle.dimacs_format.specs.Reader.{read_reply, read_formula, read_clauses}
use Rattle.dimacs_format.specs.Text.{max_text}
use Rattle.dimacs_lines.specs.declared.Parsed.{Parsed}
use Rattle.dimacs.specs.Contract.{Read}
use Rattle.dimacs_text.specs.ReadBack.{unused_zero, ReadsBack}
use Rattle.dimacs_text.specs.SheetText.{text_of}
use Rattle.dimacs_text.specs.Writer.{text_fault, text_reply, text_output}
use Rattle.dimacs_text.proofs.RoundTrip.{reads_back, text_again}
use Rattle.certificate_writer.specs.Contract.{reply_of_written}
use Rattle.dimacs_writer.specs.Contract.{WroteSheet}
use Rattle.dimacs_writer.specs.SentBack.{SentBack}
use Rattle.dimacs_writer.specs.Laws.Writing.{eleven_of}

-- ---- what a call of the writer that gave a length left

unless_written : (t : Fault) (k size : ℕ) → written size ≡ unless t (written k) → (t ≡ no_fault) × (size ≡ k)
unfolding unless
unless_written no_fault k size e = (refl, cc)
unless_written (fault code place) k size e = absurd (other e)
  where
    other : written size ≡ refused code place → ⊥
    other e = let z : ◌≡◌ {A = ℕ} 0 1 = cc in omega arith

module _ (f : Formula) (clauses : ClauseSlices) (out : List ℕ) (size : ℕ) (after : List ℕ)
    (wrote : WroteSheet f clauses out (Ok size) after) where
  answered : (text_fault f clauses (length out) ≡ no_fault) × (size ≡ length (text_of f clauses))
  unfolding text_reply reply_of_written
  answered = unless_written (text_fault f clauses (length out)) (length (text_of f clauses)) size wrote.reply

  -- the text stands at the front
  pub text_left : take size after ≡ text_of f clauses
  unfolding text_output over
  text_left =
      let text : List ℕ = text_of f clauses in
      ap₂ (λ (k : ℕ) (l : List ℕ). take k l) answered.1
      (wrote.output ∙ ap (λ t. unless_kept t (over text out) out) answered.0)
      ∙ take-append_seam text (drop (length text) out)

  passed : (formula_fault f clauses ≡ no_fault) × (eleven_of f ≡ no_fault)
  unfolding text_fault
  passed =
      let row19 : Fault = room_fault (length (text_of f clauses)) (length out) in
      let past = first_split (formula_fault f clauses) (eleven_of f ∷ row19 ∷ []) answered.0 in
      (past.0, (first_split (eleven_of f) (row19 ∷ []) past.1).0)

  module _ (slices : ClauseSlices) (small : size ≤ max_text) (room : f.clauses ≤ clause_room slices) where
    short : length (text_of f clauses) ≤ max_text
    short = le_trans (le_of_eq (sym answered.1)) small

    back : ReadsBack f clauses (text_of f clauses) slices
    back = reads_back f clauses slices passed.0 passed.1 short room

    module _ (r : Parsed) (slices₁ : ClauseSlices) (read : Read (take size after) slices r slices₁) where
      -- Q02.3: "Reading it, with rule slices long enough, gives the same sheet (unused exchange bytes 0) and rules, for
      -- each sheet not refused by 10 or 11 whose text is at most 1,048,576 bytes."
      pub sent_back : SentBack f clauses slices r slices₁
      sent_back =
          record {
            reply = read.reply ∙ ap (λ t. read_reply t slices) text_left ∙ back.reply;
            formula = read.formula ∙ ap (λ t. read_formula t slices) text_left ∙ back.formula;
            rules = read.clauses ∙ ap (λ t. read_clauses t slices) text_left ∙ back.rules;
          }

      -- what was read has the same text
      pub same_text : text_of r.formula (first_clauses f.clauses slices₁) ≡ text_of f clauses
      same_text =
          ap₂ text_of (read.formula ∙ ap (λ t. read_formula t slices) text_left)
          (ap (first_clauses f.clauses) (read.clauses ∙ ap (λ t. read_clauses t slices) text_left))
          ∙ text_again f clauses slices passed.0 passed.1 short room

      -- and is refused by neither 10 nor 11
      handed : Handed r.formula (first_clauses f.clauses slices₁)
      unfolding unused_zero
      handed =
          let text : List ℕ = take size after in
          let h = accepted_handed text slices (ap (λ t. read_reply t slices) text_left ∙ back.reply) in
          let same : r.formula.clauses ≡ f.clauses = ap (λ (g : Formula). g.clauses) sent_back.formula in
          subst (λ k. Handed r.formula (first_clauses k slices₁)) same
          (subst (λ (g : Formula). Handed g (first_clauses g.clauses slices₁)) (sym read.formula)
          (subst (λ s. Handed (read_formula text slices) (first_clauses (read_formula text slices).clauses s))
          (sym read.clauses) h))

      module _ (out₂ : List ℕ) (enough : size ≤ length out₂) where
        same_size : length (text_of r.formula (first_clauses f.clauses slices₁)) ≡ size
        same_size = ap length same_text ∙ sym answered.1

        nothing_found : text_fault r.formula (first_clauses f.clauses slices₁) (length out₂) ≡ no_fault
        unfolding text_fault first
        nothing_found =
            let lent : ℕ = length out₂ in
            let needed : ℕ = length (text_of r.formula (first_clauses f.clauses slices₁)) in
            let row10 : Fault = formula_fault r.formula (first_clauses f.clauses slices₁) in
            let row19 : Fault = room_fault needed lent in
            sym (answers-rest no_fault row10 (eleven_of r.formula ∷ row19 ∷ []) handed.ten
            (answers-rest no_fault (eleven_of r.formula) (row19 ∷ []) handed.eleven
            (answers-rest no_fault row19 [] (long_enough needed lent (le_trans (le_of_eq same_size) enough)) refl)))

        -- so that it is written as the same text: written twice is the same
        pub written_again : (answer : Result ℕ Refusal) (after₂ : List ℕ)
            → WroteSheet r.formula (first_clauses f.clauses slices₁) out₂ answer after₂
            → (reply_of_written answer ≡ written size) × (take size after₂ ≡ take size after)
        unfolding text_reply text_output over
        written_again answer after₂ wrote₂ =
            let text : List ℕ = text_of r.formula (first_clauses f.clauses slices₁) in (
              wrote₂.reply ∙ ap₂ (λ (t : Fault) (k : ℕ). unless t (written k)) nothing_found same_size,
              ap₂ (λ (k : ℕ) (l : List ℕ). take k l) (sym same_size)
                  (wrote₂.output ∙ ap (λ t. unless_kept t (over text out₂) out₂) nothing_found)
                  ∙ take-append_seam text (drop (length text) out₂) ∙ same_text ∙ sym text_left,
            )
