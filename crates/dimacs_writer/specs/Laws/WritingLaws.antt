-- Laws of the writer: the room for each part of a text, and one law for each way out. Assumes nothing.
use mathlib.Core.List.{List, [], ◌∷◌, ◌++◌, flat_map}
use Rattle.std.specs.Prelude.{Result, Ok, Err, ◌≡◌, ℕ, ◌+◌, ◌*◌, ◌≤◌, length}
use Rattle.std.proofs.Math.Path.{sym, ap}
use Rattle.std.proofs.Common.{◌∙◌, le_trans, arith}
use Rattle.std.specs.Int.Bits.{or_lt}
use Rattle.points.specs.Points.{listed}
use Rattle.permutation_theory.specs.Permutations.{Permutation, permutations_in}
use Rattle.permutation_images.specs.Laws.LoopLaws.{length-permutations}
use Rattle.point_slices.specs.Slices.{ClauseSlices, clauses_of}
use Rattle.formula.specs.declared.Formula.{Formula}
use Rattle.formula.specs.declared.reasons.Refusal.{Refusal}
use Rattle.formula.specs.Laws.RefusalLaws.{formula_passes, permutation_passes, passes_few, images_room, fits_count}
use Rattle.formula.specs.Laws.RefusalLaws.{long_enough, room_passes}
use Rattle.formula.specs.Laws.ReplyLaws.{IsFault, answers-first, answers-rest, first_last, first_split}
use Rattle.formula.specs.Limits.{max_variables, max_clauses, max_permutations, max_images}
use Rattle.formula.specs.Refusals.{formula_fault, room_fault, refusal_fault}
use Rattle.formula.specs.Reply.{Fault, no_fault, fault, first, written}
use Rattle.dimacs_format.specs.Text.{ascii}
use Rattle.text_output.specs.Decimal.{line, line_end}
use Rattle.text_output.specs.Laws.Putting.{places_end, Put, put_both, put_as, put_over}
use Rattle.dimacs_text.specs.SheetText.{target_line, input_in, text_of}
use Rattle.dimacs_text.specs.Writer.{text_fault, text_reply, text_output}
use Rattle.dimacs_text.proofs.RoundTrip.{input_proper}
use Rattle.dimacs_text.specs.Laws.TextParts.{permutation_part, clause_part, sheet_parts, sheet_parts_lem}
use Rattle.dimacs_text.specs.Laws.LengthLaws.{problem-length, target_length, permutations-length, longest_clause}
use Rattle.dimacs_text.specs.Laws.LengthLaws.{longest_sheet}
use Rattle.dimacs_text.proofs.ClauseLines.{sheet-length}
use Rattle.dimacs_output.specs.Laws.LinePutting.{longest_images, ListedWithin, AllPermutations}
use Rattle.certificate_writer.specs.Contract.{reply_of_written}
use Rattle.dimacs_writer.specs.Contract.{WroteSheet}
use Rattle.dimacs_writer.specs.Laws.Writing.{eleven_of, Writable}

module _ (f : Formula) (clauses : ClauseSlices) where
  abbrev permutations : List Permutation
  permutations = permutations_in f.variables f.permutations f.images

  -- ---- what each part of the text requires

  module _ (w : Writable f clauses) where
    pub few_variables : f.variables ≤ max_variables
    few_variables = (formula_passes f clauses w.ten).0.few_variables

    pub some-variable : 1 ≤ f.variables
    some-variable = (formula_passes f clauses w.ten).0.some-variable

    counted : length (clauses_of clauses) ≡ f.clauses
    counted = fits_count f.variables f.clauses clauses (formula_passes f clauses w.ten).0

    few_clauses_lem : f.clauses ≤ max_clauses
    few_clauses_lem = (formula_passes f clauses w.ten).0.few_clauses_lem

    few_permutations_lem : f.permutations ≤ max_permutations
    few_permutations_lem = passes_few f.variables f.permutations f.images w.eleven

    pub images_held_lem : f.permutations * f.variables ≤ length f.images
    images_held_lem = images_room f clauses few_variables w.places few_permutations_lem

    pub all-permutations : AllPermutations f.variables permutations
    all-permutations = (permutation_passes f.variables permutations w.eleven).1

    pub listed_within : ListedWithin f.variables (clauses_of clauses)
    unfolding listed
    listed_within c m =
        let b = (input_proper f clauses w.ten w.eleven).clauses c m in
        or_lt f.variables c.positive c.negative b.0 b.1

    -- the room for the lines that precede each part, and for it
    pub problem_room : 0 + length (line (ascii "p cnf ") f.variables (ascii " ") f.clauses) ≤ places_end
    problem_room = omega (arith, problem-length f.variables f.clauses few_variables few_clauses_lem)

    module _ {out out₁ : List ℕ} {first : ℕ}
        (p : Put 0 (line (ascii "p cnf ") f.variables (ascii " ") f.clauses) out first out₁) where
      first_most : first ≤ 14
      first_most = omega (arith, p.behind, problem-length f.variables f.clauses few_variables few_clauses_lem)

      pub target_room : first + (f.variables + 8) ≤ places_end
      target_room = omega (arith, first_most, few_variables)

      module _ {out₂ : List ℕ} {second : ℕ}
          (q : Put first (target_line f.variables f.target ++ line_end) out₁ second out₂) where
        second_most : second ≤ 14 + (max_variables + 8)
        second_most = omega (
          arith,
          first_most,
          q.behind,
          target_length f.variables f.target,
          few_variables,
        )

        pub permutations_room : second + f.permutations * longest_images ≤ places_end
        permutations_room = omega (arith, second_most, few_permutations_lem)

        module _ {out₃ : List ℕ} {third : ℕ}
            (r : Put second (flat_map permutation_part permutations) out₂ third out₃) where
          pub clauses_room : third + length (clauses_of clauses) * longest_clause ≤ places_end
          clauses_room =
              omega (
                arith,
                second_most,
                r.behind,
                permutations-length f.variables permutations some-variable few_variables all-permutations,
                length-permutations f.variables f.permutations f.images,
                few_permutations_lem,
                counted,
                few_clauses_lem,
              )

          -- all parts are the text
          pub sheet_put : {out₄ : List ℕ} {last : ℕ}
              → Put third (flat_map (clause_part f.variables) (clauses_of clauses)) out₃ last out₄
              → Put 0 (text_of f clauses) out last out₄
          unfolding text_of
          sheet_put s =
              put_as (ap (λ m. sheet_parts f.variables m f.target permutations (clauses_of clauses)) (sym counted)
              ∙ sym (sheet_parts_lem (input_in f clauses))) (put_both (put_both (put_both p q) r) s)

    -- ---- row 19

    -- an output that no text exceeds
    pub room_longest : (lent : ℕ) → longest_sheet ≤ lent → no_fault ≡ room_fault (length (text_of f clauses)) lent
    unfolding text_of
    room_longest lent enough =
        sym (long_enough (length (text_of f clauses)) lent
        (le_trans (sheet-length (input_in f clauses) (input_proper f clauses w.ten w.eleven)) enough))

  -- ---- the tests in order

  -- row 19, and the rows behind row 10
  abbrev row19 : ℕ → Fault
  row19 lent = room_fault (length (text_of f clauses)) lent

  abbrev past10 : ℕ → List Fault
  past10 lent = eleven_of f ∷ row19 lent ∷ []

  module _ (lent : ℕ) (r : Fault) where
    pub stops_10 : r ≡ formula_fault f clauses → IsFault r → r ≡ text_fault f clauses lent
    unfolding text_fault
    stops_10 e h = answers-first r (formula_fault f clauses) (past10 lent) e h

    module _ (ten : formula_fault f clauses ≡ no_fault) where
      pub stops_11 : r ≡ eleven_of f → IsFault r → r ≡ text_fault f clauses lent
      unfolding text_fault
      stops_11 e h = answers-rest r (formula_fault f clauses) (past10 lent) ten
          (answers-first r (eleven_of f) (row19 lent ∷ []) e h)

      pub ends_19 : eleven_of f ≡ no_fault → r ≡ row19 lent → r ≡ text_fault f clauses lent
      unfolding text_fault
      ends_19 eleven e =
          answers-rest r (formula_fault f clauses) (past10 lent) ten (answers-rest r (eleven_of f) (row19 lent ∷ [])
          eleven (e ∙ sym (first_last (row19 lent))))

  -- ---- the ways out

  module _ (out : List ℕ) where
    -- N1: "Every row leaves all lent slices unchanged"
    pub wrote_faulty : (r : Refusal) → refusal_fault r ≡ text_fault f clauses (length out)
        → WroteSheet f clauses out (Err r) out
    unfolding text_reply text_output text_fault reply_of_written
    wrote_faulty r tested = record { reply = rw (sym tested); output = rw (sym tested) }

    module _ (passed : no_fault ≡ text_fault f clauses (length out)) where
      nothing_found : text_fault f clauses (length out) ≡ no_fault
      nothing_found = sym passed

      past_10 : (formula_fault f clauses ≡ no_fault) × (first (past10 (length out)) ≡ no_fault)
      unfolding text_fault
      past_10 = first_split (formula_fault f clauses) (past10 (length out)) nothing_found

      past_11 : (eleven_of f ≡ no_fault) × (first (row19 (length out) ∷ []) ≡ no_fault)
      past_11 = first_split (eleven_of f) (row19 (length out) ∷ []) past_10.1

      -- what the text requires
      pub writable_of : length f.images ≡ max_images → Writable f clauses
      writable_of places = record { ten = past_10.0; eleven = past_11.0; places = places }

      room : length (text_of f clauses) ≤ length out
      room = room_passes (length (text_of f clauses)) (length out) (sym (first_last (row19 (length out))) ∙ past_11.1)

      pub wrote_all : {size : ℕ} {after : List ℕ} → Put 0 (text_of f clauses) out size after
          → WroteSheet f clauses out (Ok size) after
      unfolding text_reply text_output text_fault reply_of_written
      wrote_all {size} {after} p =
          let w = put_over (text_of f clauses) out size after room p in
          record { reply = ap written w.0 ∙ rw nothing_found; output = w.1 ∙ rw nothing_found }
