-- Laws of the solver: the claim's sentences about what it tells, and one law for each way out of its functions. Assumes
-- nothing.
use Rattle.std.specs.Prelude.{Result, Ok, Err, Bool, true, false, List, ◌≡◌, refl, ℕ, ◌≤◌, ◌<◌, leb, length, take, drop}
use Rattle.std.proofs.Math.Option.{some, none}
use Rattle.std.proofs.Math.Path.{sym, ap}
use Rattle.std.proofs.Common.{◌∙◌, subst, le_trans, le_of_eq, arith, leb-true, leb-false, true≢false}
use borrow.Author.Tests.{eqb-false}
use Rattle.std.proofs.lemmas.List.{length-replicate}
use Rattle.point_slices.specs.Slices.{ClauseSlices, SlotSlices, clause_room, first_clauses}
use Rattle.formula.specs.declared.Formula.{Formula}
use Rattle.formula.specs.Laws.Contracts.{formula_with}
use Rattle.formula.specs.Limits.{max_clauses, capacity}
use Rattle.formula.specs.Reply.{Reply, refused, satisfiable, unsatisfiable, unknown, parsed, written, opened, accepted}
use Rattle.formula.specs.Reply.{point_in}
use Rattle.formula.specs.Reasons.{code_of}
use Rattle.formula.specs.declared.Numbers.{Numbers}
use Rattle.formula.specs.declared.reasons.Refusal.{Refusal}
use Rattle.formula.specs.Laws.ReplyLaws.{written_not_refused, satisfiable-not_refused, unsatisfiable_not_refused}
use Rattle.formula.specs.Laws.ReplyLaws.{unknown_not_refused}
use Rattle.point_slices.specs.Laws.SliceLaws.{points_blank}
use Rattle.dimacs_format.specs.Laws.ReaderLaws.{parsed_accepts}
use Rattle.dimacs_format.specs.Laws.RoomLaws.{reads_alike, stored_room, room_enough}
use Rattle.dimacs_format.specs.Input.{Input, formula_of}
use Rattle.dimacs_format.specs.Reader.{Step, goes, refuses, reply_to, reading, read_reply, read_formula, read_clauses}
use Rattle.dimacs_lines.specs.Laws.ParsedAs.{parsed_in}
use Rattle.dimacs.specs.Contract.{Read}
use Rattle.search.specs.Search.{search_reply, search_slices}
use Rattle.search.specs.Contract.{reply_of_outcome, reply_of_found, Searched}
use Rattle.search.specs.declared.Found.{Found}
use Rattle.search_step.specs.declared.Conclusion.{Conclusion}
use Rattle.search_step.specs.declared.Conclusion.TheVariants.{Unsatisfiable}
use Rattle.certificate.specs.Writer.{length_needed, write_reply, write_output}
use Rattle.checker.specs.Checker.{check_reply}
use Rattle.claims.specs.Claim.{Sheet, from_text, by_value, formula_in, slices_in, problem_in}
use Rattle.claims.specs.Claim.{SearchAnswers, writer_reply, writer_output, Certified}
use Rattle.claims.proofs.Theorem.{claim}
use Rattle.solver.specs.declared.Solution.{Solution}
use Rattle.solver.specs.declared.Solution.TheVariants.{Uncertified}
use Rattle.solver.specs.Solver.{blank, reading_of, after_reading, sheet_reply, sheet_slices, on_refutation}
use Rattle.solver.specs.Solver.{certificate_reply, certificate_output}
use Rattle.solver.specs.declared.Settled.{Settled}
use Rattle.solver.specs.Contract.{SolverReply, reply_of_solution, reply_of_settled, Promises, Solved}
use Rattle.solver.specs.Laws.Steps.{unsatisfiable_with, refused_with, settled_of, Refuted, Certifies}
use Rattle.solver.specs.Laws.Steps.{zeros, wants_room, Unread, SolvedIn}

-- ---- replies that are no refusal

abbrev pub NoRefusal : Reply → Type 0
NoRefusal a = (code place : ℕ) → a ≡ refused code place → ⊥

-- ---- and those that are no refutation

pub satisfiable_differs : {x d j : ℕ} (filled : ℕ) → satisfiable x d j ≡ unsatisfiable filled → ⊥
satisfiable_differs filled e = let z : ◌≡◌ {A = ℕ} 0 1 = cc in omega arith

pub unknown_differs : {b j : ℕ} (filled : ℕ) → unknown b j ≡ unsatisfiable filled → ⊥
unknown_differs filled e = let z : ◌≡◌ {A = ℕ} 0 1 = cc in omega arith

pub refusal_differs : {code place : ℕ} (filled : ℕ) → refused code place ≡ unsatisfiable filled → ⊥
refusal_differs filled e = let z : ◌≡◌ {A = ℕ} 0 1 = cc in omega arith

-- ---- a sheet that is not refused is read, and the builder answers it

read_then : (m : Step Input) (new a : Reply) → after_reading (reply_to m) (reply_to m) new ≡ a → NoRefusal a
    → (reply_to m ≡ parsed) × (new ≡ a)
unfolding reply_to after_reading
read_then (goes d) new a e ok = (refl, e)
read_then (refuses code place) new a e ok = absurd (ok code place (sym e))

pub answered : (s : Sheet) (slots : SlotSlices) (a : Reply) → sheet_reply s (capacity slots) ≡ a → NoRefusal a
    → SearchAnswers s slots a
unfolding sheet_reply read_reply
answered (from_text text clauses) slots a e ok =
    let w = read_then (reading text (clause_room clauses))
    (search_reply (formula_in (from_text text clauses)) (slices_in (from_text text clauses)) (capacity slots)) a e ok in
    record { readable = w.0; reply = w.1; accepted = ok }
answered (by_value f clauses) slots a e ok = record { readable = tt; reply = e; accepted = ok }

-- ---- the certificate is answered for where the sheet cannot be met

refuted_of : (a : Reply) (w : ℕ → Reply) (c : Reply) → on_refutation a none (λ filled. some (w filled)) ≡ some c
    → (filled : ℕ) × (a ≡ unsatisfiable filled) × (w filled ≡ c)
unfolding on_refutation
refuted_of (unsatisfiable filled) w c e = let same : w filled ≡ c = cc in (filled, refl, same)
refuted_of (refused code place) w c e = let z : ◌≡◌ {A = ℕ} 0 1 = cc in absurd (omega arith)
refuted_of (satisfiable x d filled) w c e = let z : ◌≡◌ {A = ℕ} 0 1 = cc in absurd (omega arith)
refuted_of (unknown b filled) w c e = let z : ◌≡◌ {A = ℕ} 0 1 = cc in absurd (omega arith)
refuted_of parsed w c e = let z : ◌≡◌ {A = ℕ} 0 1 = cc in absurd (omega arith)
refuted_of (written size) w c e = let z : ◌≡◌ {A = ℕ} 0 1 = cc in absurd (omega arith)
refuted_of opened w c e = let z : ◌≡◌ {A = ℕ} 0 1 = cc in absurd (omega arith)
refuted_of accepted w c e = let z : ◌≡◌ {A = ℕ} 0 1 = cc in absurd (omega arith)

module _ (s : Sheet) (slots : SlotSlices) (filled : ℕ) (a : SearchAnswers s slots (unsatisfiable filled)) (out : List ℕ)
  where
    abbrev needed : ℕ
    needed = length_needed (problem_in s) filled

    certified : Certified s slots filled needed out
    certified = claim.certified s slots filled a out

    -- a certificate that is written has that length, there was room for it, and it is accepted
    pub written_accepted : (size : ℕ) → writer_reply s slots filled out ≡ written size
        → (size ≤ length out) × (check_reply (formula_in s) (slices_in s)
        (take size (writer_output s slots filled out)) ≡ accepted) × (drop size (writer_output s slots filled out)
        ≡ drop size out)
    written_accepted size e = by (leb needed (length out)) refl
      where
        by : (b : Bool) → leb needed (length out) ≡ b
            → (size ≤ length out) × (check_reply (formula_in s) (slices_in s)
            (take size (writer_output s slots filled out)) ≡ accepted)
            × (drop size (writer_output s slots filled out) ≡ drop size out)
        by false q = absurd (written_not_refused size 19 needed
            (sym e ∙ (certified.too_short (leb-false needed (length out) q)).0))
        by true q =
            let le = leb-true needed (length out) q in
            let both : written size ≡ written needed = sym e ∙ certified.answers le in
            let same : needed ≡ size = cc in
            subst (λ (n : ℕ). (n ≤ length out) × (check_reply (formula_in s) (slices_in s)
            (take n (writer_output s slots filled out)) ≡ accepted) × (drop n (writer_output s slots filled out)
            ≡ drop n out)) same
            (le, certified.checks le, certified.behind le)

    -- the writer refuses for want of room alone, and then leaves the output
    pub refused_short : (code place : ℕ) → writer_reply s slots filled out ≡ refused code place
        → (code ≡ 19) × (length out < place) × (writer_output s slots filled out ≡ out)
    refused_short code place e = by (leb needed (length out)) refl
      where
        by : (b : Bool) → leb needed (length out) ≡ b
            → (code ≡ 19) × (length out < place) × (writer_output s slots filled out ≡ out)
        by false q =
            let lt = leb-false needed (length out) q in
            let both : refused code place ≡ refused 19 needed = sym e ∙ (certified.too_short lt).0 in
            let c : code ≡ 19 = cc in
            let p : needed ≡ place = cc in
            (c, subst (λ (n : ℕ). length out < n) p lt, (certified.too_short lt).1)
        by true q = absurd (written_not_refused needed code place
            (sym (certified.answers (leb-true needed (length out) q)) ∙ e))

-- ---- the claim's sentences, about what is answered

module _ (s : Sheet) (slots : SlotSlices) (t : SolverReply) (out₀ out₁ : List ℕ) (reply : t.reply ≡ sheet_reply s
    (capacity slots))
    (certificate : t.certificate ≡ certificate_reply s slots out₀)
    (output : out₁ ≡ certificate_output s slots out₀) where
  answers : (a : Reply) → t.reply ≡ a → NoRefusal a → SearchAnswers s slots a
  answers a e ok = answered s slots a (sym reply ∙ e) ok

  -- where there is a reply on the certificate, the sheet cannot be met, and the output is the writer's
  certificate_of_lem : (c : Reply) → t.certificate ≡ some c
      → (filled : ℕ) × SearchAnswers s slots (unsatisfiable filled) × (writer_reply s slots filled out₀ ≡ c)
      × (out₁ ≡ writer_output s slots filled out₀)
  unfolding certificate_reply certificate_output
  certificate_of_lem c e =
      let w = refuted_of (sheet_reply s (capacity slots)) (λ filled. writer_reply s slots filled out₀) c (sym certificate
      ∙ e) in (
        w.0,
        answered s slots (unsatisfiable w.0) w.1 unsatisfiable_not_refused,
        w.2,
        output ∙ ap (λ (a : Reply). on_refutation a out₀ (λ filled. writer_output s slots filled out₀)) w.1,
      )

  pub promised : Promises s slots t out₀ out₁
  promised =
      record {
        nearest = λ x d filled e. claim.nearest s slots x d filled (answers (satisfiable x d filled)
            e satisfiable-not_refused);
        exactly = λ ok known. claim.exactly s slots t.reply (answers t.reply refl ok) known;
        certified =
            λ size e.
            let w = certificate_of_lem (written size) e in
            let c = written_accepted s slots w.0 w.1 out₀ size w.2 in (
              subst (λ o. check_reply (formula_in s) (slices_in s) (take size o) ≡ accepted) (sym w.3)
                  c.1,
              subst (λ o. drop size o ≡ drop size out₀) (sym w.3) c.2,
            );
        uncertified =
            λ code place e.
            let w = certificate_of_lem (refused code place) e in
            let c = refused_short s slots w.0 w.1 out₀ code place w.2 in
            (c.0, c.1, w.3 ∙ c.2);
        refutes = claim.refutes (formula_in s) (slices_in s);
        bound = λ b filled e. claim.bound s slots b filled (answers (unknown b filled) e unknown_not_refused);
        enough_room = λ b filled few p q r e. claim.enough_room s slots b filled few p q r
            (answers (unknown b filled) e unknown_not_refused);
        smallest_in_slots = λ x d filled e. claim.smallest_in_slots s slots x d filled
            (answers (satisfiable x d filled) e satisfiable-not_refused);
        smallest = λ x d filled e. claim.smallest s slots x d filled
            (answers (satisfiable x d filled) e satisfiable-not_refused);
      }

-- ---- the certificate of the slots that a search left

module _ (f : Formula) (clauses : ClauseSlices) (slots : SlotSlices) (filled : ℕ) (ok : Refuted f clauses slots filled)
    (out : List ℕ) where
  abbrev sheet : Sheet
  sheet = by_value f clauses

  answer : SearchAnswers sheet ok.lent (unsatisfiable filled)
  answer = record { readable = tt; reply = ok.reply; accepted = unsatisfiable_not_refused }

  same_reply : write_reply f clauses slots filled out
      ≡ writer_reply sheet ok.lent filled out
  same_reply = ap (λ s. write_reply f clauses s filled out) ok.left

  same_output : write_output f clauses slots filled out
      ≡ writer_output sheet ok.lent filled out
  same_output = ap (λ s. write_output f clauses s filled out) ok.left

  module _ (after : List ℕ) (output : after ≡ write_output f clauses slots filled out) where
    -- the checker is handed what it accepts
    pub acceptable : length after ≡ length out → (size : ℕ)
        → written size ≡ write_reply f clauses slots filled out
        → (size ≤ length after) × (check_reply f clauses (take size after) ≡ accepted)
    acceptable long size e =
        let w = written_accepted sheet ok.lent filled answer out size (sym (e ∙ same_reply)) in (
          le_trans w.0 (le_of_eq (sym long)),
          ap (λ o. check_reply f clauses (take size o))
              (output ∙ same_output) ∙ w.1,
        )

    pub certifies : (size : ℕ) (r : Result Solution Refusal) → r ≡ unsatisfiable_with filled size
        → written size ≡ write_reply f clauses slots filled out
        → Certifies f clauses slots filled out r after
    unfolding reply_of_solution
    certifies size r e w =
        record {
          reply = ap (λ (x : Result Solution Refusal). (reply_of_solution 0 x).reply) e;
          certificate = ap
              (λ (x : Result Solution Refusal). (reply_of_solution 0 x).certificate) e ∙ ap some w;
          output = output;
        }

    pub uncertifies : (code place : ℕ)
        → refused code place ≡ write_reply f clauses slots filled out
        → Certifies f clauses slots filled out (Ok (Uncertified filled place)) after
    unfolding reply_of_solution
    uncertifies code place w =
        let short = refused_short sheet ok.lent filled answer out code place (sym (w ∙ same_reply)) in
        record {
          reply = refl;
          certificate = ap (λ (c : ℕ). some (refused c place)) (sym short.0)
              ∙ ap some w;
          output = output;
        }

-- ---- a formula by value

-- what is kept of a reply that is no refutation
kept_of : {A : Type 0} (a : Reply) (kept : A) (new : ℕ → A) → ((filled : ℕ) → a ≡ unsatisfiable filled → ⊥)
    → on_refutation a kept new ≡ kept
unfolding on_refutation
kept_of (unsatisfiable filled) kept new ne = absurd (ne filled refl)
kept_of (refused code place) kept new ne = refl
kept_of (satisfiable x d filled) kept new ne = refl
kept_of (unknown b filled) kept new ne = refl
kept_of parsed kept new ne = refl
kept_of (written size) kept new ne = refl
kept_of opened kept new ne = refl
kept_of accepted kept new ne = refl

-- a search that refutes leaves slots of which a certificate can be written
pub refuted : (f : Formula) (clauses : ClauseSlices) (slots₀ : SlotSlices) (found : Found) (slots₁ : SlotSlices)
    → Searched f clauses slots₀ found slots₁ → (filled : ℕ) → found.answer ≡ Ok (Unsatisfiable filled)
    → Refuted f clauses slots₁ filled
refuted f clauses slots₀ found slots₁ call filled e =
    record {
      lent = slots₀;
      reply = sym call.reply ∙ ap (reply_of_outcome found.point) e;
      left = call.slots;
    }

-- the point that goes with a reply that has one is the reply's; with any other it is 0
module _ (f : Formula) (clauses : ClauseSlices) (slots₀ : SlotSlices) (out : List ℕ) (found : Found)
    (slots₁ : SlotSlices) (call : Searched f clauses slots₀ found slots₁) where
  abbrev by_value-sheet : Sheet
  by_value-sheet = by_value f clauses

  reply_is : sheet_reply by_value-sheet (capacity slots₀) ≡ reply_of_found found
  unfolding sheet_reply
  reply_is = sym call.reply

  slots_are : slots₁ ≡ sheet_slices by_value-sheet slots₀
  unfolding sheet_slices
  slots_are = call.slots

  point_is : found.point ≡ point_in (sheet_reply by_value-sheet (capacity slots₀))
  unfolding sheet_reply
  point_is = call.point

  -- a search that refutes nothing leaves the output
  pub solves : (q : Result Conclusion Refusal) (r : Result Solution Refusal) → found.answer ≡ q
      → (reply_of_solution found.point r).reply ≡ reply_of_outcome found.point q
      → (reply_of_solution found.point r).certificate ≡ none
      → ((filled : ℕ) → reply_of_outcome found.point q ≡ unsatisfiable filled → ⊥)
      → Solved by_value-sheet slots₀ out (record { answer = r; point = found.point }) slots₁ out
  unfolding certificate_reply certificate_output
  solves q r same e n ne =
      let said : sheet_reply by_value-sheet (capacity slots₀) ≡ reply_of_outcome found.point q = reply_is
      ∙ ap (reply_of_outcome found.point) same in
      let reply = e ∙ sym said in
      let known : (filled : ℕ) → sheet_reply by_value-sheet (capacity slots₀) ≡ unsatisfiable filled
      → ⊥ = λ filled h. ne filled (sym said ∙ h) in
      let certificate = n ∙ sym (kept_of (sheet_reply by_value-sheet (capacity slots₀)) none
      (λ filled. some (writer_reply by_value-sheet slots₀ filled out)) known) in
      let output = sym (kept_of (sheet_reply by_value-sheet (capacity slots₀)) out
      (λ filled. writer_output by_value-sheet slots₀ filled out) known) in
      record {
        reply = reply;
        certificate = certificate;
        point = point_is;
        slots = slots_are;
        output = output;
        promises = promised by_value-sheet slots₀ (reply_of_solution found.point r) out out reply certificate output;
      }

  module _ (filled : ℕ) (refutation : found.answer ≡ Ok (Unsatisfiable filled)) where
    abbrev slots_refuted : Refuted f clauses slots₁ filled
    slots_refuted = refuted f clauses slots₀ found slots₁ call filled refutation

    pub solves_refuted : (r : Result Solution Refusal) (out₁ : List ℕ) → Certifies f clauses slots₁ filled out r out₁
        → Solved by_value-sheet slots₀ out (record { answer = r; point = 0 }) slots₁ out₁
    unfolding certificate_reply certificate_output refuted point_in
    solves_refuted r out₁ c =
        let now_refuted : sheet_reply by_value-sheet (capacity slots₀) ≡ unsatisfiable filled = reply_is
        ∙ ap (reply_of_outcome found.point) refutation in
        let reply = c.reply ∙ sym now_refuted in
        let certificate : (reply_of_solution 0 r).certificate ≡ certificate_reply by_value-sheet slots₀ out =
        c.certificate ∙ ap some (same_reply f clauses slots₁ filled slots_refuted out)
        ∙ ap (λ (a : Reply). on_refutation a none (λ filled. some (writer_reply by_value-sheet slots₀ filled out)))
        (sym now_refuted) in
        let output : out₁ ≡ certificate_output by_value-sheet slots₀ out =
        c.output ∙ same_output f clauses slots₁ filled slots_refuted out
        ∙ ap (λ (a : Reply). on_refutation a out (λ filled. writer_output by_value-sheet slots₀ filled out))
        (sym now_refuted) in
        record {
          reply = reply;
          certificate = certificate;
          point = ap point_in (sym now_refuted);
          slots = slots_are;
          output = output;
          promises = promised by_value-sheet slots₀ (reply_of_solution 0 r) out out₁ reply certificate output;
        }

-- ---- sheets that say the same are solved alike

module _ (s t : Sheet) (reading_same : reading_of s ≡ reading_of t) (formula_same : formula_in s ≡ formula_in t)
    (clauses_same : slices_in s ≡ slices_in t) (slots₀ : SlotSlices) (out : List ℕ) where
  abbrev lent : ℕ
  lent = capacity slots₀

  same_answer : sheet_reply s lent ≡ sheet_reply t lent
  unfolding sheet_reply
  same_answer = λ i. after_reading (reading_same i) (reading_same i)
      (search_reply (formula_same i) (clauses_same i) lent)

  same_slots : sheet_slices s slots₀ ≡ sheet_slices t slots₀
  unfolding sheet_slices
  same_slots = λ i. after_reading (reading_same i) slots₀ (search_slices (formula_same i) (clauses_same i) slots₀)

  same_certificate : certificate_reply s slots₀ out ≡ certificate_reply t slots₀ out
  unfolding certificate_reply
  same_certificate = λ i. on_refutation (same_answer i) none (λ filled. some (write_reply (formula_same i)
      (clauses_same i) (search_slices (formula_same i) (clauses_same i) slots₀) filled out))

  same_put : certificate_output s slots₀ out ≡ certificate_output t slots₀ out
  unfolding certificate_output
  same_put = λ i. on_refutation (same_answer i) out (λ filled. write_output (formula_same i)
      (clauses_same i) (search_slices (formula_same i) (clauses_same i) slots₀) filled out)

  pub solved_alike : (r : Settled) (slots₁ : SlotSlices) (out₁ : List ℕ) → Solved s slots₀ out r slots₁ out₁
      → Solved t slots₀ out r slots₁ out₁
  solved_alike r slots₁ out₁ v =
      let reply = v.reply ∙ same_answer in
      let certificate = v.certificate ∙ same_certificate in
      let output = v.output ∙ same_put in
      record {
        reply = reply;
        certificate = certificate;
        point = v.point ∙ ap point_in same_answer;
        slots = v.slots ∙ same_slots;
        output = output;
        promises = promised t slots₀ (reply_of_settled r) out out₁ reply certificate output;
      }

-- ---- a text

module _ (text : List ℕ) (clauses₀ : ClauseSlices) (slots₀ : SlotSlices) (out : List ℕ) where
  abbrev read_sheet : Sheet
  read_sheet = from_text text clauses₀

  -- a text that is refused leaves everything
  refused_solved : (r : Refusal) → refused (code_of r.reason) r.place ≡ read_reply text clauses₀
      → Solved read_sheet slots₀ out (refused_with r) slots₀ out
  unfolding reply_of_solution sheet_reply sheet_slices certificate_reply certificate_output point_in
  refused_solved r e =
      let reply : refused (code_of r.reason) r.place ≡ sheet_reply read_sheet (capacity slots₀) =
      ap (λ (a : Reply). after_reading a a (search_reply (formula_in read_sheet) (slices_in read_sheet)
      (capacity slots₀))) e in
      let certificate : none ≡ certificate_reply read_sheet slots₀ out = ap
      (λ (a : Reply). on_refutation a none (λ filled. some (writer_reply read_sheet slots₀ filled out))) reply in
      let output : out ≡ certificate_output read_sheet slots₀ out = ap
      (λ (a : Reply). on_refutation a out (λ filled. writer_output read_sheet slots₀ filled out)) reply in
      record {
        reply = reply;
        certificate = certificate;
        point = ap point_in reply;
        slots = ap (λ (a : Reply). after_reading a slots₀
            (search_slices (formula_in read_sheet) (slices_in read_sheet) slots₀)) e;
        output = output;
        promises = promised read_sheet slots₀ (reply_of_solution 0 (Err r)) out out reply certificate output;
      }

  -- the formula and the clauses that a text yields are solved as the text is
  solves_read : parsed ≡ read_reply text clauses₀ → (r : Settled) (slots₁ : SlotSlices) (out₁ : List ℕ)
      (f : Formula) (clauses₁ : ClauseSlices) → f ≡ read_formula text clauses₀ → clauses₁ ≡ read_clauses text clauses₀
      → Solved (by_value f (first_clauses f.clauses clauses₁)) slots₀ out r slots₁ out₁
      → Solved read_sheet slots₀ out r slots₁ out₁
  solves_read e r slots₁ out₁ f clauses₁ ef ec solved =
      solved_alike (by_value f (first_clauses f.clauses clauses₁)) read_sheet e ef
      (λ i. first_clauses (ef i).clauses (ec i)) slots₀ out r slots₁ out₁ solved

-- the slices as the reader leaves them have room for the text's clauses
pub clauses_held : (text : List ℕ) (clauses₀ : ClauseSlices) → parsed ≡ read_reply text clauses₀ → (f : Formula)
    → f ≡ read_formula text clauses₀ → (clauses₁ : ClauseSlices) → clauses₁ ≡ read_clauses text clauses₀
    → f.clauses ≤ clause_room clauses₁
unfolding formula_of
clauses_held text clauses₀ e f ef clauses₁ ec =
    let w = parsed_accepts text clauses₀ (sym e) in
    let cs = w.0.clauses in
    subst (λ (g : Formula). g.clauses ≤ clause_room clauses₁) (sym (ef ∙ w.2.formula))
    (subst (λ (l : ClauseSlices). length cs ≤ clause_room l) (sym (ec ∙ w.2.clauses)) (stored_room clauses₀ cs))

-- a text that smaller slices take is solved as it is with larger ones
solves_few : (text : List ℕ) (few more : ClauseSlices) → clause_room few ≤ clause_room more
    → ((place : ℕ) → read_reply text few ≡ refused 4 place → ⊥) → (slots₀ : SlotSlices) (out : List ℕ) (r : Settled)
    (slots₁ : SlotSlices) (out₁ : List ℕ) → Solved (from_text text few) slots₀ out r slots₁ out₁
    → Solved (from_text text more) slots₀ out r slots₁ out₁
solves_few text few more le not-4 slots₀ out r slots₁ out₁ v =
    let a = reads_alike text few more le not-4 in
    solved_alike (from_text text few) (from_text text more) a.reply a.formula a.first_clauses_lem slots₀ out r
    slots₁ out₁ v

-- ---- a text read to local arrays

-- they have room for so many
pub blank_room : (k : ℕ) → clause_room (zeros k) ≡ k
blank_room k = rw (points_blank k, length-replicate {A = ℕ} k 0) (omega arith)

-- those for no more clauses than the most are no larger than the blank ones
pub few_room : (k : ℕ) → k ≤ max_clauses → clause_room (zeros k) ≤ clause_room blank
unfolding blank
few_room k le =
    rw (points_blank k, length-replicate {A = ℕ} k 0, length-replicate {A = ℕ} max_clauses 0)
    (omega arith)

-- what is accepted, or refused by another number, is not refused by 4
pub parsed_not_4 : {a : Reply} → parsed ≡ a → (place : ℕ) → a ≡ refused 4 place → ⊥
parsed_not_4 e place h = let both : parsed ≡ refused 4 place = e ∙ h in let z : ◌≡◌ {A = ℕ} 0 1 = cc in omega arith

pub other_not_4 : {a : Reply} (code place : ℕ) → refused code place ≡ a → (code ≡ 4 → ⊥) → (place' : ℕ)
    → a ≡ refused 4 place' → ⊥
other_not_4 code place e ne place' h =
    let both : refused code place ≡ refused 4 place' = e ∙ h in let same : code ≡ 4 = cc in ne same

-- no text has more clauses than the most
pub most_not_4 : (text : List ℕ) (clauses : ClauseSlices) → max_clauses ≤ clause_room clauses → (place : ℕ)
    → read_reply text clauses ≡ refused 4 place → ⊥
unfolding read_reply reply_to
most_not_4 text clauses le place h = by (reading text (clause_room clauses)) refl h
  where
    by : (r : Step Input) → reading text (clause_room clauses) ≡ r → reply_to r ≡ refused 4 place → ⊥
    by (goes d) e h = parsed_not_4 refl place h
    by (refuses code at) e h =
        let same : code ≡ 4 = cc in
        let there : at ≡ place = cc in
        room_enough text (clause_room clauses) le place (e ∙ λ i. refuses (same i) (there i))

module _ (text : List ℕ) (k : ℕ) where
  -- a text that is read: its clauses stand in the arrays
  pub read_held : (f : Numbers) (images : List ℕ) (clauses₁ : ClauseSlices)
      → Read text (zeros k) (parsed_in (Ok f) images) clauses₁ → f.clauses ≤ clause_room clauses₁
  read_held f images clauses₁ call =
      clauses_held text (zeros k) call.reply (formula_with f images) call.formula clauses₁ call.clauses

  -- arrays for the most clauses are never too short
  most_held : max_clauses ≤ k → {slots₀ slots₁ : SlotSlices} {out₀ out₁ : List ℕ} (r : Refusal)
      → Unread k text slots₀ out₀ r slots₁ out₁ → code_of r.reason ≡ 4 → ⊥
  most_held le r u four = most_not_4 text (zeros k) (le_trans le (le_of_eq (sym (blank_room k)))) r.place
      (sym u.reply ∙ ap (λ (c : ℕ). refused c r.place) four)

  module _ (le : k ≤ max_clauses) {slots₀ slots₁ : SlotSlices} {out₀ out₁ : List ℕ} where
    -- what is read is solved as it is with arrays for the most clauses
    pub read_solved : (f : Numbers) (images : List ℕ) (clauses₁ : ClauseSlices)
        → Read text (zeros k) (parsed_in (Ok f) images) clauses₁ → (s : Settled)
        → Solved (by_value (formula_with f images) (first_clauses f.clauses clauses₁)) slots₀ out₀ s slots₁ out₁
        → Solved (from_text text blank) slots₀ out₀ s slots₁ out₁
    read_solved f images clauses₁ call s solved =
        solves_few text (zeros k) blank (few_room k le) (parsed_not_4 call.reply) slots₀ out₀ s slots₁ out₁
        (solves_read text (zeros k) slots₀ out₀ call.reply s slots₁ out₁ (formula_with f images) clauses₁
        call.formula call.clauses solved)

    -- and so is a refusal that is no want of room
    refusal_solved : (r : Refusal) → Unread k text slots₀ out₀ r slots₁ out₁ → (code_of r.reason ≡ 4 → ⊥)
        → Solved (from_text text blank) slots₀ out₀ (refused_with r) slots₁ out₁
    refusal_solved r u ne =
        subst (λ s. Solved (from_text text blank) slots₀ out₀ (refused_with r) s out₁) (sym u.slots)
        (subst (λ o. Solved (from_text text blank) slots₀ out₀ (refused_with r) slots₀ o) (sym u.output)
        (solves_few text (zeros k) blank (few_room k le) (other_not_4 (code_of r.reason) r.place u.reply ne) slots₀ out₀
        (refused_with r) slots₀ out₀ (refused_solved text (zeros k) slots₀ out₀ r u.reply)))

    -- an answer that wants no larger arrays is that with the largest
    pub settled_solved : (a : Result Settled Refusal) → SolvedIn k text slots₀ out₀ a slots₁ out₁
        → wants_room a ≡ false → Solved (from_text text blank) slots₀ out₀ (settled_of a) slots₁ out₁
    settled_solved (Ok s) solved e = solved
    settled_solved (Err r) u e = refusal_solved r u (λ four. eqb-false (code_of r.reason) 4 e four)

    -- with the largest each is
    pub largest_solved : max_clauses ≤ k → (a : Result Settled Refusal) → SolvedIn k text slots₀ out₀ a slots₁ out₁
        → Solved (from_text text blank) slots₀ out₀ (settled_of a) slots₁ out₁
    largest_solved most (Ok s) solved = solved
    largest_solved most (Err r) u = refusal_solved r u (most_held most r u)

  -- one that does leaves everything
  pub room_kept : {slots₀ slots₁ : SlotSlices} {out₀ out₁ : List ℕ} (a : Result Settled Refusal)
      → SolvedIn k text slots₀ out₀ a slots₁ out₁ → wants_room a ≡ true → (slots₁ ≡ slots₀) × (out₁ ≡ out₀)
  room_kept (Ok s) solved e = absurd (true≢false (sym e))
  room_kept (Err r) u e = (u.slots, u.output)

-- what is solved from slots and an output that are as they were is solved from those
pub kept_solved : (text : List ℕ) {slots₀ slots₁ slots₂ : SlotSlices} {out₀ out₁ out₂ : List ℕ} (s : Settled)
    → (slots₁ ≡ slots₀) × (out₁ ≡ out₀) → Solved (from_text text blank) slots₁ out₁ s slots₂ out₂
    → Solved (from_text text blank) slots₀ out₀ s slots₂ out₂
kept_solved text {slots₀} {slots₁} {slots₂} {out₀} {out₁} {out₂} s kept solved =
    subst (λ o. Solved (from_text text blank) slots₀ o s slots₂ out₂) kept.1
    (subst (λ l. Solved (from_text text blank) l out₁ s slots₂ out₂) kept.0 solved)
