-- What the parts of the solver promise, and what they require of one another. Assumes nothing.
use Rattle.std.specs.Prelude.{Result, Ok, Err, Bool, false, List, ◌≡◌, ℕ, eqb, replicate}
use Rattle.std.proofs.Math.Option.{some}
use Rattle.point_slices.specs.Slices.{ClauseSlices, SlotSlices, clause_slices}
use Rattle.formula.specs.declared.Formula.{Formula}
use Rattle.formula.specs.Limits.{capacity}
use Rattle.formula.specs.Reasons.{code_of}
use Rattle.formula.specs.declared.reasons.Refusal.{Refusal}
use Rattle.formula.specs.Reply.{refused, unsatisfiable}
use Rattle.dimacs_format.specs.Reader.{read_reply}
use Rattle.search.specs.Search.{search_reply, search_slices}
use Rattle.certificate.specs.Writer.{write_reply, write_output}
use Rattle.solver.specs.declared.Solution.{Solution}
use Rattle.solver.specs.declared.Solution.TheVariants.{Unsatisfiable}
use Rattle.solver.specs.declared.Settled.{Settled}
use Rattle.claims.specs.Claim.{from_text}
use Rattle.solver.specs.Solver.{blank}
use Rattle.solver.specs.Contract.{reply_of_solution, Solved}

-- the answer to a formula that cannot be met, with its certificate
abbrev pub unsatisfiable_with : ℕ → ℕ → Result Solution Refusal
unsatisfiable_with filled size = Ok (Unsatisfiable filled size)

-- a refusal, with no point
abbrev pub refused_with : Refusal → Settled
refused_with r = record { answer = Err r; point = 0 }

-- what was settled, or a refusal with no point
abbrev pub settled_of : Result Settled Refusal → Settled
settled_of (Ok s) = s
settled_of (Err r) = refused_with r

-- a search, with whatever slots lent, refuted the formula and left these
pub record Refuted (f : Formula) (clauses : ClauseSlices) (slots : SlotSlices) (filled : ℕ) : Type 0 where
  pub lent : SlotSlices
  pub reply : search_reply f clauses (capacity lent) ≡ unsatisfiable filled
  pub left : slots ≡ search_slices f clauses lent

-- the certificate of those slots is written, or there is no room for it
pub record Certifies (f : Formula) (clauses : ClauseSlices) (slots : SlotSlices) (filled : ℕ) (out₀ : List ℕ)
    (r : Result Solution Refusal) (out₁ : List ℕ) : Type 0 where
  pub reply : (reply_of_solution 0 r).reply ≡ unsatisfiable filled
  pub certificate : (reply_of_solution 0 r).certificate ≡ some (write_reply f clauses slots filled out₀)
  pub output : out₁ ≡ write_output f clauses slots filled out₀

-- ---- a text read to local arrays

-- arrays for k clauses, 0 throughout
abbrev pub zeros : ℕ → ClauseSlices
zeros k = clause_slices (replicate k 0) (replicate k 0)

-- whether an answer is the refusal of arrays that are too short
abbrev pub wants_room : {A : Type 0} → Result A Refusal → Bool
wants_room (Ok x) = false
wants_room (Err r) = eqb (code_of r.reason) 4

-- the reader, with arrays for k clauses, refuses the text, and all that was lent is as it was
pub record Unread (k : ℕ) (text : List ℕ) (slots₀ : SlotSlices) (out₀ : List ℕ) (r : Refusal) (slots₁ : SlotSlices)
    (out₁ : List ℕ) : Type 0 where
  pub reply : refused (code_of r.reason) r.place ≡ read_reply text (zeros k)
  pub slots : slots₁ ≡ slots₀
  pub output : out₁ ≡ out₀

-- with arrays for k clauses the text is solved, or it is refused
abbrev pub SolvedIn : ℕ → List ℕ → SlotSlices → List ℕ → Result Settled Refusal → SlotSlices → List ℕ → Type 0
SolvedIn k text slots₀ out₀ (Ok s) slots₁ out₁ = Solved (from_text text blank) slots₀ out₀ s slots₁ out₁
SolvedIn k text slots₀ out₀ (Err r) slots₁ out₁ = Unread k text slots₀ out₀ r slots₁ out₁
