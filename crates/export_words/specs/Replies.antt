-- Answers that are not one of document 01's replies alone, as words of a lent slice. Assumes nothing.
use Rattle.std.specs.Prelude.{Result, Ok, Err, List, [], ◌∷◌, ℕ}
use Rattle.std.proofs.Math.Option.{Option, some, none}
use Rattle.certificate.specs.Certificate.{FileContents}
use Rattle.formula.specs.Reasons.{code_of}
use Rattle.formula.specs.declared.reasons.Refusal.{Refusal}
use Rattle.solver.specs.declared.Settled.{Settled}
use Rattle.solver.specs.declared.Solution.{Solution}
use Rattle.solver.specs.declared.Solution.TheVariants.{Satisfiable, Unsatisfiable, Uncertified, Unknown}

-- an entry of a body as two words: 1 and its value, or 0 and 0 where it lies outside the body
unfoldable pub entry_words : Option ℕ → List ℕ
entry_words (some x) = 1 ∷ x ∷ []
entry_words none = 0 ∷ 0 ∷ []

-- C1: the eight numbers of a file's contents in their order; no words where there are no contents
unfoldable pub contents_words : Option FileContents → List ℕ
contents_words (some c) = c.variables ∷ c.clauses ∷ c.permutations ∷ c.permutations_at ∷ c.points ∷ c.points_at
    ∷ c.numbers ∷ c.numbers_at ∷ []
contents_words none = []

-- F10: the solver's answer as four words. As the search tells it: 1, the point, its distance, slots filled; 3, the
-- bound, slots filled, 0; 0, a refusal's number and place, 0. Beside these 8, slots filled, the size of the certificate
-- written, 0; and 9, slots filled, the size needed for it, 0.
unfoldable pub solution_words : ℕ → Result Solution Refusal → List ℕ
solution_words x (Ok (Satisfiable d filled)) = 1 ∷ x ∷ d ∷ filled ∷ []
solution_words x (Ok (Unsatisfiable filled size)) = 8 ∷ filled ∷ size ∷ 0 ∷ []
solution_words x (Ok (Uncertified filled needed)) = 9 ∷ filled ∷ needed ∷ 0 ∷ []
solution_words x (Ok (Unknown b filled)) = 3 ∷ b ∷ filled ∷ 0 ∷ []
solution_words x (Err r) = 0 ∷ code_of r.reason ∷ r.place ∷ 0 ∷ []

abbrev pub settled_words : Settled → List ℕ
settled_words r = solution_words r.point r.answer
