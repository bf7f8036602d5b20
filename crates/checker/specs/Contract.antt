-- What `checker::check` promises. Assumes nothing.
use Rattle.std.specs.Prelude.{Result, Ok, Err, List, ◌≡◌, ℕ}
use Rattle.point_slices.specs.Slices.{ClauseSlices}
use Rattle.formula.specs.declared.Formula.{Formula}
use Rattle.formula.specs.declared.reasons.Refusal.{Refusal}
use Rattle.formula.specs.Reasons.{code_of}
use Rattle.formula.specs.Reply.{Reply, refused, accepted}
use Rattle.checker.specs.Checker.{check_reply}

-- F10: what the code's answer says in document 01's terms
unfoldable pub reply_of_verdict : Result Unit Refusal → Reply
reply_of_verdict (Ok passed) = accepted
reply_of_verdict (Err r) = refused (code_of r.reason) r.place

-- G.a: what the checker promises
pub record CheckedAs (f : Formula) (clauses : ClauseSlices) (file : List ℕ) (r : Result Unit Refusal) : Type 0 where
  pub reply : reply_of_verdict r ≡ check_reply f clauses file
