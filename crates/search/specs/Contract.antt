-- What `search::search` promises. Assumes nothing.
use Rattle.std.specs.Prelude.{◌≡◌, ℕ, Result, Ok, Err}
use Rattle.point_slices.specs.Slices.{ClauseSlices, SlotSlices}
use Rattle.formula.specs.declared.Formula.{Formula}
use Rattle.formula.specs.Limits.{capacity}
use Rattle.formula.specs.Reply.{Reply, refused, point_in}
use Rattle.formula.specs.declared.reasons.Refusal.{Refusal}
use Rattle.formula.specs.Reasons.{code_of}
use Rattle.search_step.specs.Conclusions.{reply_of_conclusion}
use Rattle.search_step.specs.declared.Conclusion.{Conclusion}
use Rattle.search.specs.Search.{search_reply, search_slices}
use Rattle.search.specs.declared.Found.{Found}

-- F10: what the code's answer says in document 01's terms, beside the point x
abbrev pub reply_of_outcome : ℕ → Result Conclusion Refusal → Reply
reply_of_outcome x (Ok c) = reply_of_conclusion x c
reply_of_outcome x (Err r) = refused (code_of r.reason) r.place

-- the same with the point that stands beside it
abbrev pub reply_of_found : Found → Reply
reply_of_found r = reply_of_outcome r.point r.answer

-- G.a, D2.2: "The builder's answer and slots are those of the walk in 01.": the answer with its point, and the slots as
-- it returns
pub record Searched (f : Formula) (clauses : ClauseSlices) (slots₀ : SlotSlices) (r : Found) (slots₁ : SlotSlices)
    : Type 0 where
  pub reply : reply_of_found r ≡ search_reply f clauses (capacity slots₀)
  pub point : r.point ≡ point_in (search_reply f clauses (capacity slots₀))
  pub slots : slots₁ ≡ search_slices f clauses slots₀
