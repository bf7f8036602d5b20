-- F10: "a definition gives this paper's number and values for each of its cases": what a search that is not refused comes
-- to, in document 01's terms. Assumes nothing.
use Rattle.std.specs.Prelude.{ℕ}
use Rattle.formula.specs.Reply.{Reply, satisfiable, unsatisfiable, unknown}
use Rattle.search_step.specs.declared.Conclusion.{Conclusion}
use Rattle.search_step.specs.declared.Conclusion.TheVariants.{Satisfiable, Unsatisfiable, Unknown}

-- what a conclusion says, beside the point x that is handed back
abbrev pub reply_of_conclusion : ℕ → Conclusion → Reply
reply_of_conclusion x (Satisfiable d filled) = satisfiable x d filled
reply_of_conclusion x (Unsatisfiable filled) = unsatisfiable filled
reply_of_conclusion x (Unknown b filled) = unknown b filled
