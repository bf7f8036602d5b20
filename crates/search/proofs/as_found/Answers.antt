-- `search::as_found` meets its contract: a point is handed back where one was found, and else none. Assumes nothing.
use Rattle.std.proofs.Common.{◌≡◌, ℕ, refl, sym, ap}
use Rattle.formula.specs.Reply.{point_in}
use Rattle.search_step.specs.declared.Conclusion.{Conclusion}
use Rattle.search_step.specs.declared.Conclusion.TheVariants.{Satisfiable, Unsatisfiable, Unknown}
use Rattle.search_step.specs.Conclusions.{reply_of_conclusion}
use Rattle.search.proofs.as_found.Goals as goal

-- the reply of another conclusion than 'satisfiable' hands back no point, whichever stands beside it
none_in : (x : ℕ) (c : Conclusion) → ((d filled : ℕ) → c ≡ Satisfiable d filled → ⊥)
    → (reply_of_conclusion 0 c ≡ reply_of_conclusion x c) × (0 ≡ point_in (reply_of_conclusion x c))
unfolding point_in
none_in x (Satisfiable d filled) other = absurd (other d filled refl)
none_in x (Unsatisfiable filled) other = (refl, refl)
none_in x (Unknown b filled) other = (refl, refl)

pub returns-in-Satisfiable : goal.returns-in-Satisfiable
unfolding point_in
returns-in-Satisfiable c = (refl, sym (ap (λ o. point_in (reply_of_conclusion c.args.a.point o)) c.in-Satisfiable.is))

pub returns-in_default : goal.returns-in_default
returns-in_default c = none_in _ _ c.in_default.not-Satisfiable
