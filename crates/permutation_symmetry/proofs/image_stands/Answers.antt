-- `permutation_symmetry::image_stands` meets its contract: a clause that is its own image is among the clauses, as it is
-- one of them. Assumes nothing.
use Rattle.std.proofs.Common.{sym, ap, ◌∙◌, bit_and, eqb-true}
use Rattle.math.specs.Lists.{any}
use Rattle.point_slices.specs.Laws.Contracts.{clauses_lent}
use Rattle.permutation_images.specs.Laws.SetLaws.{stays_among}
use Rattle.permutation_theory.specs.Permutations.{image_among, same_clause}
use Rattle.permutation_symmetry.proofs.image_stands.Goals as goal

pub returns-then-same : goal.returns-then-same
returns-then-same c =
    let all = eqb-true _ _ (sym c.same.ensures ∙ c.if-same.true) in
    let a = c.args in
    sym (stays_among c.requires.1 (clauses_lent a.clauses) a.i c.requires.2 _ c.at-c.ensures (ap (λ l. bit_and l c.args.fixed) (sym c.listed-listed.ensures) ∙ sym c.common-staying.ensures ∙ all ∙ c.listed-listed.ensures))

pub returns : goal.returns
returns c =
    let a = c.args in
    let cs = clauses_lent a.clauses in
    c.has_clause.ensures ∙ ap (λ d. any (same_clause d) cs) c.image_of_clause.ensures
    ∙ ap (image_among cs (record { images = a.e.now })) c.at-c.ensures
