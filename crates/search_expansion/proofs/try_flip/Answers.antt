-- `search_expansion::try_flip` meets its contract: a law of FillingLaws for each of its three answers. Assumes nothing.
use Rattle.std.proofs.Common.{sym, ap, ◌∙◌, lt_of_lt_of_le}
use Rattle.permutation_theory.specs.Permutations.{covered}
use Rattle.search_expansion.specs.Laws.FillingLaws.{flip-covered, flip_full, flip-filled, follows_same}
use Rattle.search_expansion.specs.Laws.FillingLaws.{follows_added, fillable_addable}
use Rattle.search_expansion.proofs.try_flip.Goals as goal

pub returns-then-flip_covered : goal.returns-then-flip_covered
returns-then-flip_covered c = (λ vs. flip-covered _ _ _ _ vs _ _ (sym c.flip_covered.ensures ∙ c.if-flip_covered.true), follows_same c.requires.0.coverable.askable.indexed)

pub returns-then-g-filled : goal.returns-then-g-filled
returns-then-g-filled c = (λ vs. flip_full _ _ _ _ vs _ _ (sym c.flip_covered.ensures ∙ c.if-flip_covered.false) c.if-g-filled.true, follows_same c.requires.0.coverable.askable.indexed)

pub add-requires : goal.add-requires
add-requires c = fillable_addable c.requires.0 c.requires.1 c.if-g-filled.false _ _ c.requires.2 c.flip-flipped.ensures

pub returns : goal.returns
returns c =
    let new = sym c.flip_covered.ensures ∙ c.if-flip_covered.false in
    let room = c.requires.0.room in
    let stored = c.fill.ensures in (
      λ vs. flip-filled _ _ _ _ vs _ _ _ new c.if-g-filled.false room c.flip-flipped.ensures stored,
      follows_added _ (ap (covered _ _) c.flip-flipped.ensures ∙ new) (lt_of_lt_of_le c.if-g-filled.false room.points_room) c.add.ensures stored,
    )
