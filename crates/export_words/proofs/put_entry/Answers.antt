-- `export_words::put_entry` meets its contract: of each answer the two words that it carries. Assumes nothing.
use Rattle.std.proofs.Common.{◌≡◌, refl, sym, ap, ◌∙◌, ℕ, length}
use mathlib.Core.Option.{Option, some, none}
use Rattle.certificate.specs.Contract.{entry_of}
use Rattle.export_words.specs.Replies.{entry_words}
use Rattle.export_words.specs.Laws.WordLaws.{over_front}
use Rattle.export_words.proofs.put_entry.Goals as goal
use Rattle.export_words.proofs.put_entry.Goals.{in-Some, in-None}

two : (e : Option ℕ) → length (entry_words e) ≡ 2
unfolding entry_words
two (some x) = refl
two none = refl

pub returns : goal.returns
unfolding entry_words
returns c =
    over_front (c.copy_from_slice.ensures.after
    ∙ elim c.match-r.branch [ in-Some w ↦ w.words-is ∙ ap (λ r. entry_words (entry_of r)) (sym w.in-Some.is) | in-None w ↦ w.words-is ∙ ap (λ r. entry_words (entry_of r)) (sym w.in-None.is) ])
    (two (entry_of c.args.r)) c.args.reply.now
