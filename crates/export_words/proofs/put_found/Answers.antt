-- `export_words::put_found` meets its contract: of each answer the words that it carries. Assumes nothing.
use Rattle.export_words.specs.Words.{words_of}
use Rattle.export_words.proofs.put_found.Goals as goal

pub returns-in-Ok-Satisfiable : goal.returns-in-Ok-Satisfiable
unfolding words_of
returns-in-Ok-Satisfiable c =
    let k = c.in-Ok-Satisfiable in
    let e = rw k.is at k.field-0-is in
    rw (k.is, e) c.put_words.ensures

pub returns-in-Ok-Unsatisfiable : goal.returns-in-Ok-Unsatisfiable
unfolding words_of
returns-in-Ok-Unsatisfiable c =
    let k = c.in-Ok-Unsatisfiable in
    let e = rw k.is at k.field-0-is in
    rw (k.is, e) c.put_words-in-Ok-Unsatisfiable.ensures

pub returns-in-Ok-Unknown : goal.returns-in-Ok-Unknown
unfolding words_of
returns-in-Ok-Unknown c =
    let k = c.in-Ok-Unknown in
    let e = rw k.is at k.field-0-is in
    rw (k.is, e) c.put_words-in-Ok-Unknown.ensures

pub returns-in-Err : goal.returns-in-Err
unfolding words_of
returns-in-Err c = rw c.in-Err.is c.put_refusal.ensures
