-- The reader's answer in document 01's terms. Assumes nothing.
use Rattle.std.specs.Prelude.{Result, Ok, Err}
use Rattle.formula.specs.Reply.{Reply, parsed, refused}
use Rattle.formula.specs.Reasons.{code_of}
use Rattle.formula.specs.declared.reasons.Refusal.{Refusal}

-- F10: the reply that an answer of the code is
abbrev pub reply_of_parse : Result Unit Refusal → Reply
reply_of_parse (Ok done) = parsed
reply_of_parse (Err r) = refused (code_of r.reason) r.place
