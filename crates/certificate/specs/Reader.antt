-- Document 01, 'Certificate': the reply of reading a file without checking it. Assumes nothing.
use Rattle.std.specs.Prelude.{cond, List, ℕ}
use Rattle.std.proofs.Math.Option.{Option, some, none}
use Rattle.formula.specs.Reply.{Reply, opened, unless}
use Rattle.certificate.specs.Certificate.{FileContents, contents_of, well_formed}
use Rattle.certificate.specs.Rows.{file_fault}

-- N7: "Reading a certificate without checking it: 14."
unfoldable pub opened_reply : List ℕ → Reply
unfolding file_fault unless
opened_reply file = unless (file_fault file) opened

unfoldable pub opened_contents : List ℕ → Option FileContents
unfolding well_formed
opened_contents file = cond (well_formed file) (some (contents_of file)) none
