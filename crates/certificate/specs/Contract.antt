-- What `certificate::read` promises, and what the readers of the three bodies do. Assumes nothing.
use Rattle.std.specs.Prelude.{Option as Found, Some, None, Result, Ok, Err, List, ◌≡◌, ℕ}
use Rattle.std.proofs.Math.Option.{Option, some, none}
use Rattle.formula.specs.Reasons.{code_of}
use Rattle.formula.specs.Reply.{Reply, refused, opened}
use Rattle.formula.specs.declared.reasons.Refusal.{Refusal}
use Rattle.certificate.specs.Bytes.{point_width, number_width}
use Rattle.certificate.specs.Certificate.{FileContents, number_at, image_at}
use Rattle.certificate.specs.Reader.{opened_reply, opened_contents}
use Rattle.certificate.specs.declared.Contents.{Contents}

-- F10: what the code's answers say in document 01's terms
unfoldable pub reply_of_opened : Result Contents Refusal → Reply
reply_of_opened (Ok c) = opened
reply_of_opened (Err r) = refused (code_of r.reason) r.place

-- the eight numbers of the code's struct
unfoldable pub contents_in : Contents → FileContents
contents_in c =
    record {
      variables = c.variables;
      clauses = c.clauses;
      permutations = c.permutations;
      permutations_at = c.permutations_at;
      points = c.points;
      points_at = c.points_at;
      numbers = c.numbers;
      numbers_at = c.numbers_at;
    }

-- the contents handed out, none with a refusal
unfoldable pub handed_out : Result Contents Refusal → Option FileContents
unfolding contents_in
handed_out (Ok c) = some (contents_in c)
handed_out (Err r) = none

-- G.a: what reading a file promises
pub record OpenedAs (file : List ℕ) (r : Result Contents Refusal) : Type 0 where
  pub reply : reply_of_opened r ≡ opened_reply file
  pub contents : handed_out r ≡ opened_contents file

-- the entry that the code's answer holds
abbrev pub entry_of : Found ℕ → Option ℕ
entry_of None = none
entry_of (Some x) = some x

-- the code's answer is this entry
abbrev pub EntryIs : Option ℕ → Found ℕ → Type 0
EntryIs entry r = entry_of r ≡ entry

-- what the readers of the three bodies promise
abbrev pub ImageRead : ℕ → List ℕ → ℕ → ℕ → Found ℕ → Type 0
ImageRead n body j i r = EntryIs (image_at n body j i) r

abbrev pub PointRead : List ℕ → ℕ → Found ℕ → Type 0
PointRead body i r = EntryIs (number_at point_width body i) r

abbrev pub NumberRead : List ℕ → ℕ → Found ℕ → Type 0
NumberRead body i r = EntryIs (number_at number_width body i) r
