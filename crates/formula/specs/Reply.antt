-- Replies in document 01's terms: what an entry point answers, whatever enum of the code carries it. Assumes nothing.
use Rattle.std.specs.Prelude.{List, [], ◌∷◌, ℕ, zero, suc}

pub data Reply : Type 0 where
  -- D1.1: a refusal: its number, and "'returned' is the place beside the number"
  refused : ℕ → ℕ → Reply
  -- "met", with the choice, its changes and the number of slots filled
  satisfiable : ℕ → ℕ → ℕ → Reply
  -- "cannot be met, with slots filled"
  unsatisfiable : ℕ → Reply
  -- Q03.4: "On 'no room' the number carried is the depth being processed plus one"; W8: "and slots filled"
  unknown : ℕ → ℕ → Reply
  -- the text is read
  parsed : Reply
  -- a certificate, or a sheet's text, of that many bytes is written
  written : ℕ → Reply
  -- the file's contents are in order
  opened : Reply
  -- the certificate is accepted
  accepted : Reply

-- the point that a reply hands back, 0 where it has none
unfoldable pub point_in : Reply → ℕ
point_in (satisfiable x d filled) = x
point_in (refused code place) = 0
point_in (unsatisfiable filled) = 0
point_in (unknown b filled) = 0
point_in parsed = 0
point_in (written size) = 0
point_in opened = 0
point_in accepted = 0

-- what one test finds: nothing, or a refusal's number and place
pub data Fault : Type 0 where
  no_fault : Fault
  fault : ℕ → ℕ → Fault

-- N8: "Each is tested over everything before the next"
unfoldable pub first : List Fault → Fault
first [] = no_fault
first (no_fault ∷ fs) = first fs
first (fault code place ∷ fs) = fault code place

-- the fault of a numbered thing, by its number; 0 for none
unfoldable pub fault_at : ℕ → ℕ → Fault
fault_at code zero = no_fault
fault_at code (suc k) = fault code (suc k)

-- the reply where the tests found nothing
unfoldable pub unless : Fault → Reply → Reply
unless no_fault r = r
unless (fault code place) r = refused code place

module _ {A : Type 0} where
  -- D1.2, N1: "Every row leaves all lent slices unchanged"
  unfoldable pub unless_kept : Fault → A → A → A
  unless_kept no_fault new old = new
  unless_kept (fault code place) new old = old
