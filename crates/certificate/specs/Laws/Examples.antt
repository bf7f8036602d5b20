-- Document 01, 'Sheets to try': the certificate of case A with exchange 2 1, by computation. Assumes nothing.
use mathlib.Core.List.{List, [], ◌∷◌, flat_map}
use Rattle.std.specs.Prelude.{◌≡◌, refl, ℕ, ◌-◌, length, replicate}
use Rattle.formula.specs.Limits.{max_images}
use Rattle.point_slices.specs.Slices.{ClauseSlices, SlotSlices, whole_clauses, whole_slots}
use Rattle.permutation_theory.specs.Permutations.{Permutation}
use Rattle.formula.specs.declared.Formula.{Formula}
use Rattle.formula.specs.Reply.{written, opened, refused}
use Rattle.math.specs.Numerals.{digits_of}
use Rattle.certificate.specs.Bytes.{bytes_of, field_width}
use Rattle.certificate.specs.Certificate.{encode, contents_of, fields_of, layout}
use Rattle.certificate.specs.Reader.{opened_reply}
use Rattle.certificate.specs.Writer.{write_reply}

-- "A: n 2, rules (1 2) (−1 2) (1 −2) (−1 −2), wish 00", "with exchange 2 1"
abbrev pub case_a : Formula
case_a = record {
  variables = 2;
  clauses = 4;
  target = 0;
  permutations = 1;
  images = 2 ∷ 1 ∷ replicate (max_images - 2)
      0;
}

abbrev pub clauses_a : ClauseSlices
clauses_a = whole_clauses (3 ∷ 2 ∷ 1 ∷ 0 ∷ []) (0 ∷ 1 ∷ 2 ∷ 3 ∷ [])

abbrev swap_a : Permutation
swap_a = record { images = 2 ∷ 1 ∷ [] }

-- "00 10 11, rules 1 2 4"
abbrev pub certificate_a : List ℕ
certificate_a = encode 2 4 (swap_a ∷ []) (0 ∷ 1 ∷ 3 ∷ []) (1 ∷ 2 ∷ 4 ∷ [])

-- "Certificate 70 bytes, bodies at 32, 34, 58."
pub length_a : length certificate_a ≡ 70
unfolding encode
length_a = refl

pub permutations_at_a : (contents_of certificate_a).permutations_at ≡ 32
unfolding encode contents_of
permutations_at_a = refl

pub points_at_a : (contents_of certificate_a).points_at ≡ 34
unfolding encode contents_of
points_at_a = refl

pub numbers_at_a : (contents_of certificate_a).numbers_at ≡ 58
unfolding encode contents_of
numbers_at_a = refl

-- three slots
abbrev slots_a : SlotSlices
slots_a = whole_slots (0 ∷ 1 ∷ 3 ∷ []) (1 ∷ 2 ∷ 4 ∷ []) (0 ∷ 1 ∷ 2 ∷ [])

-- the writer, from these and an output of just that length; and of one byte less
pub written_a : write_reply case_a clauses_a slots_a 3
    (replicate 70 9) ≡ written 70
unfolding write_reply
written_a = refl

pub short_a : write_reply case_a clauses_a slots_a 3 (replicate 69 9)
    ≡ refused 19 70
unfolding write_reply
short_a = refl

-- with n = 0 any number of permutations takes no bytes: such a file is in order
pub empty_permutations : opened_reply (flat_map (bytes_of field_width) (fields_of (layout 0 0 4294967295 0 0))) ≡ opened
unfolding opened_reply flat_map digits_of fields_of layout
empty_permutations = refl
