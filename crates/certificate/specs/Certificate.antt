-- Document 01, 'Certificate': the bytes of a certificate, which files are well formed, and the reading of one. Assumes
-- nothing.
use Rattle.std.specs.Prelude.{Bool, ◌&&◌, ◌≡◌, ℕ, ◌+◌, ◌*◌, ◌/◌, ◌^◌, ◌≤◌, ◌<◌, leb, eqb, length, get_or, take, drop}
use mathlib.Core.List.{List, [], ◌∷◌, ◌++◌, flat_map}
use Rattle.std.proofs.Math.Option.{Option}
use Rattle.std.proofs.Math.ListN.{get_elem?}
use Rattle.math.specs.Lists.{◌∈◌}
use Rattle.permutation_theory.specs.Permutations.{Permutation, permutations_in}
use Rattle.math.specs.Numerals.{digits_of, value, entries}
use Rattle.certificate.specs.Bytes.{bytes_of, numbers_in, field_width, permutation_width}
use Rattle.certificate.specs.Bytes.{point_width, number_width}

-- ---- the contents

-- C2: "Contents, 32 bytes: n, m (rules), then count and offset of each body: exchanges, points, rule numbers."
pub record FileContents : Type 0 where
  pub variables : ℕ
  pub clauses : ℕ
  pub permutations : ℕ
  pub permutations_at : ℕ
  pub points : ℕ
  pub points_at : ℕ
  pub numbers : ℕ
  pub numbers_at : ℕ

abbrev pub contents_length : ℕ
contents_length = 32

-- the eight numbers in the order in which they stand
unfoldable pub fields_of : FileContents → List ℕ
fields_of c =
    c.variables ∷ c.clauses ∷ c.permutations ∷ c.permutations_at ∷ c.points ∷ c.points_at ∷ c.numbers
    ∷ c.numbers_at ∷ []

unfoldable pub from_fields : List ℕ → FileContents
from_fields fs =
    record {
      variables = get_or fs 0 0;
      clauses = get_or fs 1 0;
      permutations = get_or fs 2 0;
      permutations_at = get_or fs 3 0;
      points = get_or fs 4 0;
      points_at = get_or fs 5 0;
      numbers = get_or fs 6 0;
      numbers_at = get_or fs 7 0;
    }

-- ---- the bytes

-- C3: "Bodies follow without gaps": the contents of a certificate, from n, m and the number of permutations, points and
-- clause numbers
unfoldable pub layout : ℕ → ℕ → ℕ → ℕ → ℕ → FileContents
layout n m a p k =
    record {
      variables = n;
      clauses = m;
      permutations = a;
      permutations_at = contents_length;
      points = p;
      points_at = contents_length + a * permutation_width n;
      numbers = k;
      numbers_at = contents_length + a * permutation_width n + p * point_width;
    }

-- the length of a certificate with a permutations and k points
unfoldable pub certificate_length : ℕ → ℕ → ℕ → ℕ
certificate_length n a k = contents_length + a * permutation_width n + k * point_width + k * number_width

-- C1: "Contents first, then bodies; numbers are 32-bit, low byte first."
unfoldable pub encode : ℕ → ℕ → List Permutation → List ℕ → List ℕ → List ℕ
unfolding flat_map digits_of fields_of layout
encode n m permutations points numbers =
    flat_map (bytes_of field_width) (fields_of (layout n m (length permutations) (length points) (length numbers)))
    ++ flat_map (λ (e : Permutation). e.images) permutations ++ flat_map (bytes_of point_width) points
    ++ flat_map (bytes_of number_width) numbers

-- what fits into a certificate: permutations of n numbers each, as many clause numbers as points, every number within
-- its bytes
pub record Encodable (n m : ℕ) (permutations : List Permutation) (points numbers : List ℕ) : Type 0 where
  pub variables_fit : n < 256 ^ field_width
  pub clauses_fit : m < 256 ^ field_width
  pub count_fits : length permutations < 256 ^ field_width
  pub images_fit : (e : Permutation) → e ∈ permutations → length e.images ≡ permutation_width n
  pub points_fit : (x : ℕ) → x ∈ points → x < 256 ^ point_width
  pub numbers_fit : (k : ℕ) → k ∈ numbers → k < 256 ^ number_width
  pub paired : length points ≡ length numbers
  pub offsets_fit : contents_length + length permutations * permutation_width n + length points * point_width
      < 256 ^ field_width

-- ---- a file

-- the contents that stand in a file's first 32 bytes
unfoldable pub contents_of : List ℕ → FileContents
unfolding from_fields entries value
contents_of file = from_fields (numbers_in field_width 8 file)

-- C4: "The last two counts agree and the length is exact." The offsets are exact too; all sums are true ones
pub record WellFormed (file : List ℕ) : Type 0 where
  pub long : contents_length ≤ length file
  pub permutations_first : (contents_of file).permutations_at ≡ contents_length
  pub points_next : (contents_of file).points_at
      ≡ contents_length + (contents_of file).permutations * permutation_width (contents_of file).variables
  pub numbers_last : (contents_of file).numbers_at ≡ (contents_of file).points_at + (contents_of file).points * point_width
  pub counts_agree : (contents_of file).points ≡ (contents_of file).numbers
  pub length_exact : length file ≡ (contents_of file).numbers_at + (contents_of file).numbers * number_width

-- the same, computed: first of contents and a file's length, then of a file
unfoldable pub fitting : FileContents → ℕ → Bool
fitting c size =
    eqb c.permutations_at contents_length
    && eqb c.points_at (contents_length + c.permutations * permutation_width c.variables)
    && eqb c.numbers_at (c.points_at + c.points * point_width) && eqb c.points c.numbers
    && eqb size (c.numbers_at + c.numbers * number_width)

unfoldable pub well_formed : List ℕ → Bool
unfolding contents_of fitting
well_formed file = leb contents_length (length file) && fitting (contents_of file) (length file)

-- C8: "Each body is handed on as its own part of the file."
unfoldable pub permutations_body : List ℕ → List ℕ
unfolding contents_of
permutations_body file = let c = contents_of file in take (c.permutations * permutation_width c.variables)
    (drop c.permutations_at file)

unfoldable pub points_body : List ℕ → List ℕ
unfolding contents_of
points_body file = let c = contents_of file in take (c.points * point_width) (drop c.points_at file)

unfoldable pub numbers_body : List ℕ → List ℕ
unfolding contents_of
numbers_body file = let c = contents_of file in take (c.numbers * number_width) (drop c.numbers_at file)

-- C5: "The reading of such a file is its lists of exchanges, points and rule numbers"
unfoldable pub file_permutations : List ℕ → List Permutation
unfolding permutations_body permutations_in
file_permutations file = let c = contents_of file in permutations_in c.variables c.permutations
    (permutations_body file)

unfoldable pub file_points : List ℕ → List ℕ
unfolding points_body entries value
file_points file = numbers_in point_width (contents_of file).points (points_body file)

unfoldable pub file_numbers : List ℕ → List ℕ
unfolding numbers_body entries value
file_numbers file = numbers_in number_width (contents_of file).numbers (numbers_body file)

-- ---- one entry of a body, by its index from 0; none where it lies outside the body

-- number i of those that a body holds whole, w bytes each
unfoldable pub number_at : ℕ → List ℕ → ℕ → Option ℕ
unfolding entries value
number_at w body i = get_elem? (numbers_in w (length body / w) body) i

-- where the permutation of index j of a body of permutations sends variable i + 1: "n bytes per exchange (e(1) first)"
unfoldable pub image_at : ℕ → List ℕ → ℕ → ℕ → Option ℕ
image_at n body j i = get_elem? (take n (drop (j * permutation_width n) body)) i
