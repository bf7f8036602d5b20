-- Laws of the certificate: its length, that the test of a file says what is meant, and that what is put out is well
-- formed and reads back. Assumes nothing.
use Rattle.std.specs.Prelude.{Bool, true, false, ◌&&◌, ◌≡◌, refl, drop}
use mathlib.Core.List.{List, ◌++◌, flat_map, append_assoc}
use Rattle.std.proofs.Common.{sym, ◌∙◌, lit<}
use Rattle.std.proofs.Math.Path.{ap, ap₂}
use Prim.Native.Nat.{ℕ, ◌+◌, ◌*◌, ◌^◌, ◌≤◌, ◌<◌}
use native.Mathlib.Omega.{arith}
use Rattle.std.proofs.Math.ListN.{length, take, length-append}
use borrow.Author.Tests.{eqb-true, eq-eqb, leb-true, le-leb, lt-leb}
use Rattle.math.specs.Laws.ListLaws.{and_split, and_join, not-true-false}
use Rattle.math.specs.Lists.{◌∈◌}
use Rattle.math.specs.Laws.PartLaws.{each_nil, each_cons, part_middle, part_last}
use Rattle.permutation_theory.specs.Permutations.{Permutation, permutations_in}
use Rattle.math.specs.Laws.SplitLaws.{length_flat_map}
use Rattle.certificate.specs.Bytes.{bytes_of, number_from, numbers_in, field_width, permutation_width}
use Rattle.certificate.specs.Bytes.{point_width, number_width}
use Rattle.math.specs.Laws.NumeralLaws.{length_digits, value-digits, entries_flat_map}
use Rattle.math.specs.Laws.NumeralLaws.{entries-all}
use Rattle.certificate.specs.Certificate.{FileContents, contents_length, fields_of, from_fields, layout}
use Rattle.certificate.specs.Certificate.{certificate_length, encode, Encodable, contents_of, WellFormed, fitting}
use Rattle.certificate.specs.Certificate.{well_formed, file_permutations, file_points, file_numbers}

-- ---- the test of a file

-- what fitting contents say
pub record Fitting (c : FileContents) (size : ℕ) : Type 0 where
  pub permutations_first : c.permutations_at ≡ contents_length
  pub points_next : c.points_at ≡ contents_length + c.permutations * permutation_width c.variables
  pub numbers_last : c.numbers_at ≡ c.points_at + c.points * point_width
  pub counts_agree : c.points ≡ c.numbers
  pub length_exact : size ≡ c.numbers_at + c.numbers * number_width

module _ (c : FileContents) (size : ℕ) where
  pub fitting_sound : fitting c size ≡ true → Fitting c size
  unfolding fitting
  fitting_sound h =
      let e = and_split _ _ h in
      let d = and_split _ _ e.0 in
      let b = and_split _ _ d.0 in
      let a = and_split _ _ b.0 in
      record {
        permutations_first = eqb-true _ _ a.0;
        points_next = eqb-true _ _ a.1;
        numbers_last = eqb-true _ _ b.1;
        counts_agree = eqb-true _ _ d.1;
        length_exact = eqb-true _ _ e.1;
      }

  pub fitting_complete : Fitting c size → fitting c size ≡ true
  unfolding fitting
  fitting_complete w =
      let b = and_join _ _ (eq-eqb _ _ w.permutations_first) (eq-eqb _ _ w.points_next) in
      let d = and_join _ _ b (eq-eqb _ _ w.numbers_last) in
      let e = and_join _ _ d (eq-eqb _ _ w.counts_agree) in
      and_join _ _ e (eq-eqb _ _ w.length_exact)

  pub not-fitting : (Fitting c size → ⊥) → fitting c size ≡ false
  not-fitting h = not-true-false (fitting c size) (λ e. h (fitting_sound e))

pub well_formed_sound : (file : List ℕ) → well_formed file ≡ true → WellFormed file
unfolding well_formed
well_formed_sound file h =
    let a = and_split _ _ h in
    let w = fitting_sound (contents_of file) (length file) a.1 in
    record {
      long = leb-true _ _ a.0;
      permutations_first = w.permutations_first;
      points_next = w.points_next;
      numbers_last = w.numbers_last;
      counts_agree = w.counts_agree;
      length_exact = w.length_exact;
    }

pub well_formed_complete : (file : List ℕ) → WellFormed file → well_formed file ≡ true
unfolding well_formed
well_formed_complete file w =
    and_join _ _ (le-leb _ _ w.long) (fitting_complete (contents_of file) (length file)
    (record {
      permutations_first = w.permutations_first;
      points_next = w.points_next;
      numbers_last = w.numbers_last;
      counts_agree = w.counts_agree;
      length_exact = w.length_exact;
    }))

-- a file shorter than its contents is none; of a longer one its contents and its length decide
pub short_file : (file : List ℕ) → length file < contents_length → well_formed file ≡ false
unfolding well_formed
short_file file h = ap (λ (b : Bool). b && fitting (contents_of file) (length file))
    (lt-leb contents_length (length file) h)

pub long_file : (file : List ℕ) → contents_length ≤ length file
    → well_formed file ≡ fitting (contents_of file) (length file)
unfolding well_formed
long_file file h = ap (λ (b : Bool). b && fitting (contents_of file) (length file))
    (le-leb contents_length (length file) h)

-- ---- what is put out: the contents and three bodies, joined

-- C2: "Contents, 32 bytes"
pub length_contents : (c : FileContents) → length (flat_map (bytes_of field_width) (fields_of c)) ≡ contents_length
unfolding fields_of
length_contents c = length_flat_map (bytes_of field_width) field_width (fields_of c) (λ x _. length_digits 8 field_width x)

module _ (n m : ℕ) (es : List Permutation) (ps ns : List ℕ) where
  -- the four parts of a certificate
  abbrev contents_part : List ℕ
  contents_part = flat_map (bytes_of field_width) (fields_of (layout n m (length es) (length ps) (length ns)))

  abbrev permutations_part : List ℕ
  permutations_part = flat_map (λ (e : Permutation). e.images) es

  abbrev points_part : List ℕ
  points_part = flat_map (bytes_of point_width) ps

  abbrev numbers_part : List ℕ
  numbers_part = flat_map (bytes_of number_width) ns

  length-contents_part : length contents_part ≡ contents_length
  length-contents_part = length_contents (layout n m (length es) (length ps) (length ns))

  length-points_part : length points_part ≡ length ps * point_width
  length-points_part = length_flat_map (bytes_of point_width) point_width ps (λ x _. length_digits 8 point_width x)

  length-numbers_part : length numbers_part ≡ length ns * number_width
  length-numbers_part = length_flat_map (bytes_of number_width) number_width ns (λ x _. length_digits 8 number_width x)

  module _ (fit : Encodable n m es ps ns) where
    length-permutations_part : length permutations_part ≡ length es * permutation_width n
    length-permutations_part = length_flat_map (λ (e : Permutation). e.images) n es fit.images_fit

    -- where the second and the third body begin
    begins_points : length (contents_part ++ permutations_part) ≡ contents_length + length es * permutation_width n
    begins_points = length-append contents_part permutations_part ∙ ap₂ ◌+◌ length-contents_part length-permutations_part

    begins_numbers : length (contents_part ++ permutations_part ++ points_part)
        ≡ contents_length + length es * permutation_width n + length ps * point_width
    begins_numbers = length-append (contents_part ++ permutations_part) points_part
        ∙ ap₂ ◌+◌ begins_points length-points_part

    pub length-encode : length (encode n m es ps ns) ≡ certificate_length n (length es) (length ps)
    unfolding encode certificate_length
    length-encode =
        length-append (contents_part ++ permutations_part ++ points_part) numbers_part
        ∙ ap₂ ◌+◌ begins_numbers (length-numbers_part ∙ ap (λ (k : ℕ). k * number_width) (sym fit.paired))

    fields_back : (x : ℕ) → x ∈ fields_of (layout n m (length es) (length ps) (length ns))
        → number_from (bytes_of field_width x) ≡ x
    unfolding fields_of layout
    fields_back =
        let back = value-digits 8 field_width in
        let P : ℕ → Type 0 = λ x. number_from (bytes_of field_width x) ≡ x in
        let last : contents_length + length es * permutation_width n + length ps * point_width
        < 256 ^ field_width = fit.offsets_fit in
        let same : length ps ≡ length ns = fit.paired in
        let points : length ps < 256 ^ field_width = omega arith in
        let numbers : length ns < 256 ^ field_width = omega arith in
        let middle : contents_length + length es * permutation_width n < 256 ^ field_width = omega arith in
        each_cons P (back n fit.variables_fit) (each_cons P (back m fit.clauses_fit)
        (each_cons P (back (length es) fit.count_fits)
        (each_cons P (back contents_length (lit< tt)) (each_cons P (back (length ps) points)
        (each_cons P (back (contents_length + length es * permutation_width n) middle)
        (each_cons P (back (length ns) numbers)
        (each_cons P (back (contents_length + length es * permutation_width n + length ps * point_width) last)
        (each_nil P))))))))

    pub contents_encode : contents_of (encode n m es ps ns) ≡ layout n m (length es) (length ps) (length ns)
    unfolding contents_of encode fields_of
    contents_encode =
        ap (λ l. from_fields (numbers_in field_width 8 l))
        (append_assoc (contents_part ++ permutations_part) points_part numbers_part
        ∙ append_assoc contents_part permutations_part (points_part ++ numbers_part))
        ∙ ap from_fields
        (entries_flat_map (bytes_of field_width) field_width number_from
        (fields_of (layout n m (length es) (length ps) (length ns)))
        (permutations_part ++ (points_part ++ numbers_part)) (λ x _. length_digits 8 field_width x) fields_back)

    -- D2.4: what is put out is well formed
    pub encode-well_formed : WellFormed (encode n m es ps ns)
    unfolding layout certificate_length
    encode-well_formed =
        let same : contents_of (encode n m es ps ns)
        ≡ layout n m (length es) (length ps) (length ns) = contents_encode in
        let size : length (encode n m es ps ns) ≡ certificate_length n (length es) (length ps) = length-encode in
        record {
          long = rw size (omega arith);
          permutations_first = rw same;
          points_next = rw same;
          numbers_last = rw same;
          counts_agree = rw same fit.paired;
          length_exact = rw (same, size, fit.paired);
        }

    -- C5: "the reading of what the writer puts out is exactly the sheet's exchanges and the points and rule numbers of
    -- the slots given"
    pub encode-permutations : file_permutations (encode n m es ps ns) ≡ es
    unfolding file_permutations layout encode
    encode-permutations =
        ap (λ (c : FileContents). permutations_in c.variables c.permutations
        (take (c.permutations * permutation_width c.variables) (drop c.permutations_at (encode n m es ps ns))))
        contents_encode
        ∙ ap (permutations_in n (length es))
        (ap (λ l. take (length es * permutation_width n) (drop contents_length l))
        (append_assoc (contents_part ++ permutations_part) points_part numbers_part)
        ∙ part_middle contents_part permutations_part (points_part ++ numbers_part) contents_length
        (length es * permutation_width n) length-contents_part length-permutations_part)
        ∙ entries-all (λ (e : Permutation). e.images) n (λ bs. record { images = bs }) es fit.images_fit
        (λ e _. refl)

    pub encode_points : file_points (encode n m es ps ns) ≡ ps
    unfolding file_points layout encode
    encode_points =
        ap (λ (c : FileContents). numbers_in point_width c.points
        (take (c.points * point_width) (drop c.points_at (encode n m es ps ns)))) contents_encode
        ∙ ap (numbers_in point_width (length ps))
        (part_middle (contents_part ++ permutations_part) points_part numbers_part
        (contents_length + length es * permutation_width n) (length ps * point_width) begins_points length-points_part)
        ∙ entries-all (bytes_of point_width) point_width number_from ps (λ x _. length_digits 8 point_width x)
        (λ x h. value-digits 8 point_width x (fit.points_fit x h))

    pub encode_numbers : file_numbers (encode n m es ps ns) ≡ ns
    unfolding file_numbers layout encode
    encode_numbers =
        ap (λ (c : FileContents). numbers_in number_width c.numbers
        (take (c.numbers * number_width) (drop c.numbers_at (encode n m es ps ns)))) contents_encode
        ∙ ap (numbers_in number_width (length ns))
        (part_last (contents_part ++ permutations_part ++ points_part) numbers_part
        (contents_length + length es * permutation_width n + length ps * point_width) (length ns * number_width)
        begins_numbers length-numbers_part)
        ∙ entries-all (bytes_of number_width) number_width number_from ns (λ x _. length_digits 8 number_width x)
        (λ x h. value-digits 8 number_width x (fit.numbers_fit x h))
