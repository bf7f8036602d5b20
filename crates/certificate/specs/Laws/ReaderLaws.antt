-- Laws of the readers: where an entry lies, what is answered to a file, and that the entries of a well-formed file's
-- bodies are its reading. Assumes nothing.
use Rattle.std.specs.Prelude.{Option as Found, Some, None, Ok, Err, Bool, true, false, cond, List, ◌≡◌, ℕ, ◌+◌, ◌-◌, ◌*◌, ◌/◌, ◌≤◌, ◌<◌, get_or, drop}
use Rattle.std.proofs.Common.{sym, ◌∙◌, zero-lt-suc, arith, length-take-le, get_or-take}
use Rattle.std.proofs.Math.Option.{Option, some, none}
use Rattle.std.proofs.Math.Path.{ap}
use Rattle.std.proofs.Math.Nat.{mul-div_cancel}
use Rattle.std.proofs.Math.ListN.{length, get_elem?, take, length-take, length-drop}
use Rattle.std.proofs.Math.Seq.{get_or-drop}
use Rattle.math.specs.Laws.PartLaws.{index_some, index_none}
use Rattle.permutation_theory.specs.Permutations.{Permutation}
use Rattle.formula.specs.Reply.{no_fault, fault, opened, unless}
use Rattle.certificate.specs.Bytes.{number_from, numbers_in, permutation_width, point_width, number_width}
use Rattle.math.specs.Laws.NumeralLaws.{entries_at, entries_outside}
use Rattle.certificate.specs.Certificate.{contents_of, WellFormed, well_formed, permutations_body, points_body}
use Rattle.certificate.specs.Certificate.{numbers_body, file_permutations, file_points, file_numbers, number_at}
use Rattle.certificate.specs.Certificate.{image_at}
use Rattle.certificate.specs.Reader.{opened_reply, opened_contents}
use Rattle.certificate.specs.Contract.{reply_of_opened, contents_in, handed_out, OpenedAs, entry_of, EntryIs}
use Rattle.certificate.specs.declared.Contents.{Contents}
use Rattle.formula.specs.declared.reasons.Reason.TheVariants.{CertificateFile}

-- ---- an entry, or none

pub holds_some : {entry : Option ℕ} (x : ℕ) → entry ≡ some x → EntryIs entry (Some x)
holds_some x e = sym e

pub holds_none : {entry : Option ℕ} {r : Found ℕ} → r ≡ None → entry ≡ none → EntryIs entry r
holds_none e h = ap entry_of e ∙ sym h

-- ---- where a number of a body lies

pub number_inside : (w : ℕ) (body : List ℕ) (i : ℕ) → i < length body / w
    → number_at w body i ≡ some (number_from (take w (drop (i * w) body)))
unfolding number_at
number_inside w body i h = entries_at number_from w (length body / w) body i h

pub number_outside : (w : ℕ) (body : List ℕ) (i : ℕ) → length body / w ≤ i → number_at w body i ≡ none
unfolding number_at
number_outside w body i h = entries_outside number_from w (length body / w) body i h

-- ---- where an image of a body lies

module _ (n : ℕ) (body : List ℕ) (j i : ℕ) where
  pub image_inside : i < n → j * n + i < length body → image_at n body j i ≡ some (get_or body (j * n + i) 0)
  unfolding image_at
  image_inside h lt =
      let here : i < length (take n (drop (j * n) body)) = omega
      (arith, length-take n (drop (j * n) body), length-drop (j * n) body) in
      index_some (take n (drop (j * n) body)) i 0 here
      ∙ ap some (get_or-take n (drop (j * n) body) i 0 h ∙ get_or-drop (j * n) body i 0)

  outside : length (take n (drop (j * n) body)) ≤ i → image_at n body j i ≡ none
  unfolding image_at
  outside le = index_none (take n (drop (j * n) body)) i le

  pub image_of_none : n ≤ i → image_at n body j i ≡ none
  image_of_none h = outside (omega (arith, length-take n (drop (j * n) body)))

  pub image_behind : length body ≤ j * n + i → image_at n body j i ≡ none
  image_behind h = outside (omega (arith, length-take n (drop (j * n) body), length-drop (j * n) body))

-- ---- the reply

pub opens : (file : List ℕ) (c : Contents) → well_formed file ≡ true → contents_in c ≡ contents_of file
    → OpenedAs file (Ok c)
unfolding opened_reply opened_contents handed_out reply_of_opened
opens file c h e =
    record {
      reply = ap (λ (b : Bool). unless (cond b no_fault (fault 14 (length file))) opened) (sym h);
      contents = ap some e ∙ ap (λ (b : Bool). cond b (some (contents_of file)) none) (sym h);
    }

pub refuses : (file : List ℕ) → well_formed file ≡ false → OpenedAs file (Err (record { reason = CertificateFile; place = length file }))
unfolding opened_reply opened_contents handed_out reply_of_opened
refuses file h =
    record {
      reply = ap (λ (b : Bool). unless (cond b no_fault (fault 14 (length file))) opened) (sym h);
      contents = ap (λ (b : Bool). cond b (some (contents_of file)) none) (sym h);
    }

-- ---- the bodies of a well-formed file

length_part : (a b : ℕ) (file : List ℕ) → a + b ≤ length file → length (take b (drop a file)) ≡ b
length_part a b file h = length-take-le b (drop a file) (rw length-drop (omega arith))

module _ (file : List ℕ) (formed : WellFormed file) where
  pub length-permutations_body : length (permutations_body file)
      ≡ (contents_of file).permutations * permutation_width (contents_of file).variables
  unfolding permutations_body
  length-permutations_body =
      length_part (contents_of file).permutations_at ((contents_of file).permutations * permutation_width
      (contents_of file).variables) file
      (omega (arith, formed.permutations_first, formed.points_next, formed.numbers_last, formed.length_exact))

  pub length-points_body : length (points_body file) ≡ (contents_of file).points * point_width
  unfolding points_body
  length-points_body =
      length_part (contents_of file).points_at ((contents_of file).points * point_width) file
      (omega (arith, formed.numbers_last, formed.length_exact))

  pub length-numbers_body : length (numbers_body file) ≡ (contents_of file).numbers * number_width
  unfolding numbers_body
  length-numbers_body = length_part (contents_of file).numbers_at ((contents_of file).numbers * number_width) file
      (omega (arith, formed.length_exact))

  -- C8: "Each body is handed on as its own part of the file.": from its offset to the next, the last to the file's end
  pub permutations_part_lem : take ((contents_of file).points_at - (contents_of file).permutations_at)
      (drop (contents_of file).permutations_at file) ≡ permutations_body file
  unfolding permutations_body
  permutations_part_lem =
      let size : (contents_of file).points_at - (contents_of file).permutations_at
      ≡ (contents_of file).permutations * permutation_width (contents_of file).variables =
      omega (arith, formed.permutations_first, formed.points_next) in
      ap (λ (k : ℕ). take k (drop (contents_of file).permutations_at file)) size

  pub points_part_lem : take ((contents_of file).numbers_at - (contents_of file).points_at)
      (drop (contents_of file).points_at file) ≡ points_body file
  unfolding points_body
  points_part_lem =
      let size : (contents_of file).numbers_at - (contents_of file).points_at
      ≡ (contents_of file).points * point_width = omega (arith, formed.numbers_last) in
      ap (λ (k : ℕ). take k (drop (contents_of file).points_at file)) size

  pub numbers_part_lem : take (length file - (contents_of file).numbers_at) (drop (contents_of file).numbers_at file)
      ≡ numbers_body file
  unfolding numbers_body
  numbers_part_lem =
      let size : length file - (contents_of file).numbers_at
      ≡ (contents_of file).numbers * number_width = omega (arith, formed.length_exact) in
      ap (λ (k : ℕ). take k (drop (contents_of file).numbers_at file)) size

  -- C5: "The reading of such a file is its lists of exchanges, points and rule numbers": entry by entry
  pub points_read : (i : ℕ) → number_at point_width (points_body file) i ≡ get_elem? (file_points file) i
  unfolding number_at file_points
  points_read i =
      ap (λ (k : ℕ). get_elem? (numbers_in point_width k (points_body file)) i)
      (ap (λ (l : ℕ). l / point_width) length-points_body ∙ mul-div_cancel (contents_of file).points (zero-lt-suc 7))

  pub numbers_read : (i : ℕ) → number_at number_width (numbers_body file) i ≡ get_elem? (file_numbers file) i
  unfolding number_at file_numbers
  numbers_read i =
      ap (λ (k : ℕ). get_elem? (numbers_in number_width k (numbers_body file)) i)
      (ap (λ (l : ℕ). l / number_width) length-numbers_body ∙ mul-div_cancel (contents_of file).numbers (zero-lt-suc 3))

-- the permutation of index j stands where its images are read, in any file
pub images_read : (file : List ℕ) (j : ℕ) → j < (contents_of file).permutations → (e : Permutation)
    → get_elem? (file_permutations file) j ≡ some e
    → (i : ℕ) → image_at (contents_of file).variables (permutations_body file) j i ≡ get_elem? e.images i
unfolding image_at file_permutations
images_read file j h e at i =
    let n = (contents_of file).variables in
    let body = permutations_body file in
    let found : some (record { images = take n (drop (j * n) body) }) ≡ some e =
    sym (entries_at (λ bs. record { images = bs }) n (contents_of file).permutations body j h)
    ∙ at in
    let same : ◌≡◌ {A = Permutation} (record { images = take n (drop (j * n) body) }) e = cc in
    ap (λ (p : Permutation). get_elem? p.images i) same
