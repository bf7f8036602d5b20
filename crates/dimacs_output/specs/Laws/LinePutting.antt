-- The loops that put the lines of clauses and permutations: what they require, and the room for each line. Assumes
-- nothing.
use mathlib.Core.List.{List, [], ◌∷◌, flat_map}
use Rattle.std.specs.Prelude.{◌≡◌, ℕ, ◌+◌, ◌*◌, ◌^◌, ◌≤◌, ◌<◌, length, get_or, take, drop}
use Rattle.std.proofs.Common.{sym, subst, arith, length-append, length-drop, length-take-le}
use Rattle.math.specs.Lists.{◌∈◌}
use Rattle.math.specs.Laws.ListLaws.{in_get_d}
use Rattle.points.specs.Points.{Clause, listed}
use Rattle.permutation_theory.specs.Permutations.{Permutation, IsPermutation}
use Rattle.formula.specs.Limits.{max_variables}
use Rattle.dimacs_format.specs.Text.{ascii}
use Rattle.text_output.specs.Decimal.{numeral, line_end}
use Rattle.text_output.specs.Laws.DecimalLaws.{numeral-length}
use Rattle.text_output.specs.Laws.Putting.{Put, put_both, put_as}
use Rattle.dimacs_text.specs.Laws.TextParts.{image_part, permutation_parts, permutation_part}

-- bytes for the line of a permutation, whatever bytes its images are: a blank and three digits each
abbrev pub longest_images : ℕ
longest_images = max_variables * 4 + 7

-- no clause lists a variable above n
abbrev pub ListedWithin : ℕ → List Clause → Type 0
ListedWithin n cs = (c : Clause) → c ∈ cs → listed c < 2 ^ n

-- all listed are permutations
abbrev pub AllPermutations : ℕ → List Permutation → Type 0
AllPermutations n es = (e : Permutation) → e ∈ es → IsPermutation n e

-- ---- the line of a permutation

-- a blank and the digits of a byte
pub image_length : (e : List ℕ) → ((i : ℕ) → get_or e i 0 < 256) → (v : ℕ) → v ∈ e → length (image_part v) ≤ 4
image_length e bytes v m =
    let w = in_get_d 0 m in
    let lt : v < 256 = subst (λ (k : ℕ). k < 256) w.2 (bytes w.0) in
    omega (arith, numeral-length 2 v (omega arith), length-append (ascii " ") (numeral v))

-- its head, its images and the line end
pub permutation_put : (e : List ℕ) → 1 ≤ length e → {at r r' r'' : ℕ} {out out₁ out₂ out₃ : List ℕ}
    → Put at (ascii "c exch") out r out₁ → Put r (flat_map image_part e) out₁ r' out₂ → Put r' line_end out₂ r'' out₃
    → Put at (permutation_part (record { images = e })) out r'' out₃
permutation_put [] some p q l = absurd (let z : ⊥ = omega arith in z)
permutation_put (v ∷ vs) some p q l = put_as (sym (permutation_parts v vs)) (put_both (put_both p q) l)

-- a part of n bytes
pub part_length : (n i : ℕ) (bytes : List ℕ) → i * n + n ≤ length bytes → length (take n (drop (i * n) bytes)) ≡ n
part_length n i bytes room = length-take-le n (drop (i * n) bytes) (omega (arith, length-drop (i * n) bytes))
