-- The formula of images that are all lent, and what is put of one that is read. Assumes nothing.
use Rattle.std.specs.Prelude.{Result, Ok, Err, List, ◌++◌, ◌≡◌, refl, ℕ, ◌≤◌, length, take, drop, replicate}
use Rattle.std.proofs.Common.{append-nil, sym, ap, ◌∙◌, length-take-le}
use Rattle.math.specs.Lists.{over}
use Rattle.formula.specs.declared.Formula.{Formula}
use Rattle.formula.specs.declared.Numbers.{Numbers}
use Rattle.formula.specs.declared.reasons.Refusal.{Refusal}
use Rattle.formula.specs.Laws.Contracts.{formula_with}
use Rattle.formula.specs.Limits.{max_images}
use Rattle.dimacs_lines.specs.Laws.ParsedAs.{parsed_in}
use Rattle.dimacs_lines.specs.Reply.{reply_of_parse}
use Rattle.export_formulas.specs.Formulas.{images_from, formula_from, is_parsed, put_if_parsed}

-- S21: "the reader makes unused bytes 0": where there are no permutations, all of them
abbrev pub Unused : ℕ → List ℕ → Type 0
Unused permutations images = permutations ≡ 0 → images ≡ replicate max_images 0

-- where as many images are lent as a formula has, these are its images
pub lent-images : (f : Numbers) (bytes : List ℕ) → max_images ≤ length bytes
    → formula_with f (take max_images bytes)
    ≡ formula_from f.variables f.clauses f.target f.permutations bytes
unfolding formula_from images_from over
lent-images f bytes le =
    let part = take max_images bytes in
    let rest = ap (λ (k : ℕ). drop {A = ℕ} k (replicate max_images 0)) (length-take-le max_images bytes le) in
    ap (formula_with f) (sym (ap (λ l. part ++ l) rest ∙ append-nil part))

-- what the reader says of a formula's numbers where it answers so
abbrev pub read_as : Numbers → Result Unit Refusal → Result Numbers Refusal
read_as f (Ok u) = Ok f
read_as f (Err r) = Err r

-- what is put of numbers and images is put of what is read
pub put_in : (f : Numbers) (a : Result Unit Refusal) (images : List ℕ) (part : Formula → List ℕ) (old : List ℕ)
    → put_if_parsed (reply_of_parse a) (part (formula_with f images)) old
    ≡ put_if_parsed (reply_of_parse (parsed_in (read_as f a) images).answer) (part (parsed_in (read_as f a) images).formula) old
unfolding is_parsed
put_in f (Ok u) images part old = refl
put_in f (Err r) images part old = refl

pub answer_in : (f : Numbers) (a : Result Unit Refusal) (images : List ℕ) → a ≡ (parsed_in (read_as f a) images).answer
answer_in f (Ok u) images = refl
answer_in f (Err r) images = refl
