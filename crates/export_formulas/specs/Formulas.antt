-- A formula from numbers and lent bytes, and to them where a text is read. Assumes nothing.
use Rattle.std.specs.Prelude.{Bool, true, false, cond, List, [], ◌∷◌, ℕ, take, replicate}
use Rattle.formula.specs.Limits.{max_images}
use Rattle.math.specs.Lists.{over}
use Rattle.formula.specs.declared.Formula.{Formula}
use Rattle.formula.specs.Reply.{Reply, refused, satisfiable, unsatisfiable, unknown, parsed, written, opened, accepted}

-- S21: "the exchanges as 1,024 bytes": so many of the bytes lent, and 0 where there are fewer
unfoldable pub images_from : List ℕ → List ℕ
unfolding over
images_from bytes = over (take max_images bytes) (replicate max_images 0)

-- the formula by value that numbers and bytes make
unfoldable pub formula_from : ℕ → ℕ → ℕ → ℕ → List ℕ → Formula
unfolding images_from
formula_from variables clauses target permutations bytes =
    record {
      variables = variables;
      clauses = clauses;
      target = target;
      permutations = permutations;
      images = images_from bytes;
    }

-- the four numbers of a formula, beside its images
abbrev pub numbers_of : Formula → List ℕ
numbers_of f = f.variables ∷ f.clauses ∷ f.target ∷ f.permutations ∷ []

-- whether an answer is that a text is read
unfoldable pub is_parsed : Reply → Bool
is_parsed parsed = true
is_parsed (refused code place) = false
is_parsed (satisfiable x d filled) = false
is_parsed (unsatisfiable filled) = false
is_parsed (unknown b filled) = false
is_parsed (written size) = false
is_parsed opened = false
is_parsed accepted = false

-- D1.2: "after a refusal each lent slice holds what it held before": a part of the formula goes to the front of a slice
-- only where the text is read
abbrev pub put_if_parsed : Reply → List ℕ → List ℕ → List ℕ
put_if_parsed answer part old = cond (is_parsed answer) (over part old) old
