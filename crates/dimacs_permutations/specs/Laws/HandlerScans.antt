-- What the function on permutation lines promises, from what was said to what is said with one line more. Assumes
-- nothing.
use Rattle.std.specs.Prelude.{Result, IfOk, List, ◌≡◌, ℕ, ◌-◌, ◌*◌, ◌≤◌, length, drop, replicate}
use Rattle.permutation_theory.specs.Permutations.{permutations_in}
use Rattle.formula.specs.Limits.{max_permutations, max_images}
use Rattle.formula.specs.declared.reasons.Refusal.{Refusal}
use Rattle.dimacs_format.specs.Reader.{goes, permutation_said}
use Rattle.dimacs_format.specs.Laws.AnswerLaws.{step_then}

-- k permutations of n bytes each lie in the images; the unused bytes are 0
pub record KeptImages (n k : ℕ) (images : List ℕ) : Type 0 where
  pub few : k ≤ max_permutations
  pub places : length images ≡ max_images
  pub unused : drop (k * n) images ≡ replicate (max_images - k * n) 0

-- what a permutation line leads to, behind k permutations
pub record PermutationRead (n place : ℕ) (bytes : List ℕ) (k : ℕ) (old : List ℕ) (r : Result ℕ Refusal) (new : List ℕ) :
    Type 0 where
  pub step : step_then r (λ k₁. goes (permutations_in n k₁ new))
      ≡ permutation_said n (permutations_in n k old) place bytes
  pub kept : IfOk r (λ k₁. KeptImages n k₁ new)
