-- What the exported program text returns, and what it leaves in the output lent to it. Assumes nothing.
use Rattle.std.specs.Prelude.{Bool, cond, List, ◌≡◌, ℕ, leb, length}
use Rattle.math.specs.Lists.{over}
use Rattle.program.specs.Program.{printed}

-- whether a text fits into an output
abbrev pub fits_into : List ℕ → List ℕ → Bool
fits_into text out = leb (length text) (length out)

-- "The program `nearest`" for a caller in another language: how many bytes it prints, and these where they fit; where
-- they do not, nothing changes
pub record NearestReturns (text out₀ : List ℕ) (r : ℕ) (out₁ : List ℕ) : Type 0 where
  pub returned : r ≡ length (printed text)
  pub output : out₁ ≡ cond (fits_into (printed text) out₀) (over (printed text) out₀) out₀
