-- A text put to the front of the output. Assumes nothing.
use Rattle.std.specs.Prelude.{List, ◌≡◌, ℕ, ◌≤◌, length}
use Rattle.math.specs.Lists.{over}
use Rattle.text_output.specs.Laws.Putting.{Put, put_over}

-- r counts its bytes, and what is behind them is as it was
pub record Printed (text out₀ : List ℕ) (r : ℕ) (out₁ : List ℕ) : Type 0 where
  pub counted : r ≡ length text
  pub output : out₁ ≡ over text out₀

-- a put with room for all of it
pub put_front : (text out₀ : List ℕ) (r : ℕ) (out₁ : List ℕ) → length text ≤ length out₀ → Put 0 text out₀ r out₁
    → Printed text out₀ r out₁
put_front text out₀ r out₁ room p =
    let w = put_over text out₀ r out₁ room p in record { counted = w.0; output = w.1 }
