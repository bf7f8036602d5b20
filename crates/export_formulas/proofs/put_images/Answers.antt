-- `export_formulas::put_images` meets its contract: the first 1,024 bytes are all that can be copied. Assumes nothing.
use Rattle.std.proofs.Common.{List, ◌≡◌, sym, ap, ◌∙◌, ℕ, ◌<◌, min, arith, length, take, take_all}
use native.Mathlib.Decide.{dec_lt}
use Rattle.formula.specs.Limits.{max_images}
use Rattle.math.specs.Lists.{over}
use Rattle.export_formulas.proofs.put_images.Goals as goal

whole : (bytes : List ℕ) (i : ℕ) → i ≡ min (length bytes) max_images → take i bytes ≡ take max_images bytes
whole bytes i e = by (dec_lt max_images (length bytes))
  where
    by : Dec (max_images < length bytes) → take i bytes ≡ take max_images bytes
    by (yes lt) = ap (λ (j : ℕ). take j bytes) (let z : i ≡ max_images = omega arith in z)
    by (no ge) = take_all i bytes (omega arith) ∙ sym (take_all max_images bytes (omega arith))

pub copy_bytes-requires : goal.copy_bytes-requires
copy_bytes-requires c = (omega arith, omega arith)

pub returns : goal.returns
returns c =
    let a = c.args in
    c.copy_bytes.ensures ∙ ap (λ l. over l a.to.now) (whole a.bytes.now _ c.min-count.ensures)
