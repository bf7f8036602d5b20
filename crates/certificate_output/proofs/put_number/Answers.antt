-- `certificate_output::put_number` meets its contract: before byte i the first i are stored. Assumes nothing.
use Rattle.std.proofs.Common.{◌≡◌, refl, sym, ap, ap₂, ◌∙◌, ℕ, ◌+◌, ◌≤◌, le_of_eq, lt_of_lt_of_le, arith, length, get_or, set, length-set, take_all, rules}
use Rattle.math.specs.Lists.{spliced}
use Rattle.math.specs.Laws.SpliceLaws.{spliced-none, spliced-take_next}
use Rattle.certificate.specs.Bytes.{bytes_of}
use Rattle.math.specs.Laws.NumeralLaws.{length_digits}
use Rattle.certificate_output.specs.Laws.OutputLaws.{word_bytes}
use Rattle.certificate_output.proofs.put_number.Goals as goal

pub loop-i-init : goal.loop-i-init
loop-i-init c = (refl, sym (spliced-none _ _))

pub loop-i-preserved : goal.loop-i-preserved
loop-i-preserved c =
    let l = c.loop-i in
    let a = c.args in
    let byte : c.unwrap_or.result ≡ get_or c.to_le_bytes-bytes.result l.i 0 = search rules in
    let same = byte ∙ ap (λ xs. get_or xs l.i 0) c.to_le_bytes-bytes.ensures ∙ word_bytes a.width l.i a.x c.ranges.x.fits c.loop-i-test.true in (
      length-set l.out (a.at + l.i) c.unwrap_or.result ∙ l.invariant.0,
      ap₂ (λ xs (b : ℕ). set xs (a.at + l.i) b) l.invariant.1 same
          ∙ spliced-take_next a.at l.i (bytes_of a.width a.x) a.out.now 0
          (lt_of_lt_of_le c.loop-i-test.true (le_of_eq (sym (length_digits 8 a.width a.x)))) (omega arith),
    )

pub returns : goal.returns
returns c =
    let a = c.args in
    c.loop-i.invariant.1
    ∙ ap (λ l. spliced a.at l a.out.now) (take_all _ (bytes_of a.width a.x) (let z : length (bytes_of a.width a.x) ≤ c.loop-i.i = omega (arith, length_digits 8 a.width a.x) in z))
