-- `certificate_output::put_bytes` meets its contract: before byte i the first i are stored. Assumes nothing.
use Rattle.std.proofs.Common.{◌≡◌, refl, sym, ap, ◌∙◌, ℕ, ◌+◌, arith, get_or, set, take, length-set}
use Rattle.math.specs.Lists.{spliced}
use Rattle.math.specs.Laws.SpliceLaws.{spliced-none, spliced-take_next}
use Rattle.certificate_output.proofs.put_bytes.Goals as goal

pub loop-i-init : goal.loop-i-init
loop-i-init c = (refl, sym (spliced-none _ _))

pub loop-i-preserved : goal.loop-i-preserved
loop-i-preserved c =
    let l = c.loop-i in
    let a = c.args in
    let x = get_or a.bytes.now l.i 0 in (
      length-set l.out (a.at + l.i) x ∙ l.invariant.0,
      ap (λ xs. set xs (a.at + l.i) x) l.invariant.1 ∙ spliced-take_next a.at l.i a.bytes.now a.out.now 0 (omega arith) (omega arith),
    )

pub returns : goal.returns
returns c =
    let a = c.args in
    c.loop-i.invariant.1 ∙ ap (λ (j : ℕ). spliced a.at (take j a.bytes.now) a.out.now) (let z : c.loop-i.i ≡ a.count = omega arith in z)
