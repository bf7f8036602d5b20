-- `certificate::in_order` meets its contract: a test that fails refutes the whole, and where none does the last decides.
-- Assumes nothing.
use Rattle.std.proofs.Common.{sym, ℕ, ◌-◌, ◌*◌, arith, eqb, eqb-true, eq-eqb}
use Rattle.math.specs.Laws.ListLaws.{same_tests}
use Rattle.certificate.specs.Certificate.{fitting}
use Rattle.certificate.specs.Laws.CertificateLaws.{Fitting, not-fitting, fitting_sound, fitting_complete}
use Rattle.certificate.specs.Contract.{contents_in}
use Rattle.certificate.proofs.in_order.Goals as goal
use Rattle.certificate.proofs.in_order.Goals.{then-c-ne-CONTENTS-via-then-c-ne-CONTENTS}
use Rattle.certificate.proofs.in_order.Goals.{then-c-ne-CONTENTS-via-else-c-ne-CONTENTS+then-c}
use Rattle.certificate.proofs.in_order.Goals.{then-c-ne-CONTENTS-via-else-c-ne-CONTENTS+else-c+then-size-images}
use Rattle.certificate.proofs.in_order.Goals.{then-c-ne-CONTENTS-via-else-c-ne-CONTENTS+else-c+else-size-images+then-second-images}
use Rattle.certificate.proofs.in_order.Goals.{then-c-ne-CONTENTS-via-else-c-ne-CONTENTS+else-c+else-size-images+else-second-images+then-size-second}
use Rattle.certificate.proofs.in_order.Goals.{then-c-ne-CONTENTS-via-else-c-ne-CONTENTS+else-c+else-size-images+else-second-images+else-size-second+then-third-second}

pub returns-then-c-ne-CONTENTS : goal.returns-then-c-ne-CONTENTS
unfolding contents_in
returns-then-c-ne-CONTENTS c =
    let a = c.args in
    sym (not-fitting (contents_in a.c) a.size (λ (f : Fitting (contents_in a.c) a.size).
    elim c.then-c-ne-CONTENTS.branch [ then-c-ne-CONTENTS-via-then-c-ne-CONTENTS w ↦ omega (arith, f.permutations_first, f.points_next, f.numbers_last, f.counts_agree, f.length_exact, w.if-c-ne-CONTENTS.true) | then-c-ne-CONTENTS-via-else-c-ne-CONTENTS+then-c w ↦ omega (arith, f.permutations_first, f.points_next, f.numbers_last, f.counts_agree, f.length_exact, w.if-c.true) | then-c-ne-CONTENTS-via-else-c-ne-CONTENTS+else-c+then-size-images w ↦ omega (arith, f.permutations_first, f.points_next, f.numbers_last, f.counts_agree, f.length_exact, w.if-size-images.true) | then-c-ne-CONTENTS-via-else-c-ne-CONTENTS+else-c+else-size-images+then-second-images w ↦ omega (arith, f.permutations_first, f.points_next, f.numbers_last, f.counts_agree, f.length_exact, w.if-second-images.true) | then-c-ne-CONTENTS-via-else-c-ne-CONTENTS+else-c+else-size-images+else-second-images+then-size-second w ↦ omega (arith, f.permutations_first, f.points_next, f.numbers_last, f.counts_agree, f.length_exact, w.if-size-second.true) | then-c-ne-CONTENTS-via-else-c-ne-CONTENTS+else-c+else-size-images+else-second-images+else-size-second+then-third-second w ↦ omega (arith, f.permutations_first, f.points_next, f.numbers_last, f.counts_agree, f.length_exact, w.if-third-second.true) ]))

pub returns : goal.returns
unfolding contents_in
returns c =
    let a = c.args in
    let h1 = c.if-c-ne-CONTENTS.false in
    let h2 = c.if-c.false in
    let h3 = c.if-size-images.false in
    let h4 = c.if-second-images.false in
    let h5 = c.if-size-second.false in
    let h6 = c.if-third-second.false in
    let f = a.c in
    let rest : ℕ = a.size - f.numbers_at in
    same_tests (eqb rest (f.numbers * 4)) (fitting (contents_in a.c) a.size)
    (λ e. let last = eqb-true rest (f.numbers * 4) e in fitting_complete (contents_in a.c) a.size
    (record {
      permutations_first = h1;
      points_next = h4;
      numbers_last = h6;
      counts_agree = h2;
      length_exact = omega (arith, h3, h4, h5, h6, last, c.requires);
    }))
    (λ e. let w = fitting_sound (contents_in a.c) a.size e in eq-eqb rest (f.numbers * 4) (omega (arith, w.permutations_first, w.points_next, w.numbers_last, w.counts_agree, w.length_exact)))
