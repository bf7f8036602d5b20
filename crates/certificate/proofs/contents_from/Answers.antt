-- `certificate::contents_from` meets its contract, field by field. Assumes nothing.
use Rattle.certificate.specs.Certificate.{contents_of}
use Rattle.certificate.specs.Contract.{contents_in}
use Rattle.certificate.proofs.contents_from.Goals as goal

pub returns : goal.returns
unfolding contents_in contents_of
returns c =
    let f1 = c.field.ensures in
    let f2 = c.field-2.ensures in
    let f3 = c.field-3.ensures in
    let f4 = c.field-4.ensures in
    let f5 = c.field-5.ensures in
    let f6 = c.field-6.ensures in
    let f7 = c.field-7.ensures in
    let f8 = c.field-8.ensures in
    rw (f1, f2, f3, f4, f5, f6, f7, f8)
