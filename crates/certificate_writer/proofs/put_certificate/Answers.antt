-- `certificate_writer::put_certificate` meets its contract: four parts, one behind the other. Assumes nothing.
use Rattle.std.proofs.Common.{refl, List, ℕ, ◌+◌, ◌*◌, ◌≤◌, arith, length}
use Rattle.certificate.specs.Bytes.{point_width, number_width}
use Rattle.certificate.specs.Certificate.{certificate_length, contents_length}
use Rattle.certificate_writer.specs.Laws.Parts.{Storable}
use Rattle.certificate_writer.specs.Laws.PartsLaws.{certificate_stored}
use Rattle.certificate_writer.proofs.put_certificate.Goals as goal

-- the room that is required, as a sum
room : {n a filled : ℕ} {images points falsified out : List ℕ} → Storable n a images points falsified filled out
    → contents_length + a * n + filled * point_width + filled * number_width ≤ length out
unfolding certificate_length
room s = s.room

pub put_contents-requires : goal.put_contents-requires
put_contents-requires c = let all = room c.requires in (omega arith, refl, refl)

pub put_bytes-requires : goal.put_bytes-requires
put_bytes-requires c = let all = room c.requires in (omega (arith, c.put_contents.auto.out), c.requires.images_held)

pub put_points-requires : goal.put_points-requires
put_points-requires c =
    let all = room c.requires in (omega (arith, c.put_contents.auto.out, c.put_bytes.auto.out), c.requires.points_held)

pub put_numbers-requires : goal.put_numbers-requires
put_numbers-requires c =
    let all = room c.requires in
    (omega (arith, c.put_contents.auto.out, c.put_bytes.auto.out, c.put_points.auto.out), c.requires.numbers_held)

pub returns : goal.returns
returns c =
    certificate_stored _ _ _ _ _ _ _ _ c.requires _ _ _ _ c.put_contents.ensures c.put_bytes.ensures c.put_points.ensures c.put_numbers.ensures
