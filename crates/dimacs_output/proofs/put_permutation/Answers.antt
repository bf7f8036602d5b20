-- `dimacs_output::put_permutation` meets its contract: the head, an image each, the line end. Assumes nothing.
use Rattle.std.proofs.Common.{arith}
use Rattle.math.specs.Laws.ListLaws.{get_d_in}
use Rattle.math.specs.Laws.SplitLaws.{length_flat_map_le}
use Rattle.text_output.specs.Laws.Putting.{places_end, first-none, first_next, first-all, room_left}
use Rattle.dimacs_text.specs.Laws.TextParts.{image_part}
use Rattle.dimacs_output.specs.Laws.LinePutting.{image_length, permutation_put}
use Rattle.dimacs_output.proofs.put_permutation.Goals as goal

pub put_text-place-requires : goal.put_text-place-requires
put_text-place-requires c = omega (arith, c.requires.2)

pub loop-image-init : goal.loop-image-init
loop-image-init c = first-none image_part c.args.e.now _ _

-- all images are bytes, so that four bytes each suffice
pub put_field-place-requires : goal.put_field-place-requires
put_field-place-requires c =
    let e = c.args.e.now in
    let known = c.type_inv.e in
    let short = image_length e (λ i. let z = known i in omega arith) in
    let held = get_d_in e c.loop-image.image-index 0 c.loop-image-test.true in
    omega (arith, room_left image_part 4 e short _ _ c.loop-image.invariant c.loop-image-test.true places_end (omega (arith, c.put_text-place.ensures.behind, c.requires.1, c.requires.2)), short _ held)

pub loop-image-preserved : goal.loop-image-preserved
loop-image-preserved c =
    first_next image_part c.args.e.now _ _ c.loop-image.invariant 0 c.loop-image-test.true c.put_field-place.ensures c.put_field-place.auto.out

pub put_byte-requires : goal.put_byte-requires
put_byte-requires c =
    let e = c.args.e.now in
    let known = c.type_inv.e in
    let all = first-all image_part e _ _ c.loop-image.invariant c.loop-image-test.false in
    omega (arith, length_flat_map_le image_part 4 e (image_length e (λ i. let z = known i in omega arith)), all.behind, c.put_text-place.ensures.behind, c.requires.1, c.requires.2)

pub returns : goal.returns
returns c =
    let e = c.args.e.now in
    permutation_put e c.requires.0 c.put_text-place.ensures (first-all image_part e _ _ c.loop-image.invariant c.loop-image-test.false) c.put_byte.ensures
