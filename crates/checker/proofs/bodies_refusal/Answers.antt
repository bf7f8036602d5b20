-- `checker::bodies_refusal` meets its contract: a law of PartLaws for each way out. Assumes nothing.
use Rattle.std.proofs.Common.{sym, arith}
use Rattle.std.proofs.lemmas.Result.{err_from_is_err_and}
use Rattle.checker.proofs.PartLaws.{laid, images-listed, images_proper, stops_11, stops_12}
use Rattle.checker.proofs.PartLaws.{too_many_points, ends_decoded}
use Rattle.checker.proofs.bodies_refusal.Goals as goal

pub slice_bounds-permutations-count : goal.slice_bounds-permutations-count
slice_bounds-permutations-count c = (laid _ _ _ c.requires).first_second

pub slice_bounds-permutations-start : goal.slice_bounds-permutations-start
slice_bounds-permutations-start c = (laid _ _ _ c.requires).first_second

pub slice_bounds-permutations-end : goal.slice_bounds-permutations-end
slice_bounds-permutations-end c = let l = laid _ _ _ c.requires in omega (arith, l.second_third, l.third_end)

pub permutations_refusal-requires : goal.permutations_refusal-requires
permutations_refusal-requires c = (c.requires.few, λ _. (laid _ _ _ c.requires).images_long)

pub returns-in_err-permutations_refusal : goal.returns-in_err-permutations_refusal
returns-in_err-permutations_refusal c =
    let p = err_from_is_err_and c.from_residual.result c.from_residual.ensures.1 in
    rw (p.1, p.2) (stops_11 _ _ _ c.requires _ c.in_err-permutations_refusal.ensures tt)

pub symmetry_refusal-requires : goal.symmetry_refusal-requires
symmetry_refusal-requires c = images-listed _ _ _ c.requires (sym c.in_ok-permutations_refusal.ensures)

pub returns-in_err-symmetry_refusal : goal.returns-in_err-symmetry_refusal
returns-in_err-symmetry_refusal c =
    let p = err_from_is_err_and c.from_residual-in_err-symmetry_refusal.result c.from_residual-in_err-symmetry_refusal.ensures.1 in
    rw (p.1, p.2) (stops_12 _ _ _ c.requires (sym c.in_ok-permutations_refusal.ensures) _ c.in_err-symmetry_refusal.ensures tt)

pub returns-then-c-gt-MAX_SLOTS : goal.returns-then-c-gt-MAX_SLOTS
returns-then-c-gt-MAX_SLOTS c =
    too_many_points _ _ _ c.requires (sym c.in_ok-permutations_refusal.ensures) (sym c.in_ok-symmetry_refusal.ensures) c.if-c-gt-MAX_SLOTS.true

pub slice_bounds-bodies-count : goal.slice_bounds-bodies-count
slice_bounds-bodies-count c = (laid _ _ _ c.requires).second_third

pub slice_bounds-bodies-start : goal.slice_bounds-bodies-start
slice_bounds-bodies-start c = (laid _ _ _ c.requires).second_third

pub slice_bounds-bodies-end : goal.slice_bounds-bodies-end
slice_bounds-bodies-end c = (laid _ _ _ c.requires).third_end

pub slice_bounds-bodies-count-2 : goal.slice_bounds-bodies-count-2
slice_bounds-bodies-count-2 c = (laid _ _ _ c.requires).third_end

pub slice_bounds-bodies-start-2 : goal.slice_bounds-bodies-start-2
slice_bounds-bodies-start-2 c = (laid _ _ _ c.requires).third_end

pub decoded_refusal-requires : goal.decoded_refusal-requires
decoded_refusal-requires c =
    let l = laid _ _ _ c.requires in
    record {
      given = images_proper _ _ _ c.requires (sym c.in_ok-permutations_refusal.ensures);
      most = c.if-c-gt-MAX_SLOTS.false;
      points_long = l.points_long;
      numbers_long = l.numbers_long;
    }

pub returns : goal.returns
returns c =
    ends_decoded _ _ _ c.requires (sym c.in_ok-permutations_refusal.ensures) (sym c.in_ok-symmetry_refusal.ensures) _ c.decoded_refusal.ensures
