-- `dimacs_writer::sheet_refusal` meets its contract: each is tested over everything before the next. Assumes nothing.
use Rattle.std.proofs.Common.{sym}
use Rattle.std.proofs.lemmas.Result.{err_from_is_err_and}
use Rattle.point_slices.specs.Slices.{slices_lent}
use Rattle.formula.specs.Laws.Contracts.{formula_lent}
use Rattle.formula.specs.Laws.RefusalLaws.{formula_passes, images_room}
use Rattle.dimacs_writer.specs.Laws.WritingLaws.{stops_10, stops_11, ends_19}
use Rattle.dimacs_writer.proofs.sheet_refusal.Goals as goal

pub returns-in_err-formula_refusal : goal.returns-in_err-formula_refusal
returns-in_err-formula_refusal c =
    let p = err_from_is_err_and c.from_residual.result c.from_residual.ensures.1 in
    rw (p.1, p.2) (stops_10 _ _ _ _ (c.in_err-formula_refusal.ensures c.args.f.images.now) tt)

pub permutations_refusal-requires : goal.permutations_refusal-requires
permutations_refusal-requires c =
    let f = formula_lent c.args.f in
    let cs = slices_lent c.args.clauses in
    let few = (formula_passes _ cs (sym (c.in_ok-formula_refusal.ensures f.images))).0.few_variables in
    rw c.permutations.ensures (few, images_room f cs few c.args.f.whole)

pub returns-in_err-permutations_refusal : goal.returns-in_err-permutations_refusal
returns-in_err-permutations_refusal c =
    let p = err_from_is_err_and c.from_residual-in_err-permutations_refusal.result c.from_residual-in_err-permutations_refusal.ensures.1 in
    let found = rw c.permutations.ensures at c.in_err-permutations_refusal.ensures in
    rw (p.1, p.2) (stops_11 _ _ _ _ (sym (c.in_ok-formula_refusal.ensures c.args.f.images.now)) found tt)

pub room_refusal-requires : goal.room_refusal-requires
room_refusal-requires c =
    let passed = rw c.permutations.ensures at c.in_ok-permutations_refusal.ensures in
    record { ten = sym (c.in_ok-formula_refusal.ensures c.args.f.images.now); eleven = sym passed; places = c.args.f.whole }

pub returns : goal.returns
returns c =
    let passed = rw c.permutations.ensures at c.in_ok-permutations_refusal.ensures in
    ends_19 _ _ _ _ (sym (c.in_ok-formula_refusal.ensures c.args.f.images.now)) (sym passed) c.room_refusal.ensures
