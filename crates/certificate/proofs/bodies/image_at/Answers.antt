-- `certificate::bodies::image_at` meets its contract: whether the image lies in the body is told without a sum that
-- could wrap. Assumes nothing.
use Rattle.std.proofs.Common.{sym, ℕ, List, ◌+◌, ◌-◌, ◌*◌, ◌/◌, ◌≤◌, ◌<◌, le-div_iff_mul-le, div-lt_iff_lt-mul, arith, length}
use Rattle.certificate.specs.Laws.ReaderLaws.{image_inside, image_of_none, image_behind}
use Rattle.certificate.proofs.bodies.image_at.Goals as goal
use Rattle.certificate.proofs.bodies.image_at.Goals.{then-n-i-via-then-n-i, then-n-i-via-else-n-i+then-body-i, then-n-i-via-else-n-i+else-body-i+then-body-i-2}

-- an image lies in the body where as many permutations do before it, and is behind it elsewhere
inside : (n : ℕ) (body : List ℕ) (j i : ℕ) → i < n → i < length body → j ≤ (length body - i - 1) / n → j * n + i < length body
inside n body j i some-image enough near =
    let before : j * n ≤ length body - i - 1 = (le-div_iff_mul-le {k = n} (omega arith)).0 near in
    omega arith

behind : (n : ℕ) (body : List ℕ) (j i : ℕ) → i < n → i < length body → (length body - i - 1) / n < j → length body ≤ j * n + i
behind n body j i some-image enough far =
    let past : length body - i - 1 < j * n = (div-lt_iff_lt-mul {k = n} (omega arith)).0 far in
    omega arith

pub returns-then-n-i : goal.returns-then-n-i
returns-then-n-i c =
    let a = c.args in
    sym (elim c.then-n-i.branch [ then-n-i-via-then-n-i w ↦ image_of_none _ _ _ _ w.if-n-i.true | then-n-i-via-else-n-i+then-body-i w ↦ image_behind _ _ _ _ (omega (arith, w.if-body-i.true)) | then-n-i-via-else-n-i+else-body-i+then-body-i-2 w ↦ image_behind _ _ _ _ (behind _ _ a.j a.i w.if-n-i.false w.if-body-i.false w.if-body-i-2.true) ])

pub returns : goal.returns
returns c =
    let a = c.args in
    sym (image_inside _ _ _ _ c.if-n-i.false (inside _ _ a.j a.i c.if-n-i.false c.if-body-i.false c.if-body-i-2.false))
