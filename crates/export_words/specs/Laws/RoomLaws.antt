-- What holds with room for an answer, and what without. Assumes nothing.
use Rattle.std.specs.Prelude.{Bool, true, false, cond, ◌≡◌}
use Rattle.std.proofs.Common.{sym, ap}

module _ {A : Type 0} {room : Bool} where
  pub with_room_lem : room ≡ true → (new old : A) → new ≡ cond room new old
  with_room_lem e new old = ap (λ (b : Bool). cond b new old) (sym e)

  pub without_room : room ≡ false → (new old : A) → old ≡ cond room new old
  without_room e new old = ap (λ (b : Bool). cond b new old) (sym e)
