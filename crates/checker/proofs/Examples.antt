-- Document 01, 'Sheets to try' and 'Traps': the checker's replies for case A with exchange 2 1, by computation. Assumes
-- nothing.
use Rattle.std.specs.Prelude.{[], ◌∷◌, ◌≡◌, refl}
use Rattle.formula.specs.Reply.{accepted, refused}
use Rattle.certificate.specs.Certificate.{encode}
use Rattle.certificate.specs.Laws.Examples.{case_a, clauses_a, certificate_a}
use Rattle.checker.specs.Checker.{check_reply}

-- "A with exchange 2 1: 00 10 11, rules 1 2 4"
pub accepted_a : check_reply case_a clauses_a certificate_a ≡ accepted
unfolding check_reply encode
accepted_a = refl

-- without the exchange the flip 01 of the first point is not covered
pub uncovered_a : check_reply case_a clauses_a (encode 2 4 [] (0 ∷ 1 ∷ 3 ∷ []) (1 ∷ 2 ∷ 4 ∷ [])) ≡ refused 18 1
unfolding check_reply encode
uncovered_a = refl

-- T3: "Accepting an empty point list, which is stable vacuously."
pub empty_a : check_reply case_a clauses_a (encode 2 4 [] [] []) ≡ refused 16 0
unfolding check_reply encode
empty_a = refl
