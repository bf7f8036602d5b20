-- `search_loop::outgrown` meets its contract. Assumes nothing.
use Rattle.std.proofs.Common.{◌&&◌, sym, ap, ◌∙◌, ◌+◌, ltb, lt-ltb, le-ltb}
use Rattle.search_loop.proofs.outgrown.Goals as goal

pub returns-then-g : goal.returns-then-g
returns-then-g c = let a = c.args in sym (ap (λ b. b && ltb a.g.heads (a.filled + a.g.permutations.variables)) (lt-ltb a.g.heads a.g.room c.if-g.true))

pub returns-else-g : goal.returns-else-g
returns-else-g c =
    let a = c.args in
    let none = le-ltb a.g.heads a.g.room c.if-g.false in
    none ∙ sym (ap (λ b. b && ltb a.g.heads (a.filled + a.g.permutations.variables)) none)
