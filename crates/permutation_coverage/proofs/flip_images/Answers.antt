-- `permutation_coverage::flip_images` meets its contract: each image is flipped where its permutation sends v. Assumes
-- nothing.
use Rattle.std.proofs.Common.{◌≡◌, ℕ, ◌∙◌, ◌+◌, ◌-◌, ◌*◌, ◌<◌, ◌^◌, get_or, rules}
use Rattle.math.specs.Bits.{flip}
use Rattle.permutation_coverage.specs.Laws.Coverage.{Sends}
use Rattle.permutation_coverage.specs.Laws.CoverageLaws.{flip_sends, flip_changes}
use Rattle.permutation_coverage.proofs.flip_images.Goals as goal

pub turn_images-requires-clause-turns : goal.turn_images-requires-clause-turns
turn_images-requires-clause-turns c =
    let p = c.args.permutations in
    let sends : (i : ℕ) → i < p.count → Sends p.variables i c.args.v p.images.now = λ i lt. flip_sends c.requires.0 i lt c.args.v c.requires.2 in
    search (rules, sends)

pub returns : goal.returns
returns c =
    let p = c.args.permutations in
    c.turn_images.ensures (2 ^ c.args.v) (λ i image new lt says.
    let is : new ≡ flip image (get_or p.images.now (i * p.variables + c.args.v) 0 - 1) = search (rules, says) in
    is ∙ flip_changes c.requires.0 i lt c.args.v c.requires.2 image)
