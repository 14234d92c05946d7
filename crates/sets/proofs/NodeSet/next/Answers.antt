use Rattle.std.proofs.Common.{◌≡◌, ℕ, min, Option, ap, ◌∙◌, arith}
use Rattle.std.specs.Option.{unwrap_or}
use Rattle.sets.specs.Sets.{minus, up_to}
use Rattle.sets.specs.Rising.{lowest}
use Rattle.sets.proofs.Rises.{lowest_from, lowest_or}
use Rattle.sets.proofs.NodeSet.next.Goals as goal

pub returns : goal.returns
returns c =
    let x = c.args.self.now in
    let rest : ℕ = minus x (up_to (min c.args.from 448)) in
    let below : c.up_to.result ≡ up_to (min c.args.from 448) = c.up_to.ensures ∙ ap up_to (omega arith) in
    let e : c.minus-rest.result ≡ rest = c.minus-rest.ensures ∙ ap (minus x) below in
    c.unwrap_or.ensures ∙ ap (λ (r : Option ℕ). unwrap_or r 448) (c.first.ensures ∙ ap lowest e) ∙ lowest_or rest ∙ lowest_from x c.args.from
