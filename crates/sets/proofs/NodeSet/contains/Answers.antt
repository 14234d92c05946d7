use Rattle.std.proofs.Common.{◌≡◌, ℕ, ◌/◌, ◌%◌, ◌^◌, eqb, get_or, sym, ap, ◌∙◌, rules}
use lib.Bits.{and_mask}
use Rattle.sets.specs.Sets.{has}
use Rattle.sets.proofs.Words.{has_joined}
use Rattle.sets.proofs.NodeSet.contains.Goals as goal

pub returns : goal.returns
unfolding has
returns c =
    let ws = c.self.inside.words in
    let v = c.args.v in
    let w : c.unwrap_or-w.result ≡ get_or ws (v / 64) 0 = search rules in
    ap (λ (x : ℕ). eqb x 1) (and_mask (c.unwrap_or-w.result / 2 ^ (v % 64)) 1) ∙ ap (λ (x : ℕ). has x (v % 64)) w ∙ sym (has_joined ws v) ∙ ap (λ (x : ℕ). has x v) c.self.view_is
