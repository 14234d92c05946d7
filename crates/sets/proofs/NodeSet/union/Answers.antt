use lib.Bits.{bit_or}
use Rattle.std.proofs.Common.{◌≡◌, ℕ, ◌<◌, get_or, ◌∙◌, ap₂, rules}
use Rattle.sets.specs.Words.{IsWords}
use Rattle.sets.proofs.Words.{wordwise, or_wordly}
use Rattle.sets.proofs.NodeSet.union.Goals as goal

pub returns : goal.returns
returns c =
    let xs = c.self.inside.words in
    let ys = c.other.inside.words in
    let zs = c.by_words.result in
    let ok : IsWords zs = search rules in
    let each : (k : ℕ) → k < 7 → get_or zs k 0 ≡ bit_or (get_or xs k 0) (get_or ys k 0) = search rules in
    wordwise bit_or or_wordly xs ys zs c.self.invariant c.other.invariant ok each ∙ ap₂ bit_or c.self.view_is c.other.view_is
