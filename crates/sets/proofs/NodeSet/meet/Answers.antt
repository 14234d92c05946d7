use lib.Bits.{bit_and}
use Rattle.std.proofs.Common.{◌≡◌, ℕ, ◌<◌, get_or, ◌∙◌, ap₂, rules}
use Rattle.sets.specs.Words.{IsWords}
use Rattle.sets.proofs.Words.{wordwise, and_wordly}
use Rattle.sets.proofs.NodeSet.meet.Goals as goal

pub returns : goal.returns
returns c =
    let xs = c.self.inside.words in
    let ys = c.other.inside.words in
    let zs = c.by_words.result in
    let ok : IsWords zs = search rules in
    let each : (k : ℕ) → k < 7 → get_or zs k 0 ≡ bit_and (get_or xs k 0) (get_or ys k 0) = search rules in
    wordwise bit_and and_wordly xs ys zs c.self.invariant c.other.invariant ok each ∙ ap₂ bit_and c.self.view_is c.other.view_is
