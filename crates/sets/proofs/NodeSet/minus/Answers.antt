use lib.Bits.{bit_and, bit_xor}
use Rattle.std.proofs.Common.{◌≡◌, ℕ, ◌-◌, ◌^◌, ◌<◌, get_or, ◌∙◌, ap₂, rules, of_calls}
use Rattle.sets.specs.Words.{IsWords}
use Rattle.sets.proofs.Words.{wordwise, minus_wordly, and_not_word}
use Rattle.sets.proofs.NodeSet.minus.Goals as goal

pub returns : goal.returns
returns c =
    let xs = c.self.inside.words in
    let ys = c.other.inside.words in
    let zs = c.by_words.result in
    let f = λ (a b : ℕ). bit_xor a (bit_and a b) in
    let ok : IsWords zs = search rules in
    let each : (k : ℕ) → k < 7 → get_or zs k 0 ≡ bit_and (get_or xs k 0) (2 ^ 64 - 1 - get_or ys k 0) = λ k l. let p = c.by_words.ensures k l in search (rules, of_calls) parts 8 in
    wordwise f minus_wordly xs ys zs c.self.invariant c.other.invariant ok (λ k l. each k l ∙ and_not_word (get_or xs k 0) (get_or ys k 0) (c.self.invariant.1 k) (c.other.invariant.1 k))
    ∙ ap₂ f c.self.view_is c.other.view_is
